-- The definitions that the crates above cite, over the formats of `lib.Ieee`; and `First`, which is about lists of refusals.
pub mod Fields
pub mod Sign
pub mod Exponent
pub mod Value
pub mod Classes
pub mod First
pub mod Cast
pub mod Parts
pub mod Whole
pub mod Meaning
pub mod Estimates
pub mod Ordered
