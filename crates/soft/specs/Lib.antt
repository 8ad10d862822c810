-- What correct rounding is, over whole numbers, the four operations on words by it, and what the functions inside promise.
pub mod Rounding
pub mod Operations
pub mod Words
pub mod Digits
