-- What belongs to no one function.
pub mod Each
mod Gives
pub mod First
pub mod Numbers
pub mod Words
pub mod Open
pub mod Order
pub mod NoNan
mod Guards
pub mod Meaning
pub mod Laws
pub mod Counts
pub mod Edges
pub mod Both
pub mod OneAnswer
