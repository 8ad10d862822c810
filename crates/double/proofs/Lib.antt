-- What belongs to no one function.
mod Gives
mod Open
pub mod NoNan
mod Guards
pub mod Meaning
pub mod Ordered
pub mod Edges
pub mod OneAnswer
