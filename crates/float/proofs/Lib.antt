-- What belongs to no one function.
pub mod Signs
mod Twos
pub mod Squaring
pub mod Products
pub mod AtWidth
pub mod OneAnswer
pub mod Rows
pub mod Examples
pub mod ExactCases
pub mod Nans
pub mod Marks
pub mod MarkedWords
pub mod LeftOf
