-- What belongs to no one function.
mod Places
mod Sofar
mod Filled
mod Marks
mod Numbers
mod Near
mod Sized
mod Quadrants
mod Slopes
mod Sides
pub mod Answers
pub mod InReach
pub mod Runs
pub mod Cutting
pub mod InBlocks
pub mod OneAnswer
pub mod Examples
