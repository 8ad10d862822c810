-- What belongs to no one function.
pub mod Cutting
pub mod Meaning
pub mod Front
pub mod Kept
pub mod Holding
pub mod Feeding
pub mod Runs
pub mod Calls
pub mod OneAnswer
