-- What belongs to no one function.
pub mod Digits
pub mod Answers
pub mod OneAnswer
