-- What belongs to no one function.
pub mod Numbers
pub mod Each
pub mod OneAnswer
