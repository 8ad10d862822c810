-- What belongs to no one function.
pub mod Numbers
pub mod Given
pub mod OneAnswer
