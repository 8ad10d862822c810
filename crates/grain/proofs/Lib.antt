-- Laws of the offers, one by one and over histories.
pub mod Answers
pub mod History
pub mod Divisors
pub mod Steady
pub mod SameWord
pub mod Bounded
pub mod Sides
pub mod Toward
pub mod Rising
pub mod Examples
pub mod OneAnswer
