-- What belongs to no one function.
pub mod Holding
pub mod Written
