-- What belongs to no one function.
pub mod Front
pub mod Written
pub mod Chunk
pub mod InTurn
