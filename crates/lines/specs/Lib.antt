-- What the lines of an input are, what answers one, and how they are found chunk by chunk.
pub mod Lines
pub mod Answering
pub mod Enough
pub mod Held
