-- What is known of a read and of a write, what is done with the bytes of a read, over the turns of a run, and what is written.
pub mod Known
pub mod Chunk
pub mod Turns
pub mod Written
