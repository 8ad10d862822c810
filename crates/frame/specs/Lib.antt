-- What a line says and what is answered to it.
pub mod Words
pub mod Frame
