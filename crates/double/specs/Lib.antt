-- What a guarded call on a double answers: the operations by number, their gates, the refusals in order, and the answer as a number and as words.
pub mod Operations
pub mod Refusals
pub mod Guarded
pub mod Words
