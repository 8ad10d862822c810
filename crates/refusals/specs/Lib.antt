-- The number of each refusal, and what a call gives that may be refused.
pub mod Numbers
pub mod Given
