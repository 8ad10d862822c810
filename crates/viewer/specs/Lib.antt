-- What is on screen of two rows.
pub mod View
