-- How an entry of a list of recipes is answered, and what is written of a list.
pub mod Held
pub mod Entries
pub mod Written
