-- What a strip of words is answered with.
pub mod Strip
pub mod Lists
pub mod Reach
pub mod Steps
