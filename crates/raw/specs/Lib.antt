-- Which kernel stands under which number.
pub mod Raw
pub mod Numbers
