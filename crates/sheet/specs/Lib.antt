pub mod Field
pub mod Numeral
pub mod Area
pub mod Sheet
pub mod Listing
pub mod Answers
pub mod Demand1
