pub mod Lines
pub mod Packed
pub mod Refusals
pub mod Tracker
