pub mod SheetRun
pub mod Demand1
pub mod Listed
