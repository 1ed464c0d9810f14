pub mod SheetRunLaws
pub mod Demand1
pub mod ListedLaws
