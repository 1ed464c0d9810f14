pub mod FieldLaws
pub mod FirstLine
pub mod GrammarLaws
pub mod NullableSteps
pub mod RefusalLaws
pub mod IndexLaws
pub mod TrackerLaws
pub mod PackedLaws
