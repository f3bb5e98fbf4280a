pub mod Export
pub mod Steps
pub mod FieldCases
pub mod ValueCases
pub mod ChoiceCases
pub mod LineCases
pub mod RecordCases
