pub mod FieldLaws
pub mod NumberLaws
pub mod CallLaws
