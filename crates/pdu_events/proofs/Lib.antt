pub mod ChangeBounds
pub mod ChangeNames
pub mod ChangeNorms
