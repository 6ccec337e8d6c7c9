pub mod RecordLayout
pub mod laws
pub mod AnswerLayout
pub mod Hosting
