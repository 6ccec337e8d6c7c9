pub mod AnswerText
pub mod Words
pub mod Lines
pub mod Settings
