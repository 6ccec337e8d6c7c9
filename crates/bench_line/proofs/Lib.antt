pub mod Requests
pub mod SettingsLaws
