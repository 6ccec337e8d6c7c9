pub mod Places
pub mod Numbers
pub mod ChangeNumbers
pub mod UplinkNumbers
pub mod laws
pub mod VectorNumbers
pub mod ReportNumbers
pub mod DownlinkNumbers
