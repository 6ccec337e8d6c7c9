pub mod ReportBack
pub mod UplinkBack
pub mod DownlinkBack
