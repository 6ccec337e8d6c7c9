pub mod UplinkTable
pub mod ElementCount
pub mod Contents
pub mod DownlinkTable
pub mod Answers
pub mod Reasons
pub mod Default
pub mod Examples
