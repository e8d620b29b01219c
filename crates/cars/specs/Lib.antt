pub mod Admits
pub mod AdmitLaws
pub mod SeeLaws
pub mod ReportLaws
pub mod LeaveLaws
