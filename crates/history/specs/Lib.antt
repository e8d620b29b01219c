pub mod History
pub mod HistoryLaws
pub mod Sentences
pub mod Rides
pub mod Whole
pub mod WholeTables
