pub mod Starts
pub mod Shift
pub mod SwapStarts
pub mod RankLaws
pub mod ShiftLaws
pub mod SwapStartLaws
