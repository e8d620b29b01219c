pub mod Rosters
pub mod Inside
pub mod Ridden
pub mod RosterLaws
pub mod InsideLaws
pub mod RiddenLaws
