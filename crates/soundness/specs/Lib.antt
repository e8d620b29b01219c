-- The tests of soundness, then their laws.
pub mod Tests
pub mod EveryLaws
pub mod StartLaws
pub mod ZoneLaws
pub mod CarLaws
pub mod RosterLaws
pub mod EntryLaws
pub mod SoundnessLaws
pub mod SweepLaws
