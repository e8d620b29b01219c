pub mod SearchLaws
pub mod ScoringLaws
pub mod ReadLaws
pub mod SoundnessLaws
