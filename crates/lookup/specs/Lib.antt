pub mod Looks
pub mod LookLaws
pub mod ClimbLaws
pub mod SpotLaws
