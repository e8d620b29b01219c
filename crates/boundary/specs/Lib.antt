-- What the exported calls promise, and its laws.
pub mod Promises
pub mod GivesLaws
pub mod RideLaws
pub mod UniqueLaws
pub mod ExactLaws
