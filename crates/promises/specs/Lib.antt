pub mod Promise
pub mod Events
pub mod PromiseLaws
pub mod StandingLaws
