pub mod Promises
pub mod PromiseLaws
pub mod Unique
