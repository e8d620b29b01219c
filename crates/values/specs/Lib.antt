-- What is told, and its laws.
pub mod Promises
pub mod TellLaws
