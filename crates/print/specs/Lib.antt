pub mod Text
pub mod Leaves
pub mod TextLaws
pub mod Examples
