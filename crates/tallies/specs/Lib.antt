pub mod Holder
pub mod Counts
pub mod HolderLaws
pub mod CountLaws
pub mod RightLaws
