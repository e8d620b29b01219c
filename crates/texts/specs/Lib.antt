pub mod Texts
pub mod Asks
pub mod Leaves
pub mod FrontLaws
pub mod SaidLaws
