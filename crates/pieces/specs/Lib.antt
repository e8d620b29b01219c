pub mod Pieces
pub mod Leaves
pub mod FillLaws
pub mod PromiseLaws
pub mod PieceLaws
