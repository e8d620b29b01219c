-- Laws over plain numbers and answers that the functions' proofs cite.
pub mod Shifts
pub mod Sides
pub mod Pairs
pub mod Nans
