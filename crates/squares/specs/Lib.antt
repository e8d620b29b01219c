-- Definitions, then what the functions below the calls promise, then laws.
pub mod Shape
pub mod Ride
pub mod Squares
pub mod Refusals
pub mod Bounds
pub mod Made
pub mod Leaves
pub mod Slide
pub mod Spread
pub mod RefusalLaws
pub mod PowerLaws
pub mod ShapeLaws
pub mod SquareLaws
pub mod DifferLaws
pub mod CornerLaws
pub mod RectLaws
pub mod RideLaws
