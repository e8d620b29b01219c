pub mod Rooms
pub mod OpenLaws
pub mod AddLaws
pub mod RemoveLaws
pub mod RideLaws
