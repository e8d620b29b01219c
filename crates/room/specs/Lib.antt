pub mod Room
pub mod Leaves
pub mod RoomLaws
pub mod OpenLaws
pub mod TameLaws
