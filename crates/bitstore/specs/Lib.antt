pub mod Layout
pub mod Marks
pub mod Passes
pub mod Rooms
