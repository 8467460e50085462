pub mod Changes
pub mod Listings
pub mod Passes
pub mod Rests
pub mod Rooms
