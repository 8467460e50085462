pub mod Listing
pub mod Nth
pub mod Places
pub mod Rounds
pub mod Told
