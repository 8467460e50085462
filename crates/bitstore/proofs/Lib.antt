pub mod Bytes
pub mod Groups
pub mod Held
pub mod Order
pub mod Places
pub mod Ranks
pub mod Reached
mod Stored
pub mod Turns
