pub mod Contrary
pub mod Places
pub mod Settled
pub mod Worlds
