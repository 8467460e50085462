pub mod Onwards
pub mod Reading
