pub mod Counting
pub mod Inheriting
pub mod Places
pub mod Words
