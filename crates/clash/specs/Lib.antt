pub mod Contrary
pub mod Searches
pub mod Verdicts
