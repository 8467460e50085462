pub mod Answers
pub mod Entries
pub mod Growth
pub mod Passes
pub mod Reach
pub mod Steps
pub mod Tables
