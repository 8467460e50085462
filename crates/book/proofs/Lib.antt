pub mod Applying
pub mod Closing
pub mod Growing
pub mod Listing
pub mod Reading
pub mod Spreading
pub mod Steps
