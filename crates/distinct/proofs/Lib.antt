pub mod Decided
pub mod Fronts
pub mod Members
pub mod Pushes
pub mod Sameness
pub mod Shifts
pub mod Told
