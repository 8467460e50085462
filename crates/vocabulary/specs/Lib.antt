pub mod Codes
pub mod Effects
pub mod Equality
pub mod Families
pub mod Faults
pub mod Ranges
pub mod Refusals
