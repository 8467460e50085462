pub mod Items
pub mod Puts
pub mod Removals
pub mod Repeats
