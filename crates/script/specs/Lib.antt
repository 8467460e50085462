pub mod Forms
pub mod Makings
pub mod Numbers
pub mod Offers
pub mod Rules
pub mod Sections
