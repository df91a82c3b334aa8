pub mod Limits
pub mod Ranges
pub mod Read
pub mod Damage
