pub mod Causes
pub mod Checks
