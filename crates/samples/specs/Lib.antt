pub mod Samples
pub mod Selection
