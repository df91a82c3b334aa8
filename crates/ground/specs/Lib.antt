pub mod Ground
pub mod Theorems
