pub mod Package
pub mod Judged
