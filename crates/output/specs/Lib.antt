pub mod Ended
pub mod Output
