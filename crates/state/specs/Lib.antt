pub mod Interval
pub mod State
pub mod Limits
