pub mod Written
pub mod WordSums
