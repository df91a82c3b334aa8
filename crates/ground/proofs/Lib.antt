pub mod Answers
pub mod Back
pub mod Archive
pub mod Damage
pub mod Numbers
