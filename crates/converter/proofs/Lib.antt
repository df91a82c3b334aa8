pub mod Recoded
pub mod Reread
pub mod Archive
pub mod Converts
pub mod When
