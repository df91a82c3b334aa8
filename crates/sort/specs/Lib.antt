pub mod Event
pub mod Columns
pub mod Matrix
pub mod Sorting
pub mod Boxes
