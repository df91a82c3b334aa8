pub mod Answer
pub mod Event
pub mod Reading
pub mod Line
pub mod Package
pub mod Close
pub mod Listing
pub mod Lowest
