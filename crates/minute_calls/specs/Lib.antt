-- What the contracts of minute's records and calls cite.
pub mod Record
pub mod Line
pub mod Events
pub mod Calls
