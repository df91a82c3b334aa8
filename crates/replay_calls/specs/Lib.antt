-- What the contracts of replay's records and calls cite.
pub mod Record
pub mod Calls
pub mod Ground
