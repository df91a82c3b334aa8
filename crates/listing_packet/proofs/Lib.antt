pub mod ListingLaws
pub mod Listed
