pub mod Codes
pub mod EditionLaws
pub mod SecondCodes
