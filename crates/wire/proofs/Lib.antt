pub mod BitLaws
pub mod Bytes
pub mod Lists
pub mod Pieces
pub mod WordLaws
