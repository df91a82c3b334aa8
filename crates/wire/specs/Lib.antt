pub mod Bits
pub mod Bytes
pub mod Lists
pub mod Pieces
pub mod Text
pub mod Words
pub mod NumberLaws
