pub mod Load
pub mod Bitmap
pub mod Staging
