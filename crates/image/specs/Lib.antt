-- What the contracts of the image cite, and what is proved of it.
pub mod Layout
pub mod Image
pub mod Fits
