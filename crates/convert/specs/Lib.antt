-- What the contracts of convert cite.
pub mod Block
