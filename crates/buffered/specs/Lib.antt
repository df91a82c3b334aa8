-- What the contracts of buffered input cite.
pub mod Input
