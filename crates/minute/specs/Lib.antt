-- What the contracts of minute cite.
pub mod Step
