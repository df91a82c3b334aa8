-- What the proofs of convert share.
pub mod BlockLaws
