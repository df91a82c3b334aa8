pub mod Gather
pub mod GatherTheorems
