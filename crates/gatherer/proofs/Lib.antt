pub mod Gathers
pub mod GatherDamage
