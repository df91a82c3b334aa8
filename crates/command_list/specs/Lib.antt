pub mod CommandList
pub mod Run
