pub mod Asked
pub mod Change
pub mod Grammar
pub mod Parsing
