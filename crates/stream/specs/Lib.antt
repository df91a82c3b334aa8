-- What the programs' contracts cite.
pub mod Start
pub mod Kind
pub mod Record
pub mod Run
