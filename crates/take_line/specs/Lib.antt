-- What the contracts of lines that came cite.
pub mod Line
pub mod Judged
