pub mod Layout
pub mod Packet
pub mod TableSum
