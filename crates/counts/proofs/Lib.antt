pub mod CountLaws
pub mod TalliedLaws
