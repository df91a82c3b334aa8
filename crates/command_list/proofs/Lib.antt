pub mod CommandListLaws
pub mod RunLaws
