pub mod RecordLaws
pub mod SampleLaws
pub mod Places
pub mod SelectionLaws
