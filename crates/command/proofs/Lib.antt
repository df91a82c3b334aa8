pub mod CommandLaws
pub mod DigitLaws
pub mod GivenLaws
pub mod KeywordLaws
pub mod WordLaws
