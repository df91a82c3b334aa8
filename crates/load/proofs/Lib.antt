pub mod LoadLaws
pub mod BitmapLaws
pub mod StagingLaws
