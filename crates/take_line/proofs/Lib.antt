pub mod LineLaws
pub mod LineLimits
