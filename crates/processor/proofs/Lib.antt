pub mod CallLaws
pub mod LimitsKept
pub mod Lowest
pub mod Lent
