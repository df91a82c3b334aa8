pub mod ColumnLaws
pub mod EventLaws
