pub mod ColumnLaws
pub mod RowLaws
