pub mod KindLaws
pub mod KeptLaws
pub mod RestLaws
pub mod RowLaws
pub mod OnLaws
pub mod StepLaws
pub mod RootLaws
pub mod TableLaws
