pub mod WalkLaws
pub mod BindLaws
pub mod KindLaws
pub mod AnyLaws
