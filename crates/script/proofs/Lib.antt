pub mod ToldLaws
pub mod HeadLaws
pub mod ParseLaws
pub mod PlaceLaws
pub mod ExpressionLaws
pub mod ScriptLaws
pub mod AcceptedLaws
pub mod FieldLaws
