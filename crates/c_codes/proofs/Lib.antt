pub mod FinishLaws
pub mod DecodeLaws
