pub mod TextLaws
pub mod DecimalBack
