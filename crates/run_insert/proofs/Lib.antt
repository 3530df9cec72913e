pub mod InsertLawsScan
pub mod InsertLaws
pub mod InsertLawsRest
pub mod InsertLawsItems
