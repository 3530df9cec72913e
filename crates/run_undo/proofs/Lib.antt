pub mod UndoLaws
pub mod UndoLawsBack
pub mod UndoLawsCall
