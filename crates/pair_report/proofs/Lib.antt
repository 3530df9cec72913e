pub mod PairLaws
pub mod ExamplesHold
pub mod FilesByFront
pub mod FreeLines
