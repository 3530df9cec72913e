pub mod PickLaws
pub mod RankLaws
