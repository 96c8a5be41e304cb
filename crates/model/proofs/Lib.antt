pub mod MapLaws
pub mod PairLaws
pub mod TableLaws
pub mod CellsLaws
pub mod HistoryLaws
mod MapUses
pub mod RecoveryLaws
pub mod FollowingLaws
mod PlacesLaws
pub mod PlacedLaws
pub mod ImageLaws
pub mod GivenLaws
pub mod InsideLaws
mod AboveLaws
pub mod ExtendedLaws
mod PageLaws
