-- Lemmas on nodes, rows and ascending entries, for this crate and those above it.
pub mod Order
pub mod Children
pub mod Local
mod DescentLemmas
pub mod Balance
pub mod RowLemmas
pub mod Neighbours
pub mod Places
