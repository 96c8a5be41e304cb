mod ObjectLemmas
mod Outcomes
mod PairRecords
mod ReadLemmas
mod RowLemmas
