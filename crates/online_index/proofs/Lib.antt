mod Checkpoints
mod PieceLemmas
mod Redoing
mod Running
mod SetEntries
mod Slots
mod StandingLemmas
