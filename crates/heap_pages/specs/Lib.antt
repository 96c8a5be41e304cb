pub mod Slots
pub mod SlotSets
pub mod Pages
