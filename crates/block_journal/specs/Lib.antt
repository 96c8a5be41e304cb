pub mod Entries
pub mod Gathered
pub mod Journal
pub mod Layout
pub mod Opening
pub mod JournalParts
pub mod Value
