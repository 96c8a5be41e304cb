pub mod Grammar
pub mod Reading
pub mod Scans
pub mod ReadingScans
pub mod Shell
pub mod ReadingShell
