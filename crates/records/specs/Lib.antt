pub mod ChangeValue
pub mod RecordValue
pub mod Spelling
pub mod Reading
pub mod Codes
