mod Words
pub mod Bytes
