pub mod Words
pub mod CommandLine
