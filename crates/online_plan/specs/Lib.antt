pub mod Plans
pub mod Building
