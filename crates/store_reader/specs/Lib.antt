pub mod Contents
pub mod Store
pub mod Restored
pub use Rattle.store_image_half.specs.Source
