pub mod Layout
pub mod Image
pub mod Damage
pub mod Source
pub mod Steps
pub mod Part
pub use Rattle.store_image_parts.specs.declared.head.Head
pub use Rattle.store_image_parts.specs.Spelling
