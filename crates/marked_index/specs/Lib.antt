pub mod Index
pub mod Shown
pub mod Counts
pub mod Passing
pub use Rattle.btree_node.specs.Above
pub use Rattle.btree_node.specs.Contents
