pub mod Contents
pub mod Copying
pub mod Image
pub mod Known
pub mod Parts
pub mod Places
pub mod Writer
