pub mod CrashFiles
pub mod Moments
mod Past
pub mod Spelled
mod Tear
pub mod Within
