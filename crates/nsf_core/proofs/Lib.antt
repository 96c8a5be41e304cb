mod Kept
mod Fresh
mod Beginning
mod Creating
mod Dropping
mod Loading
mod Roomy
mod Waiting
mod Skipping
mod Refusing
mod Steps
pub mod Offered
mod Noted
