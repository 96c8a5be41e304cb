mod Standing
mod Opening
mod Holding
mod Levels
mod Ordered
mod Deciding
mod Checked
mod Answered
mod Further
pub mod Laws
