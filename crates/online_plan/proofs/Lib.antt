mod Planned
mod Following
