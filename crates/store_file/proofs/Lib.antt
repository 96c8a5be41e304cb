mod Mirrors
mod Holding
