mod Refusals
mod OneStore
