mod Keeps
mod Names
