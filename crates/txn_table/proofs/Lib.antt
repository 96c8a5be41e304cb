-- TableLaws is for the crates above: what a lookup finds after a step, and who holds a row then.
mod Lookups
mod HeldRows
mod Keeps
mod Noted
pub mod TableLaws
