mod Leading
mod Waiting
pub use Rattle.threads_loops.proofs.Crosses
pub use Rattle.threads_loops.proofs.builder_end.BuilderEnd.TheSendSync as BuilderEnds
