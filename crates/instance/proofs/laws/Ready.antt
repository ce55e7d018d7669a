-- Counts that are 0.
pub use Rattle.constraint_end.proofs.laws.Ready.{zeros}
