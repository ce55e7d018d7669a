-- Runs and runs of stores, passed on from the crate digits.
pub use Rattle.digits.proofs.laws.Store.{run-sets, ran-sets, run_fits, run_at, run_length, further-further}
