-- A block's clauses as the lines of their gate.
pub use Rattle.row_words.proofs.laws.Cells.{gate-ran}
