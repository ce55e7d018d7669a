-- Literals that can be written as words.
pub use Rattle.row_words.proofs.laws.Literals.{literal-opposite, small_all, literals-take}
