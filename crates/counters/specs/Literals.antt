-- Literals that can be written as words.
pub use Rattle.row_words.specs.Literals.{Literal, LiteralsTo, Literals}
