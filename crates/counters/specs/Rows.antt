-- The gates of a counter's rows.
pub use Rattle.row_words.specs.Rows.{gates-map}
