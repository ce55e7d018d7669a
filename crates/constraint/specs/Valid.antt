-- A constraint that was decoded: its weight and fields are within their limits, and where it ends.
pub use Rattle.parsing.specs.Valid.{OneOf, BoundsIn, InRange}
