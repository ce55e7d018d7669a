-- A run over outputs that are lent from a position on is the run over the whole outputs.
use Rattle.std.specs.Prelude.{◌≡◌, List, ℕ, min, length, take}
use Rattle.sink.specs.declared.Mode.{Mode}
use Rattle.sink.specs.declared.Mode.TheVariants.{Measure, Text, SoftText, Words, Evaluate, Tail}

-- where outputs are lent from, by mode
abbrev pub part_base : Mode → ℕ → ℕ
part_base Measure a = a
part_base Text a = a
part_base SoftText a = a
part_base Words a = a
part_base Evaluate a = 0
part_base Tail a = a

-- what stands before a lent part is as it was
pub record Before (p : ℕ) (old new : List ℕ) : Type 0 where
  pub eq : take (min p (length old)) new ≡ take (min p (length old)) old
