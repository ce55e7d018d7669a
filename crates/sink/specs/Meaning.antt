-- What a run over a formula's lines comes to, mode by mode.
use mathlib.Core.List.{List, flat_map}
use Rattle.std.proofs.Math.Option.{Option, none, some}
use Rattle.std.specs.Prelude.{ℕ}
use Rattle.scope.specs.Text.{line}

-- the lines of hard clauses and of soft units, as bytes, and hard clauses as words
abbrev pub hard_text : ℕ → List (List ℕ) → List ℕ
hard_text top cs = flat_map (line top) cs

-- the id that was found, or 0
abbrev pub found : Option ℕ → ℕ
found none = 0
found (some v) = v
