-- What an answer of this crate stands for.
use Rattle.std.specs.Prelude.{ℕ, Option, Some, None}
use Rattle.std.proofs.Math.Option.{Option as Maybe, none, some}

-- the first of some things that was looked for, if there is one
abbrev pub found_at : Option ℕ → Maybe ℕ
found_at (Some k) = some k
found_at None = none
