-- Bytes as bits, at some places after an offset.
use Rattle.std.specs.Prelude.{ℕ, ◌+◌, Bool, List, map}
use Rattle.scope.specs.Cnf.{bit}

-- the bits of some places, each counted from 1 after an offset
abbrev pub marks : List ℕ → ℕ → List ℕ → List Bool
marks b at ts = map (λ t. bit b (at + t)) ts
