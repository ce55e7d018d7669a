-- A literal that is put on the trail, and how many it then holds.
use Rattle.std.specs.Prelude.{cond, List, ℕ, ◌+◌, leb, set}

-- a literal is put on a trail of room for k that holds n; the largest number of a machine's word says that there was no room
abbrev pub largest : ℕ
largest = 18446744073709551615

unfoldable pub recorded_at : ℕ → ℕ → ℕ
recorded_at k n = cond (leb k n) largest (n + 1)

abbrev pub recorded : List ℕ → ℕ → ℕ → List ℕ
recorded tr n l = set tr n l
