-- The header's bytes for three numbers, and their length: laws.
use mathlib.Core.Path.{◌≡◌, refl}
use mathlib.Core.List.{◌++◌, append_assoc}
use Prim.Native.Nat.{ℕ, ◌+◌}
use native.Mathlib.Omega.{arith}
use lib.ListN.{length, length-append}
use Rattle.scope.specs.Instance.{Instance}
use Rattle.scope.specs.Formula.{variables, hard_of, soft_of}
use Rattle.scope.specs.Text.{decimal, header, space, newline, header_line, top}
use Rattle.header.specs.Header.{header_text}

pub header-line : (i : Instance) → header_line i ≡ header_text (variables i) (length (hard_of i) + length (soft_of i)) (top i)
unfolding header_line header_text
header-line i = refl

-- the same, field by field
pub header-fields : (v c t : ℕ) → header_text v c t ≡ header ++ (decimal v ++ space) ++ (decimal c ++ space) ++ (decimal t ++ newline)
unfolding header_text
header-fields v c t = simp append_assoc

-- ten bytes beside its numbers
pub header-length : (v c t : ℕ) → length (header_text v c t) ≡ length (decimal v) + length (decimal c) + length (decimal t) + 10
unfolding header_text
header-length v c t = simp length-append (omega arith)
