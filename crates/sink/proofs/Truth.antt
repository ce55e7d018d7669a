-- The truth of a variable, of a literal and of a word, by cases.
use mathlib.Core.Path.{◌≡◌, refl, ◌∙◌}
use mathlib.Core.Bool.{Bool, true, false, not, ◌||◌}
use mathlib.Core.List.{List}
use Prim.Native.Nat.{ℕ, zero, suc, ◌-◌, ◌/◌, ◌%◌, ◌≤◌, ◌<◌}
use native.Mathlib.Numerals.{sub-one}
use native.Mathlib.Omega.{arith}
use lib.ListN.{length, get_or, get_or-eq_default}
use lib.Dec.{eqb}
use Rattle.scope.specs.Cnf.{Assignment, bit, lit}
use borrow.Author.Tests.{lt-leb, le-leb}
use Rattle.sink.specs.Run.{further}
use Rattle.sink.specs.Block.{by_word}
use Rattle.sink.specs.World.{bad_after}
use Rattle.sink.specs.Parts.{judge_parts}
use Rattle.sink.specs.declared.Judgement.{Judgement}

pub bit-none : (m : List ℕ) (v : ℕ) → v ≡ 0 → bit m v ≡ false
unfolding bit
bit-none m v e = rw e

pub bit_at : (m : List ℕ) (v : ℕ) → (v ≡ 0 → ⊥) → bit m v ≡ eqb (get_or m (v - 1) 0) 1
unfolding bit
bit_at m zero z = absurd (z refl)
bit_at m (suc k) z = rw sub-one

pub bit_past : (m : List ℕ) (v : ℕ) → (v ≡ 0 → ⊥) → length m ≤ v - 1 → bit m v ≡ false
bit_past m v z h = bit_at m v z ∙ rw (get_or-eq_default m 0 h)

pub lit-negative : (ν : Assignment) (l : ℕ) → l % 2 ≡ 1 → lit ν l ≡ not (ν (l / 2))
unfolding lit
lit-negative ν l e = rw e

pub lit-positive : (ν : Assignment) (l : ℕ) → (l % 2 ≡ 1 → ⊥) → lit ν l ≡ ν (l / 2)
unfolding lit
lit-positive ν l z = let e : l % 2 ≡ 0 = omega (arith, z) in rw e

-- a word that is not its clause's last is a literal, and the last one is a literal with the mark on it
pub word-open : (m : List ℕ) (j : Judgement) (w : ℕ) {b : Bool} → b ≡ (j.holds || lit (bit m) (w % 2147483648)) → w < 2147483648
    → record { at = j.at; bad = j.bad; holds = b } ≡ by_word (judge_parts m) true w j
word-open m j w e h = let q : w % 2147483648 ≡ w = omega arith in rw (e, q, lt-leb 2147483648 w h)

pub word-last : (m : List ℕ) (j : Judgement) (w : ℕ) {b : Bool} {a n : ℕ} → b ≡ (j.holds || lit (bit m) (w % 2147483648)) → 2147483648 ≤ w → w < 4294967296
    → a ≡ further j.at 1 → n ≡ bad_after b a j.bad → record { at = a; bad = n; holds = false } ≡ by_word (judge_parts m) true w j
word-last m j w e h k f g = let q : w % 2147483648 ≡ w - 2147483648 = omega arith in rw (g, f, e, q, le-leb 2147483648 w h)
