-- How long a text is at most: far below 2 ^ 63.
use mathlib.Core.Path.{◌≡◌}
use mathlib.Core.Bool.{Bool, true, false, cond}
use mathlib.Core.List.{List, [], ◌∷◌, ◌++◌, flat_map}
use Prim.Native.Nat.{ℕ, zero, suc, ◌+◌, ◌*◌, ◌/◌, ◌%◌, ◌≤◌}
use native.Mathlib.Omega.{arith}
use lib.Dec.{ltb, eqb}
use lib.ListN.{length, length-append}
use Rattle.scope.specs.Instance.{Instance}
use Rattle.scope.specs.Formula.{words, hard_of, soft_of}
use Rattle.scope.specs.Text.{digits, decimal, space, literal_text, line, header_line, text, top}
use Rattle.sink.specs.Meaning.{hard_text}
use Rattle.sink.proofs.laws.Meaning.{soft_text}
use Rattle.sizing.specs.declared.Size.{Size}
use Rattle.sizes.specs.Whole.{Numbers}

-- a number has at most 20 digits
pub digits-few : (k n : ℕ) → length (digits k n) ≤ suc k
unfolding digits
digits-few zero n = omega arith
digits-few (suc k) n = rw (length-append (cond (ltb n 10) [] (digits k (n / 10))) ((48 + n % 10) ∷ [])) (go (ltb n 10) (digits-few k (n / 10)))
  where
    go : (b : Bool) → length (digits k (n / 10)) ≤ suc k → length (cond b [] (digits k (n / 10))) + 1 ≤ suc (suc k)
    go true h = omega arith
    go false h = omega arith

-- a literal takes at most 22 bytes
literal-few : (l : ℕ) → length (literal_text l) ≤ 22
unfolding literal_text
literal-few l = go (eqb (l % 2) 1)
  where
    go : (b : Bool) → length (cond b (45 ∷ []) [] ++ decimal (l / 2) ++ space) ≤ 22
    go true = simp length-append (omega (arith, digits-few 19 (l / 2)))
    go false = simp length-append (omega (arith, digits-few 19 (l / 2)))

literals-few : (c : List ℕ) → length (flat_map literal_text c) ≤ 22 * length c
unfolding flat_map
literals-few [] = omega arith
literals-few (l ∷ ls) = simp length-append (omega (arith, literal-few l, literals-few ls))

-- a line takes at most 23 beside its literals
line-few : (w : ℕ) (c : List ℕ) → length (line w c) ≤ 23 + 22 * length c
unfolding line
line-few w c = simp length-append (omega (arith, digits-few 19 w, literals-few c))

hard-few : (t : ℕ) (cs : List (List ℕ)) → length (hard_text t cs) ≤ 23 * length cs + 22 * words cs
unfolding flat_map words
hard-few t [] = omega arith
hard-few t (c ∷ cs) = simp length-append (omega (arith, line-few t c, hard-few t cs))

soft-few : (us : List (ℕ × ℕ)) → length (soft_text us) ≤ 45 * length us
unfolding flat_map
soft-few [] = omega arith
soft-few (u ∷ us) = simp length-append (omega (arith, line-few u.0 (u.1 ∷ []), soft-few us))

module _ (i : Instance) where
  -- header, hard lines, soft lines
  pub text-length : length (text i) ≡ length (header_line i) + (length (hard_text (top i) (hard_of i)) + length (soft_text (soft_of i)))
  unfolding text
  text-length = simp length-append (omega arith)

  pub lines_few : {z : Size} → Numbers i z → length (hard_text (top i) (hard_of i)) + length (soft_text (soft_of i)) ≤ 99149320028160
  lines_few n = omega (arith, hard-few (top i) (hard_of i), soft-few (soft_of i), n.clauses, n.words, n.units, n.within.clauses, n.within.words, n.within.units)
