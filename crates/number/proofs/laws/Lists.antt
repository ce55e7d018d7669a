-- Lists in a store: the elements from its front, and the turns of a loop that reads a list of references into it, from the
-- offset o of the store on: laws.
use Prim.Native.Nat.{ℕ, zero, suc, ◌+◌, ◌-◌, ◌≤◌, ◌<◌}
use mathlib.Core.Path.{◌≡◌, refl, sym, ap, ◌∙◌}
use mathlib.Core.List.{List, [], ◌∷◌, ◌++◌}
use lib.ListN.{length, get_or, take, drop, set, length-drop}
use lib.Seq.{take-suc-set, drop-set-add}
use native.Mathlib.Nat.{not-suc-le-zero, le_of_suc-le-suc}
use native.Mathlib.Omega.{arith}
use native.Mathlib.Numerals.{add-one}
use Rattle.scope.specs.Parsed.{Parsed, got}
use Rattle.scope.specs.Number.{limited, reference, references, listed}
use Rattle.scope.specs.Answers.{refused_by}
use Rattle.scope.specs.declared.refusal.Refusal.{Refusal}
use Rattle.parsing.proofs.laws.Parsing.{before, before-cons, before-nil, before-end}
use Rattle.number.specs.Lists.{leading}

pub length-leading : (n : ℕ) (l : List ℕ) → length (leading n l) ≡ n
unfolding leading
length-leading zero l = refl
length-leading (suc n) [] = ap suc (length-leading n [])
length-leading (suc n) (x ∷ l) = ap suc (length-leading n l)

pub leading-take : (n : ℕ) (l : List ℕ) → n ≤ length l → leading n l ≡ take n l
unfolding leading
leading-take zero l h = refl
leading-take (suc n) [] h = elim (not-suc-le-zero h) [ ]
leading-take (suc n) (x ∷ l) h = ap (λ (r : List ℕ). x ∷ r) (leading-take n l (le_of_suc-le-suc h))

pub get_d-leading : (n : ℕ) (l : List ℕ) (i : ℕ) → i < n → get_or (leading n l) i 0 ≡ get_or l i 0
unfolding leading
get_d-leading zero l i h = elim (not-suc-le-zero h) [ ]
get_d-leading (suc n) [] zero h = refl
get_d-leading (suc n) [] (suc i) h = get_d-leading n [] i (le_of_suc-le-suc h)
get_d-leading (suc n) (x ∷ l) zero h = refl
get_d-leading (suc n) (x ∷ l) (suc i) h = get_d-leading n l i (le_of_suc-le-suc h)

-- what is left to read after i of them, with those before it
abbrev pub left_after : ℕ → List ℕ → ℕ → ℕ → ℕ → ℕ → List ℕ → ℕ → Parsed (List ℕ)
left_after o out i count prev n s at = before (take i (drop o out)) (references (count - i) prev n s at)

-- at the start, once the count is read
pub list-start : (o : ℕ) (out : List ℕ) (count n : ℕ) (s : List ℕ) (at next : ℕ)
    → limited 0 n s at ≡ got count next
    → listed n s at ≡ left_after o out 0 count 0 n s next
unfolding listed
list-start o out count n s at next e = let k : count - 0 ≡ count = omega arith in rw (e, k) (sym (before-nil (references count 0 n s next)))

module _ (o : ℕ) (out : List ℕ) (i count prev n : ℕ) (s : List ℕ) (at : ℕ) where
  -- a reference that is refused
  pub list_refused : (f : Refusal) (whole : Parsed (List ℕ))
      → whole ≡ left_after o out i count prev n s at
      → i < count
      → refused_by f ≡ reference prev n s at
      → refused_by f ≡ whole
  unfolding references before
  list_refused f whole inv h e =
      let k : count - i ≡ suc (count - (i + 1)) = omega arith in
      sym (inv ∙ rw (k, ← e))

  -- one more, stored at j
  pub list_more : (j v next : ℕ) (whole : Parsed (List ℕ))
      → whole ≡ left_after o out i count prev n s at
      → i < count
      → j ≡ o + i
      → j < length out
      → got v next ≡ reference prev n s at
      → whole ≡ left_after o (set out j v) (i + 1) count v n s next
  unfolding references
  list_more j v next whole inv h p l e =
      let k : count - i ≡ suc (count - (i + 1)) = omega arith in
      let r : i < length (drop o out) = simp length-drop (omega arith) in
      let here : reference prev n s at ≡ got v next = sym e in
      let turn : whole ≡ before (take i (drop o out) ++ (v ∷ [])) (references (count - (i + 1)) v n s next) =
      inv ∙ rw (k, here) (before-cons (take i (drop o out)) v (references (count - (i + 1)) v n s next))
      in
      rw (p, drop-set-add o out i v, add-one i, take-suc-set (drop o out) i v r) (rw (add-one i) at turn)

-- at the end
pub list_end : (o : ℕ) (out : List ℕ) (i count prev n : ℕ) (s : List ℕ) (at : ℕ) (whole : Parsed (List ℕ))
    → whole ≡ left_after o out i count prev n s at
    → i ≤ count
    → count ≤ i
    → whole ≡ got (take count (drop o out)) at
unfolding references
list_end o out i count prev n s at whole inv h l =
    let k : count - i ≡ 0 = omega arith in
    let j : i ≡ count = omega arith in
    inv ∙ rw (k, j) (before-end (take count (drop o out)) at)
