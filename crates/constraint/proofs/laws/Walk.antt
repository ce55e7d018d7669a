-- Walking the constraints of an accepted file: each call decodes the next of them, and none is refused: laws.
use Prim.Native.Nat.{ℕ, suc, ◌+◌, ◌-◌, ◌≤◌, ◌<◌}
use mathlib.Core.Path.{◌≡◌, sym, ap, ◌∙◌}
use Rattle.std.proofs.Common.{Result, Ok, Err}
use mathlib.Core.List.{List, [], ◌∷◌}
use lib.ListN.{length, drop}
use lib.Seq.{drop-drop}
use native.Mathlib.Omega.{arith}
use Rattle.scope.specs.Parsed.{got, refused, cons, repeat}
use Rattle.scope.specs.Kinds.{Constraint}
use Rattle.scope.specs.Instance.{Counts}
use Rattle.scope.specs.declared.refusal.Refusal.{Refusal}
use Rattle.scope.specs.Reason.{number_of}
use Rattle.parsing.proofs.laws.Parsing.{and_then-got, cons-got, refused-got}
use Rattle.constraint.specs.declared.kinds.Constraint as decl
use Rattle.constraint.specs.Answers.{said_next, constraint_of}
use Rattle.constraint.specs.Decoded.{decoded_at}
use Rattle.constraint.proofs.laws.Valid.{DecodedAt, decoded-got}
use Rattle.constraint.specs.Walk.{Walk}

pub walk_start : (n : Counts) (s : List ℕ) (count at : ℕ) (cs : List Constraint)
    → repeat count (decoded_at n s) at ≡ got cs (length s)
    → Walk n s count 0 at cs
walk_start n s count at cs e = let k : count - 0 ≡ count = omega arith in record { left = rw k e }

-- the next constraint of a walk, where the call answered x with the store l
module _
    {n : Counts}
    {s : List ℕ}
    {count i at : ℕ}
    {cs : List Constraint}
    (w : Walk n s count i at cs)
    (h : i < count)
    (l : List ℕ)
    (x : Result (decl.Constraint × ℕ) Refusal)
    (e : said_next l x ≡ decoded_at n s at) where
  first : repeat (suc (count - (i + 1))) (decoded_at n s) at ≡ got (drop i cs) (length s)
  first = let k : count - i ≡ suc (count - (i + 1)) = omega arith in rw k at w.left

  -- it was decoded, and is the next of them
  pub record Turn (c : Constraint) (next : ℕ) : Type 0 where
    pub whole : drop i cs ≡ c ∷ drop (i + 1) cs
    pub walk : Walk n s count (i + 1) next cs
    pub valid : DecodedAt n s at c next

  pub walk_read : {c : decl.Constraint} {next : ℕ} → x ≡ Ok (c, next) → Turn (constraint_of l c) next
  unfolding repeat
  walk_read {c} {next} t =
      let here : decoded_at n s at ≡ got (constraint_of l c) next = sym e ∙ ap (said_next l) t in
      let q = cons-got (constraint_of l c) (repeat (count - (i + 1)) (decoded_at n s) next) (rw here at first) in
      let tail : q.tail ≡ drop (i + 1) cs = sym (ap (drop 1) q.whole) ∙ drop-drop 1 i cs in
      record {
        whole = q.whole ∙ ap (λ (ds : List Constraint). constraint_of l c ∷ ds) tail;
        walk = record { left = q.rest ∙ ap (λ (ds : List Constraint). got ds (length s)) tail };
        valid = decoded-got n s at here;
      }

  pub walk_refused : {f : Refusal} → x ≡ Err f → ⊥
  unfolding repeat
  walk_refused {f} t =
      let here : decoded_at n s at ≡ refused (number_of f.reason) f.value = sym e ∙ ap (said_next l) t in
      let p = and_then-got (decoded_at n s at) (λ a next. cons a (repeat (count - (i + 1)) (decoded_at n s) next)) first in
      refused-got ⊥ (sym here ∙ p.first)

-- after the last of them
pub walk_end : {n : Counts} {s : List ℕ} {count i at : ℕ} {cs : List Constraint} → Walk n s count i at cs → count ≤ i → drop i cs ≡ []
unfolding repeat
walk_end {n} {s} {count} {i} {at} {cs} w h =
    let k : count - i ≡ 0 = omega arith in
    let e : got [] at ≡ got (drop i cs) (length s) = rw k at w.left in
    cc
