-- A block: clauses as one list of words, where each clause's last word is marked by 2 ^ 31: laws.
use mathlib.Core.Path.{◌≡◌, refl, ap, ◌∙◌}
use mathlib.Core.Bool.{Bool, true, false}
use mathlib.Core.List.{List, [], ◌∷◌, ◌++◌, flat_map}
use Prim.Native.Nat.{ℕ, ◌+◌, ◌-◌, ◌≤◌}
use native.Mathlib.Omega.{arith}
use lib.Dec.{leb}
use borrow.Author.Tests.{leb-true, leb-false}
use Rattle.sink.specs.Block.{mark, join, split, Whole, Small, Plain, split-marked, split-unmarked, Marks, Cons, cons-split}

-- marked words of a clause before a block
split-clause : (l : ℕ) (ls ws : List ℕ) → Small (l ∷ ls) → split (mark (l ∷ ls) ++ ws) ≡ (l ∷ ls) ∷ split ws
unfolding mark
split-clause l [] ws h =
    let e : l + 2147483648 - 2147483648 ≡ l = omega arith in split-marked (l + 2147483648) ws (omega arith) ∙ rw e
split-clause l (k ∷ ks) ws h = split-unmarked l (mark (k ∷ ks) ++ ws) h.0 ∙ ap (join l) (split-clause k ks ws h.1)

-- the clauses of marked clauses
pub split-mark : (cs : List (List ℕ)) → Plain cs → split (flat_map mark cs) ≡ cs
unfolding split flat_map
split-mark [] h = refl
split-mark ([] ∷ cs) h = absurd h
split-mark ((l ∷ ls) ∷ cs) h = split-clause l ls (flat_map mark cs) h.0 ∙ ap (◌∷◌ (l ∷ ls)) (split-mark cs h.1)

-- marked clauses are a whole block
whole-clause : (l : ℕ) (ls ws : List ℕ) → Whole ws → Whole (mark (l ∷ ls) ++ ws)
unfolding mark
whole-clause l [] [] h = omega arith
whole-clause l [] (w ∷ ws) h = h
whole-clause l (k ∷ []) ws h = whole-clause k [] ws h
whole-clause l (k ∷ j ∷ js) ws h = whole-clause k (j ∷ js) ws h

pub whole-mark : (cs : List (List ℕ)) → Plain cs → Whole (flat_map mark cs)
unfolding flat_map
whole-mark [] h = tt
whole-mark ([] ∷ cs) h = absurd h
whole-mark ((l ∷ ls) ∷ cs) h = whole-clause l ls (flat_map mark cs) (whole-mark cs h.1)

pub marks : (cs : List (List ℕ)) → Plain cs → Marks (flat_map mark cs) cs
marks cs h = record { whole = whole-mark cs h; clauses = split-mark cs h }

mark-join : (w : ℕ) (cs : List (List ℕ)) → Cons cs → flat_map mark (join w cs) ≡ w ∷ flat_map mark cs
unfolding mark flat_map
mark-join w [] h = absurd h
mark-join w ([] ∷ cs) h = absurd h
mark-join w ((l ∷ ls) ∷ cs) h = refl

mark-one : (w : ℕ) (cs : List (List ℕ)) → 2147483648 ≤ w → flat_map mark (((w - 2147483648) ∷ []) ∷ cs) ≡ w ∷ flat_map mark cs
unfolding mark flat_map
mark-one w cs h = let e : w - 2147483648 + 2147483648 ≡ w = omega arith in rw e

mark-nil : flat_map mark (split []) ≡ []
unfolding flat_map split
mark-nil = refl

-- the words of a whole block's clauses are the block
pub mark-split : (b : List ℕ) → Whole b → flat_map mark (split b) ≡ b
mark-split [] h = mark-nil
mark-split (w ∷ []) h = rw (split-marked w [] h) (mark-one w (split []) h ∙ ap (◌∷◌ w) mark-nil)
mark-split (w ∷ v ∷ vs) h = go (leb 2147483648 w) refl (mark-split (v ∷ vs) h)
  where
    go : (m : Bool) → leb 2147483648 w ≡ m → flat_map mark (split (v ∷ vs)) ≡ v ∷ vs → flat_map mark (split (w ∷ v ∷ vs)) ≡ w ∷ v ∷ vs
    go true e ih =
        let h : 2147483648 ≤ w = leb-true 2147483648 w e in
        rw (split-marked w (v ∷ vs) h) (mark-one w (split (v ∷ vs)) h ∙ ap (◌∷◌ w) ih)
    go false e ih =
        rw (split-unmarked w (v ∷ vs) (leb-false 2147483648 w e))
        (mark-join w (split (v ∷ vs)) (cons-split v vs) ∙ ap (◌∷◌ w) ih)
