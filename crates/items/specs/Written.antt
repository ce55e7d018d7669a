-- Items that a writer ran, and what its loop keeps: the items that are left, from the next variable on.
use Rattle.std.specs.Prelude.{◌≡◌, refl, List, [], ◌∷◌, ◌++◌, ℕ, ◌+◌, ◌≤◌}
use Rattle.std.proofs.Math.Path.{ap}
use Rattle.std.proofs.Common.{arith}
use Rattle.scope.specs.Cnf.{Item, gate, hard, soft, gates}
use Rattle.sink.specs.Run.{Ran, Todo, then, todo_start, todo_turn, todo_done}
use Rattle.sink.specs.Lines.{Line, lines, lines-append}
use Rattle.sink.specs.World.{World}

-- the gates of some items and then of others
pub gates_both : (is js : List Item) → gates (is ++ js) ≡ gates is + gates js
gates_both [] js = omega arith
gates_both (gate g ∷ is) js = omega (arith, gates_both is js)
gates_both (hard c ∷ is) js = gates_both is js
gates_both (soft w l ∷ is) js = gates_both is js

-- the items' variables, from v on, are at most 8,000,000
pub record Room (v : ℕ) (is : List Item) : Type 0 where
  pub some : 1 ≤ v
  pub small : v + gates is ≤ 8000001

-- the items is were run from the variable v on, and n is the variable after theirs
pub record Wrote (f : Line → World → World) (v : ℕ) (is : List Item) (w w' : World) (n : ℕ) : Type 0 where
  pub ran : Ran f (lines v is) w w'
  pub next : n ≡ v + gates is

-- with the items is left from v on, the outcome is that of all items from v₀ on, and so is the last variable
pub record Left (f : Line → World → World) (v : ℕ) (is : List Item) (v₀ : ℕ) (all : List Item) (w₀ w : World) : Type 0 where
  pub todo : Todo f (lines v is) (lines v₀ all) w₀ w
  pub last : v + gates is ≡ v₀ + gates all

module _ {f : Line → World → World} where
  -- the items of an equal list
  pub wrote_same : {v : ℕ} {is js : List Item} {w w' : World} {n : ℕ} → is ≡ js → Wrote f v is w w' n → Wrote f v js w w' n
  wrote_same e p = rw e at p

  -- some items and then others
  pub wrote_then : {v n m : ℕ} {is js : List Item} {w₀ w₁ w₂ : World}
      → Wrote f v is w₀ w₁ n → Wrote f n js w₁ w₂ m → Wrote f v (is ++ js) w₀ w₂ m
  wrote_then {v} {n} {m} {is} {js} p q =
      record {
        ran = rw (lines-append v is js, ← p.next) (then p.ran q.ran);
        next = omega (arith, p.next, q.next, gates_both is js);
      }

  -- a loop's start, one turn, and its end
  pub left_start : {v v₀ : ℕ} {all : List Item} {w : World} → v ≡ v₀ → Left f v all v₀ all w w
  left_start e = rw e (record { todo = todo_start; last = refl })

  pub left_turn : {v v' v₀ : ℕ} {is js ks all : List Item} {w₀ w w' : World}
      → is ≡ js ++ ks → Left f v is v₀ all w₀ w → Wrote f v js w w' v' → Left f v' ks v₀ all w₀ w'
  left_turn {v} {v'} {v₀} {is} {js} {ks} e l p =
      record {
        todo = todo_turn (rw (e, p.next) (lines-append v js ks)) l.todo p.ran;
        last = omega (arith, l.last, p.next, ap gates e, gates_both js ks);
      }

  pub left_end : {v v₀ : ℕ} {is all : List Item} {w₀ w : World} → is ≡ [] → Left f v is v₀ all w₀ w → Wrote f v₀ all w₀ w v
  unfolding lines
  left_end {v} {v₀} {is} {all} e l =
      let n : gates is ≡ 0 = ap gates e in
      record { ran = todo_done (rw e) l.todo; next = omega (arith, l.last) }

  -- the room of the items that are left
  pub left_room : {v v₀ : ℕ} {is all : List Item} {w₀ w : World} → 1 ≤ v → Left f v is v₀ all w₀ w → Room v₀ all → Room v is
  left_room s l r = record { some = s; small = omega (arith, l.last, r.small) }
