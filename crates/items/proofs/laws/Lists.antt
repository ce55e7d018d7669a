-- The items of counted lists by numbers, and of lists one after another.
use mathlib.Core.Path.{◌≡◌, refl, ◌∙◌}
use mathlib.Core.Bool.{false}
use mathlib.Core.List.{List, [], ◌∷◌, ◌++◌, map}
use Prim.Native.Nat.{ℕ, ◌+◌}
use native.Mathlib.Nat.{add-zero}
use lib.ListN.{length, take}
use Rattle.scope.specs.Cnf.{Item, gate, gates}
use Rattle.sink.specs.Lines.{Line}
use Rattle.sink.specs.World.{World}
use Rattle.literals.specs.Numbered.{Numbered, plain, numbered_items, all_numbered}
use Rattle.literals.specs.Words.{Holds}
use Rattle.constraint.specs.declared.kinds.Bounds.{Bounds}
use Rattle.items.specs.Counted.{counted}
use Rattle.items.specs.Written.{Room, Wrote, Left, left_turn}
use Rattle.items.proofs.laws.Written.{room_first}

-- a list's bounds
abbrev pub bounds_of : Numbered → Bounds
bounds_of c = record { lo = c.lo; hi = c.hi; free = c.zero_free }

-- a list's gates, and then its literals counted
pub list-items : (w : ℕ) (c : Numbered) (v : ℕ)
    → numbered_items w c v ≡ map gate (c.gates v) ++ counted w (bounds_of c) (c.literals v) (v + length (c.gates v))
unfolding numbered_items counted
list-items w c v = refl

-- a list without gates
pub plain-items : (w lo hi : ℕ) (xs : List ℕ) (v : ℕ)
    → numbered_items w (plain lo hi xs) v ≡ counted w (record { lo = lo; hi = hi; free = false }) xs v
plain-items w lo hi xs v = list-items w (plain lo hi xs) v ∙ rw (add-zero v)

-- its literals gathered in words
module _ (w lo hi : ℕ) {words : List ℕ} {n : ℕ} {xs : List ℕ} (v : ℕ) (h : Holds words n xs) where
  held_items : numbered_items w (plain lo hi xs) v ≡ counted w (record { lo = lo; hi = hi; free = false }) (take n words) v
  held_items = plain-items w lo hi xs v ∙ rw h.front

  pub plain_room : Room v (numbered_items w (plain lo hi xs) v) → Room v (counted w (record { lo = lo; hi = hi; free = false }) (take n words) v)
  plain_room r = rw held_items at r

  pub plain_wrote : {f : Line → World → World} {x x' : World} {v' : ℕ}
      → Wrote f v (counted w (record { lo = lo; hi = hi; free = false }) (take n words) v) x x' v'
      → Wrote f v (numbered_items w (plain lo hi xs) v) x x' v'
  plain_wrote p = rw held_items p

-- one list and then others
module _ (w v : ℕ) {ls cs : List Numbered} {c : Numbered} (e : ls ≡ c ∷ cs) where
  next_list : all_numbered w ls v ≡ numbered_items w c v ++ all_numbered w cs (v + gates (numbered_items w c v))
  unfolding all_numbered
  next_list = rw e

  pub lists_turn : {f : Line → World → World} {v' v₀ : ℕ} {all : List Item} {x₀ x x' : World}
      → Left f v (all_numbered w ls v) v₀ all x₀ x
      → Wrote f v (numbered_items w c v) x x' v'
      → Left f v' (all_numbered w cs v') v₀ all x₀ x'
  lists_turn l p = left_turn (next_list ∙ rw p.next) l p

  pub lists_room : Room v (all_numbered w ls v) → Room v (numbered_items w c v)
  lists_room r = room_first (numbered_items w c v) (all_numbered w cs (v + gates (numbered_items w c v))) (rw next_list at r)

-- no list is left
pub lists-end : (w v : ℕ) {ls : List Numbered} → ls ≡ [] → all_numbered w ls v ≡ []
unfolding all_numbered
lists-end w v e = rw e
