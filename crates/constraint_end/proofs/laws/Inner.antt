-- The members but first and last of groups in the rows of a table: laws.
use Prim.Native.Nat.{ℕ, ◌+◌, ◌-◌, ◌≤◌, ◌<◌}
use mathlib.Core.Path.{◌≡◌, refl}
use mathlib.Core.List.{List, [], ◌∷◌}
use lib.ListN.{length, get_or, drop, drop_of_length-le}
use lib.Seq.{drop-cons}
use native.Mathlib.Omega.{arith}
use native.Mathlib.Numerals.{add-one}
use Rattle.parsing.specs.Each.{Each, each_none, each_more}
use Rattle.parsing.proofs.laws.Each.{each_at}
use Rattle.number.specs.Lists.{leading}
use Rattle.number.proofs.laws.Lists.{length-leading, get_d-leading}
use Rattle.parsing.specs.Numbers.{Ascending, none, more}
use Rattle.tables.specs.Rows.{row_at, rows, RowsIn}
use Rattle.tables.proofs.laws.Laws.{group_row}
use Rattle.constraint.specs.Valid.{OneOf}
use Rattle.constraint_end.specs.Length.{inner_length}
use Rattle.constraint_end.specs.Inner.{GroupIn, inner_rows}

-- group i of a list of n in a store, and one group more
module _ (t l : List ℕ) (n i : ℕ) (h : i < n) where
  pub listed_in : Each (GroupIn t) (leading n l) → GroupIn t (get_or l i 0)
  listed_in e = rw (get_d-leading n l i h) at (each_at i 0 e (rw length-leading h))

  pub inner_more : inner_rows t (drop i (leading n l))
      ≡ (length (row_at t (get_or l i 0 - 1)) - 2) + inner_rows t (drop (i + 1) (leading n l))
  unfolding inner_rows
  inner_more =
      let k : i < length (leading n l) = rw length-leading h in
      rw (add-one, drop-cons (leading n l) i 0 k, get_d-leading n l i h)

pub inner-past : (t l : List ℕ) (n i : ℕ) → n ≤ i → inner_rows t (drop i (leading n l)) ≡ 0
unfolding inner_rows
inner-past t l n i h =
    let k : length (leading n l) ≤ i = rw length-leading h in
    rw (drop_of_length-le (leading n l) k)

-- the groups of a list that exist are in the table
pub one_in : (t : List ℕ) (n h : ℕ) → RowsIn t n → OneOf n h → GroupIn t h
one_in t n h r o = record { low = o.low; row = r.each (h - 1) (omega arith) }

pub ascending-in : (t : List ℕ) (n before : ℕ) (hs : List ℕ) → RowsIn t n → Ascending n before hs → Each (GroupIn t) hs
ascending-in t n before [] r none = each_none
ascending-in t n before (h ∷ hs) r (more a b c) =
    each_more (one_in t n h r (record { low = omega arith; high = b })) (ascending-in t n h hs r c)

-- and their rows are the groups
pub inner-rows : (t : List ℕ) (n before : ℕ) (hs : List ℕ) → Ascending n before hs → inner_rows t hs ≡ inner_length (rows t n) hs
unfolding inner_rows inner_length
inner-rows t n before [] none = refl
inner-rows t n before (h ∷ hs) (more a b c) = rw (group_row t n h (omega arith) b, inner-rows t n h hs c)
