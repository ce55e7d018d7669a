-- Fields that were read are within their limits, and end no further back than they begin.
use Prim.Native.Nat.{ℕ, zero, suc, ◌≤◌, ◌<◌}
use mathlib.Core.Path.{◌≡◌, subst}
use mathlib.Core.List.{List}
use lib.ListN.{length}
use native.Mathlib.Omega.{arith}
use Rattle.scope.specs.Parsed.{Parsed, got, and_then}
use Rattle.scope.specs.Number.{limited, reference, listed}
use Rattle.scope.specs.Kinds.{Kind}
use Rattle.scope.specs.Instance.{Counts, Fields, a_reference, a_list, a_number, the_kind, fields_read, fields_table, fields_of}
use Rattle.parsing.proofs.laws.Parsing.{and_then-got}
use Rattle.parsing.specs.Numbers.{Ascending}
use Rattle.parsing.proofs.laws.Numbers.{limited-got, reference-got, listed-got}
use Rattle.parsing.specs.Valid.{Within, OneOf, InRange}

-- what was read of a kind P, and where it ends
record ReadAt {A : Type 0} (P : A → Type 0) (s : List ℕ) (at : ℕ) (a : A) (end : ℕ) : Type 0 where
  holds : P a
  ahead : at < end
  inside : end ≤ length s

module _ (s : List ℕ) where
  ref_read : (n at : ℕ) (v next : ℕ) → reference 0 n s at ≡ got v next → ReadAt (OneOf n) s at v next
  ref_read n at v next e =
      let r = reference-got 0 n s at e in
      record { holds = record { low = r.above; high = r.exists }; ahead = r.ahead; inside = r.inside }

  number_read : (lo hi at : ℕ) (v next : ℕ) → limited lo hi s at ≡ got v next → ReadAt (Within lo hi) s at v next
  number_read lo hi at v next e =
      let r = limited-got lo hi s at e in record { holds = record { low = r.low; high = r.high }; ahead = r.ahead; inside = r.inside }

  list_read : (n at : ℕ) (l : List ℕ) (next : ℕ) → listed n s at ≡ got l next → ReadAt (Ascending n 0) s at l next
  list_read n at l next e = let r = listed-got n s at e in record { holds = r.ascending; ahead = r.ahead; inside = r.inside }

-- every kind that some fields can make has them in range
abbrev RowIn : Counts → Fields → Type 0
RowIn n (a_reference m f) = (v : ℕ) → OneOf m v → RowIn n (f v)
RowIn n (a_list m f) = (vs : List ℕ) → Ascending m 0 vs → RowIn n (f vs)
RowIn n (a_number lo hi f) = (v : ℕ) → Within lo hi v → RowIn n (f v)
RowIn n (the_kind k) = InRange n k

-- fields that were read end no further back than they begin
pub record RowRead (n : Counts) (s : List ℕ) (at : ℕ) (k : Kind) (end : ℕ) : Type 0 where
  pub holds : InRange n k
  pub ahead : at ≤ end
  pub inside : at ≤ length s → end ≤ length s

module _ (n : Counts) (s : List ℕ) where
  more : {A : Type 0} {P : A → Type 0} (p : Parsed A) (q : A → ℕ → Parsed Kind) {at : ℕ} {k : Kind} {end : ℕ}
      → ((a : A) (next : ℕ) → p ≡ got a next → ReadAt P s at a next)
      → ((a : A) (next : ℕ) → P a → q a next ≡ got k end → RowRead n s next k end)
      → and_then p q ≡ got k end
      → RowRead n s at k end
  more p q h i e =
      let a = and_then-got p q e in
      let r = h a.value a.next a.first in
      let t = i a.value a.next r.holds a.rest in
      record { holds = t.holds; ahead = omega (arith, r.ahead, t.ahead); inside = λ _. t.inside r.inside }

  fields_read_lem : (f : Fields) (at : ℕ) (k : Kind) (end : ℕ) → RowIn n f → fields_read f s at ≡ got k end → RowRead n s at k end
  unfolding fields_read
  fields_read_lem (a_reference m f) at k end h e =
      more (reference 0 m s at) (λ v next. fields_read (f v) s next) (ref_read s m at) (λ v next a. fields_read_lem (f v) next k end (h v a)) e
  fields_read_lem (a_list m f) at k end h e =
      more (listed m s at) (λ vs next. fields_read (f vs) s next) (list_read s m at) (λ vs next a. fields_read_lem (f vs) next k end (h vs a)) e
  fields_read_lem (a_number lo hi f) at k end h e =
      more (limited lo hi s at) (λ v next. fields_read (f v) s next) (number_read s lo hi at) (λ v next a. fields_read_lem (f v) next k end (h v a)) e
  fields_read_lem (the_kind k') at k end h e =
      let same : k' ≡ k = cc in
      let last : at ≡ end = cc in
      record { holds = subst (InRange n) same h; ahead = omega arith; inside = λ l. omega arith }

-- each row of the table
row_in : (n : Counts) (k : ℕ) → 1 ≤ k → k ≤ 11 → RowIn n (fields_of n k)
unfolding fields_table
row_in n (suc zero) _ _ = λ r a. a
row_in n (suc (suc zero)) _ _ = λ r a g b. (a, b)
row_in n (suc (suc (suc zero))) _ _ = λ e a g b. (a, b)
row_in n (suc (suc (suc (suc zero)))) _ _ = λ e a lo b hi c. (a, record { low = b.high; high = c.high })
row_in n (suc (suc (suc (suc (suc zero))))) _ _ = λ vs a g b lo c hi d. (a, b, record { low = c.high; high = d.high })
row_in n (suc (suc (suc (suc (suc (suc zero)))))) _ _ = λ r a g b lo c hi d. (a, b, record { low = c.high; high = d.high })
row_in n (suc (suc (suc (suc (suc (suc (suc zero))))))) _ _ = λ r a hs b lo c hi d. (a, b, record { low = c.high; high = d.high })
row_in n (suc (suc (suc (suc (suc (suc (suc (suc zero)))))))) _ _ = λ r a hs b lo c hi d. (a, b, record { low = c.high; high = d.high })
row_in n (suc (suc (suc (suc (suc (suc (suc (suc (suc zero))))))))) _ _ = λ e a l b lo c hi d. (a, b, record { low = c.high; high = d.high })
row_in n (suc (suc (suc (suc (suc (suc (suc (suc (suc (suc zero)))))))))) _ _ = λ e a x b y c. (a, b, c)
row_in n (suc (suc (suc (suc (suc (suc (suc (suc (suc (suc (suc zero))))))))))) _ _ = λ x a y b lo c hi d. (a, b, c, d)
row_in n (suc (suc (suc (suc (suc (suc (suc (suc (suc (suc (suc (suc k)))))))))))) _ h = let f : ⊥ = omega arith in absurd f
row_in n zero h _ = let f : ⊥ = omega arith in absurd f

-- the fields of a kind from 1 to 11
pub kind-read : (n : Counts) (s : List ℕ) (at k : ℕ) (kind : Kind) (end : ℕ) → 1 ≤ k → k ≤ 11
    → fields_read (fields_of n k) s at ≡ got kind end
    → RowRead n s at kind end
kind-read n s at k kind end a b e = fields_read_lem n s (fields_of n k) at kind end (row_in n k a b) e
