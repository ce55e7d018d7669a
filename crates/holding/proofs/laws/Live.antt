-- The live clauses that a directory and its words hold.
use mathlib.Core.Path.{◌≡◌, refl, sym, ap, ◌∙◌, fun_ext}
use mathlib.Core.Bool.{Bool, true, false, cond}
use mathlib.Core.List.{List}
use mathlib.Core.Option.{Option, none, some}
use Prim.Native.Nat.{ℕ, zero, suc, ◌<◌}
use native.Mathlib.Omega.{arith}
use lib.Dec.{eqb, ltb}
use borrow.Author.Tests.{eq-eqb, ne_eqb, eqb-true, eqb-false, ltb-true, ltb-false}
use Rattle.scope.specs.Steps.{Live, put}
use Rattle.directory.specs.declared.Row.{Row}
use Rattle.lookup.specs.declared.Probe.{Probe}
use Rattle.directory.specs.Rows.{row_clause, dying}
use Rattle.directory.proofs.laws.Rows.{Rising}
use Rattle.lookup.proofs.laws.Lookup.{Found, hit, miss}

-- a clause, if it is live
abbrev pub held : ℕ → List ℕ → Option (List ℕ)
held live c = cond (eqb live 0) none (some c)

-- the live clauses of the first n rows, by their ids
unfoldable pub live_rows : (ℕ → Row) → List ℕ → ℕ → Live
live_rows R ws zero id = none
live_rows R ws (suc n) id = cond (eqb (R n).id id) (held (R n).live (row_clause (R n) ws)) (live_rows R ws n id)

fewer : {R : ℕ → Row} {n : ℕ} → Rising R (suc n) → Rising R n
fewer up = record { up = λ i j l h. up.up i j l (omega arith) }

-- the clause that a search finds
pub row-found : (R : ℕ → Row) (ws : List ℕ) (n r id : ℕ) → Rising R n → r < n → (R r).id ≡ id
    → live_rows R ws n id ≡ held (R r).live (row_clause (R r) ws)
unfolding live_rows
row-found R ws zero r id up h e = absurd (omega arith)
row-found R ws (suc n) r id up h e = go (row-found R ws n r id (fewer up)) (ltb r n) refl
  where
    go : (r < n → (R r).id ≡ id → live_rows R ws n id ≡ held (R r).live (row_clause (R r) ws)) → (b : Bool) → ltb r n ≡ b
        → cond (eqb (R n).id id) (held (R n).live (row_clause (R n) ws)) (live_rows R ws n id)
        ≡ held (R r).live (row_clause (R r) ws)
    go ih true t =
        let l = ltb-true r n t in
        let q = up.up r n l (omega arith) in
        rw (ne_eqb (R n).id id (λ p. omega arith)) (ih l e)
    go ih false t =
        let p : r ≡ n = omega (arith, ltb-false r n t) in
        rw (eq-eqb (R n).id id (ap (λ i. (R i).id) (sym p) ∙ e), p)

pub row-missing : (R : ℕ → Row) (ws : List ℕ) (n id : ℕ) → ((k : ℕ) → k < n → (R k).id ≡ id → ⊥) → live_rows R ws n id ≡ none
unfolding live_rows
row-missing R ws zero id h = refl
row-missing R ws (suc n) id h =
    rw (ne_eqb (R n).id id (h n (omega arith))) (row-missing R ws n id (λ k l. h k (omega arith)))

pub live-found : (R : ℕ → Row) (ws : List ℕ) (n id : ℕ) (p : Probe) → Rising R n → Found R n id p
    → live_rows R ws n id ≡ held p.hit.live (row_clause p.hit ws)
live-found R ws n id p up (hit h e i) = rw e (row-found R ws n p.at id up h (ap (λ r. r.id) (sym e) ∙ i))
live-found R ws n id p up (miss e f) = rw e (row-missing R ws n id f)

eqb-sym : (a b : ℕ) → eqb a b ≡ eqb b a
eqb-sym a b = go (eqb a b) refl
  where
    go : (t : Bool) → eqb a b ≡ t → t ≡ eqb b a
    go true e = sym (eq-eqb b a (sym (eqb-true a b e)))
    go false e = sym (ne_eqb b a (λ p. eqb-false a b e (sym p)))

-- one value is put
pub put_same : {A : Type 0} (f : ℕ → A) (i : ℕ) (x : A) → put f i x i ≡ x
put_same f i x = rw (eq-eqb i i refl)

pub put_other : {A : Type 0} (f : ℕ → A) (i j : ℕ) (x : A) → (j ≡ i → ⊥) → put f i x j ≡ f j
put_other f i j x h = rw (ne_eqb j i h)

-- rows and words that hold the same clauses in the first n rows
live_same : (R R' : ℕ → Row) (ws ws' : List ℕ) (n j : ℕ) → ((i : ℕ) → i < n → R' i ≡ R i)
    → ((i : ℕ) → i < n → row_clause (R i) ws' ≡ row_clause (R i) ws) → live_rows R' ws' n j ≡ live_rows R ws n j
unfolding live_rows
live_same R R' ws ws' zero j h k = refl
live_same R R' ws ws' (suc n) j h k =
    rw (h n (omega arith), k n (omega arith), live_same R R' ws ws' n j (λ i l. h i (omega arith)) (λ i l. k i (omega arith)))

-- a row that is appended
module _ (R : ℕ → Row) (n : ℕ) (row : Row) where
  pub rising_append : Rising R n → ((i : ℕ) → i < n → (R i).id < row.id) → Rising (put R n row) (suc n)
  rising_append up h = record { up = λ i j l k. go i j l k (ltb j n) refl }
    where
      go : (i j : ℕ) → i < j → j < suc n → (t : Bool) → ltb j n ≡ t → (put R n row i).id < (put R n row j).id
      go i j l k true t =
          let m = ltb-true j n t in
          rw (put_other R n i row (λ e. omega arith), put_other R n j row (λ e. omega arith)) (up.up i j l m)
      go i j l k false t =
          let e : j ≡ n = omega (arith, ltb-false j n t) in
          rw (e, put_other R n i row (λ e. omega arith), put_same R n row) (h i (omega arith))

  pub live_append : (ws ws' c : List ℕ) → ((i : ℕ) → i < n → row_clause (R i) ws' ≡ row_clause (R i) ws)
      → held row.live (row_clause row ws') ≡ some c
      → live_rows (put R n row) ws' (suc n) ≡ put (live_rows R ws n) row.id (some c)
  unfolding live_rows
  live_append ws ws' c k e =
      fun_ext λ j.
      rw (
        put_same R n row,
        e,
        live_same R (put R n row) ws ws' n j (λ i l. put_other R n i row (λ z. omega arith)) k,
        eqb-sym row.id j,
      )

-- a row that dies
module _ (R : ℕ → Row) (i : ℕ) where
  abbrev R' : ℕ → Row
  R' = put R i (dying (R i))

  pub same_id : (k : ℕ) → (R' k).id ≡ (R k).id
  same_id k = go (eqb k i) refl
    where
      go : (t : Bool) → eqb k i ≡ t → (cond t (dying (R i)) (R k)).id ≡ (R k).id
      go true t = ap (λ j. (R j).id) (sym (eqb-true k i t))
      go false t = refl

  pub rising_dead : (n : ℕ) → Rising R n → Rising R' n
  rising_dead n up = record { up = λ a b l h. rw (same_id a, same_id b) (up.up a b l h) }

  -- the row that dies is the last of the first n + 1, or an earlier one
  last_dead : (t : Bool) (x y : Option (List ℕ)) → cond t none x ≡ cond t none (cond t y x)
  last_dead true x y = refl
  last_dead false x y = refl

  earlier_dead : (ws : List ℕ) (n : ℕ) → Rising R (suc n) → i < n → (j : ℕ) (t : Bool) → eqb (R n).id j ≡ t
      → live_rows R' ws n j ≡ cond (eqb j (R i).id) none (live_rows R ws n j)
      → cond t (held (R n).live (row_clause (R n) ws)) (live_rows R' ws n j)
      ≡ cond (eqb j (R i).id) none (cond t (held (R n).live (row_clause (R n) ws)) (live_rows R ws n j))
  earlier_dead ws n up l j true q s =
      let p = eqb-true (R n).id j q in
      let g = up.up i n l (omega arith) in
      rw (ne_eqb j (R i).id (λ z. omega arith))
  earlier_dead ws n up l j false q s = s

  all_dead : (ws : List ℕ) (n : ℕ) → Rising R n → i < n → (j : ℕ) → live_rows R' ws n j ≡ put (live_rows R ws n) (R i).id none j
  unfolding live_rows
  all_dead ws zero up h j = absurd (omega arith)
  all_dead ws (suc n) up h j = go (all_dead ws n (fewer up)) (ltb i n) refl
    where
      go : (i < n → (j : ℕ) → live_rows R' ws n j ≡ put (live_rows R ws n) (R i).id none j) → (t : Bool) → ltb i n ≡ t
          → cond (eqb (R' n).id j) (held (R' n).live (row_clause (R' n) ws)) (live_rows R' ws n j)
          ≡ cond (eqb j (R i).id) none (cond (eqb (R n).id j) (held (R n).live (row_clause (R n) ws)) (live_rows R ws n j))
      go ih true t =
          let l = ltb-true i n t in
          rw (put_other R i n (dying (R i)) (λ z. omega arith)) (earlier_dead ws n up l j (eqb (R n).id j) refl (ih l j))
      go ih false t =
          let p : n ≡ i = omega (arith, ltb-false i n t) in
          rw (
            p,
            put_same R i (dying (R i)),
            live_same R R' ws ws i j (λ k l. put_other R i k (dying (R i)) (λ z. omega arith))
                (λ k l. refl),
            eqb-sym j (R i).id,
          )
          (last_dead (eqb (R i).id j) (live_rows R ws i j) (held (R i).live (row_clause (R i) ws)))

  pub live_dead : (ws : List ℕ) (n : ℕ) → Rising R n → i < n → live_rows R' ws n ≡ put (live_rows R ws n) (R i).id none
  live_dead ws n up h = fun_ext (all_dead ws n up h)
