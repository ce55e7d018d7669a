-- The search, with no code: what holds of it between its looks, and what a look does to it.
use mathlib.Core.Path.{◌≡◌, refl, sym, ap, ◌∙◌}
use mathlib.Core.Bool.{Bool, true, false, cond}
use mathlib.Core.List.{List}
use Prim.Native.Nat.{ℕ, zero, suc, ◌<◌, ◌≤◌, ◌+◌, ◌-◌, ◌/◌, min}
use native.Mathlib.Omega.{arith}
use borrow.Author.Tests.{ltb-true, ltb-false, eqb-true, eqb-false, lt-ltb, le-ltb, leb-true, leb-false}
use lib.Dec.{ltb, leb, eqb}
use lib.ListN.{length}
use Rattle.directory.specs.declared.Row.{Row}
use Rattle.lookup.specs.declared.Probe.{Probe}
use Rattle.directory.specs.Rows.{no_row}
use Rattle.directory.proofs.laws.Rows.{Rising}
use Rattle.lookup.specs.Lookup.{started, halving, ended, narrowed, seek}
use Rattle.lookup.proofs.laws.Lookup.{Found, hit, miss, Finds}
use Rattle.directory.specs.Directory.{rows_of}
use Rattle.lookup.specs.Lookup.{look_up}

-- the place that is looked at next lies between the bounds, in the middle if it is no guess, and these within the directory's cap rows
pub record Bounded (cap : ℕ) (p : Probe) : Type 0 where
  pub inside : p.lo < p.hi → (p.lo ≤ p.at) × (p.at < p.hi)
  pub middle : p.lo < p.hi → p.guess ≡ false → p.at ≡ p.lo + (p.hi - p.lo) / 2
  pub high : p.hi ≤ cap

pub starts-bounded : (cap n id : ℕ) → n ≤ cap → Bounded cap (started n id)
starts-bounded cap n id h = record { inside = λ l. (omega arith, omega arith); middle = λ l z. absurd (cc); high = h }

halving-bounded : (cap lo hi : ℕ) (row : Row) → hi ≤ cap → Bounded cap (halving lo hi row)
halving-bounded cap lo hi row k = record { inside = λ m. (omega arith, omega arith); middle = λ m z. refl; high = k }

-- the outcomes of a look
pub data Narrowed (s : Probe) (row : Row) (id : ℕ) (p : Probe) : Type 0 where
  met : row.id ≡ id → p ≡ ended s row → Narrowed s row id p
  failed : s.guess ≡ true → p ≡ halving s.lo s.hi s.hit → Narrowed s row id p
  missed : s.hi - s.lo < 2 → (row.id ≡ id → ⊥) → p ≡ ended s s.hit → Narrowed s row id p
  above : s.guess ≡ false → 2 ≤ s.hi - s.lo → row.id ≤ id → p ≡ halving s.at s.hi s.hit → Narrowed s row id p
  below : s.guess ≡ false → 2 ≤ s.hi - s.lo → id < row.id → p ≡ halving s.lo s.at s.hit → Narrowed s row id p

pub narrows : (s : Probe) (row : Row) (id : ℕ) → Narrowed s row id (narrowed s row id)
unfolding narrowed
narrows s row id = go s.guess refl (eqb row.id id) refl (ltb (s.hi - s.lo) 2) refl (leb row.id id) refl
  where
    go : (g : Bool) → s.guess ≡ g → (t : Bool) → eqb row.id id ≡ t → (w : Bool) → ltb (s.hi - s.lo) 2 ≡ w
        → (u : Bool) → leb row.id id ≡ u
        → Narrowed s row id (cond g (cond t (ended s row) (halving s.lo s.hi s.hit))
        (cond w (cond t (ended s row) (ended s s.hit))
        (cond u (halving s.at s.hi s.hit) (halving s.lo s.at s.hit))))
    go true d true t w v u e = met (eqb-true row.id id t) refl
    go true d false t w v u e = failed d refl
    go false d true t true v u e = met (eqb-true row.id id t) refl
    go false d false t true v u e = missed (ltb-true (s.hi - s.lo) 2 v) (eqb-false row.id id t) refl
    go false d t e false v true u =
        above d (ltb-false (s.hi - s.lo) 2 v) (leb-true row.id id u) refl
    go false d t e false v false u =
        below d (ltb-false (s.hi - s.lo) 2 v) (leb-false row.id id u) refl

-- how many looks a search may still take
abbrev pub ahead : Probe → ℕ
ahead p = p.hi - p.lo + cond p.guess 1 0

-- a look
module _ (cap : ℕ) (p : Probe) (row : Row) (id : ℕ) (b : Bounded cap p) (m : p.lo < p.hi) where
  pub nearer : (r : Probe) → Narrowed p row id r → ahead r < ahead p
  nearer r (met e q) = rw q (omega arith)
  nearer r (failed g q) = rw (q, g) (omega arith)
  nearer r (missed w n q) = rw q (omega arith)
  nearer r (above g w e q) = rw q (omega (arith, b.middle m g))
  nearer r (below g w e q) = rw q (omega (arith, b.middle m g))

  pub bounded : (r : Probe) → Narrowed p row id r → Bounded cap r
  bounded r (met e q) = rw q (record { inside = λ m. absurd (omega arith); middle = λ m z. absurd (omega arith); high = b.high })
  bounded r (failed g q) = rw q (halving-bounded cap p.lo p.hi p.hit b.high)
  bounded r (missed w n q) = rw q (record { inside = λ m. absurd (omega arith); middle = λ m z. absurd (omega arith); high = b.high })
  bounded r (above g w e q) = rw q (halving-bounded cap p.at p.hi p.hit b.high)
  bounded r (below g w e q) = rw q (halving-bounded cap p.lo p.at p.hit (omega (arith, b.high, (b.inside m).1)))

-- what is left of a search that comes to g
pub record Left (R : ℕ → Row) (id : ℕ) (p g : Probe) : Type 0 where
  pub fuel : ℕ
  pub enough : ahead p ≤ fuel
  pub todo : seek fuel R id p ≡ g

module _ (R : ℕ → Row) (id : ℕ) (p g : Probe) (w : Left R id p g) where
  pub left_over : p.hi ≤ p.lo → p ≡ g
  unfolding seek
  left_over h = go w.fuel w.todo
    where
      go : (k : ℕ) → seek k R id p ≡ g → p ≡ g
      go zero e = e
      go (suc k) e = rw (le-ltb p.lo p.hi h) at e

  pub left_more : {cap : ℕ} → Bounded cap p → p.lo < p.hi → (r : Probe) → r ≡ narrowed p (R p.at) id → Left R id r g
  unfolding seek
  left_more {cap} b h r e = go w.fuel w.enough w.todo
    where
      near : ahead r < ahead p
      near = rw e (nearer cap p (R p.at) id b h (narrowed p (R p.at) id) (narrows p (R p.at) id))

      go : (k : ℕ) → ahead p ≤ k → seek k R id p ≡ g → Left R id r g
      go zero n t = absurd (omega arith)
      go (suc k) n t = record { fuel = k; enough = omega (arith, near); todo = rw e (rw (lt-ltb p.lo p.hi h) at t) }

pub left_all : (xs : List Row) (n id : ℕ) → Left (rows_of xs) id (started (min n (length xs)) id) (look_up xs n id)
left_all xs n id = record { fuel = suc (length xs); enough = omega arith; todo = refl }

-- a search of n rows: still to be met, or met
pub data Seeking (R : ℕ → Row) (n id : ℕ) (p : Probe) : Type 0 where
  seeks : p.hi ≤ n → ((i : ℕ) → i < n → (R i).id ≡ id → (p.lo ≤ i) × (i < p.hi)) → p.hit ≡ no_row → Seeking R n id p
  holds : p.lo ≡ p.hi → p.at < n → p.hit ≡ R p.at → p.hit.id ≡ id → Seeking R n id p

ends : (R : ℕ → Row) (n id : ℕ) (p : Probe) → Seeking R n id p → p.hi ≤ p.lo → Found R n id p
ends R n id p (seeks h w z) l = miss z (λ i k e. omega (arith, (w i k e).0, (w i k e).1))
ends R n id p (holds e a b c) l = hit a b c

-- rows in ascending order of their ids
module _ (R : ℕ → Row) (n : ℕ) (up : Rising R n) where
  in_order : (i k : ℕ) → i < n → (R i).id < (R k).id → i < k
  in_order i k h e = go (ltb i k) refl
    where
      not_before : k ≤ i → (b : Bool) → ltb k i ≡ b → ⊥
      not_before l true t = omega (arith, up.up k i (ltb-true k i t) h)
      not_before l false t =
          let q : k ≡ i = omega (arith, ltb-false k i t) in
          let w : (R k).id ≡ (R i).id = ap (λ j. (R j).id) q in
          omega arith

      go : (b : Bool) → ltb i k ≡ b → i < k
      go true t = ltb-true i k t
      go false t = absurd (not_before (ltb-false i k t) (ltb k i) refl)

  -- a row whose id is at most another's does not stand after it
  no_later : (i k : ℕ) → k < n → (R k).id ≤ (R i).id → k ≤ i
  no_later i k h e = go (ltb i k) refl
    where
      go : (b : Bool) → ltb i k ≡ b → k ≤ i
      go true t = absurd (omega (arith, up.up i k (ltb-true i k t) h))
      go false t = ltb-false i k t

  module _ (id : ℕ) (p : Probe) (l : p.lo ≤ p.at) (h : p.at < p.hi) where
    looked : Seeking R n id p → (r : Probe) → Narrowed p (R p.at) id r → Seeking R n id r
    looked (holds e a b c) r _ = absurd (omega arith)
    looked (seeks k w z) r (met e q) = rw q (holds refl (omega arith) refl e)
    looked (seeks k w z) r (failed g q) = rw q (seeks k w z)
    looked (seeks k w z) r (missed u n q) =
        rw q (seeks k
        (λ i m f.
        let a : i ≡ p.at = omega (arith, (w i m f).0, (w i m f).1) in
        absurd (n (ap (λ j. (R j).id) (sym a) ∙ f)))
        z)
    looked (seeks k w z) r (above g u e q) =
        rw q (seeks k
        (λ i m f.
        (no_later i p.at (omega arith) (omega arith), (w i m f).1))
        z)
    looked (seeks k w z) r (below g u e q) =
        rw q (seeks (omega arith)
        (λ i m f.
        let a = in_order i p.at m (omega arith) in
        ((w i m f).0, a))
        z)

  seeks_found : (k id : ℕ) (p : Probe) → Bounded n p → ahead p ≤ k → Seeking R n id p → Found R n id (seek k R id p)
  unfolding seek
  seeks_found zero id p b m s = ends R n id p s (omega arith)
  seeks_found (suc k) id p b m s = go (λ r. seeks_found k id r) (ltb p.lo p.hi) refl
    where
      r : Probe
      r = narrowed p (R p.at) id

      go : ((r : Probe) → Bounded n r → ahead r ≤ k → Seeking R n id r → Found R n id (seek k R id r)) → (t : Bool) → ltb p.lo p.hi ≡ t
          → Found R n id (cond t (seek k R id r) p)
      go ih true t =
          let l = ltb-true p.lo p.hi t in
          let i = b.inside l in
          let q = narrows p (R p.at) id in
          ih r (bounded n p (R p.at) id b l r q) (omega (arith, nearer n p (R p.at) id b l r q))
          (looked id p i.0 i.1 s r q)
      go ih false t = ends R n id p s (ltb-false p.lo p.hi t)

-- the search finds the row with the id
pub finds : (xs : List Row) (n id : ℕ) (p : Probe) → p ≡ look_up xs n id → Finds (length xs) (rows_of xs) n id p
finds xs n id p e =
    record {
      found =
          λ h up.
          let m : min n (length xs) ≡ n = omega arith in
          rw (e, m)
          (seeks_found (rows_of xs) n up (suc (length xs)) id (started n id) (starts-bounded n n id (omega arith)) (omega arith)
          (seeks (omega arith) (λ i l f. (omega arith, l)) refl));
    }
