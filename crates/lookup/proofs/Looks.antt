-- A search of at most 2^k rows takes at most 2 + k looks, whatever the rows hold.
use mathlib.Core.Path.{◌≡◌, refl}
use mathlib.Core.Bool.{Bool, true, false, cond}
use Prim.Native.Nat.{ℕ, zero, suc, ◌<◌, ◌≤◌, ◌+◌, ◌-◌, ◌*◌, ◌/◌}
use native.Mathlib.Omega.{arith}
use borrow.Author.Tests.{ltb-true, ltb-false}
use lib.Dec.{ltb}
use Rattle.directory.specs.declared.Row.{Row}
use Rattle.lookup.specs.declared.Probe.{Probe}
use Rattle.lookup.specs.Lookup.{started, narrowed, seek}
use Rattle.lookup.proofs.Search.{Bounded, starts-bounded, Narrowed, met, failed, missed, above, below, narrows, bounded}

module _ (cap : ℕ) (p : Probe) (row : Row) (id : ℕ) (b : Bounded cap p) (m : p.lo < p.hi) where
  -- only the first look is a guess
  no_guess : (r : Probe) → Narrowed p row id r → r.guess ≡ false
  no_guess r (met e q) = rw q refl
  no_guess r (failed g q) = rw q refl
  no_guess r (missed w n q) = rw q refl
  no_guess r (above g w e q) = rw q refl
  no_guess r (below g w e q) = rw q refl

  no_wider : (r : Probe) → Narrowed p row id r → r.hi - r.lo ≤ p.hi - p.lo
  no_wider r (met e q) = rw q (omega arith)
  no_wider r (failed g q) = rw q (omega arith)
  no_wider r (missed w n q) = rw q (omega arith)
  no_wider r (above g w e q) = rw q (omega (arith, (b.inside m).0))
  no_wider r (below g w e q) = rw q (omega (arith, (b.inside m).1))

  -- at most half of the rows are left, or one more
  halved : p.guess ≡ false → (r : Probe) → Narrowed p row id r → r.hi - r.lo ≤ (p.hi - p.lo + 1) / 2
  halved z r (met e q) = rw q (omega arith)
  halved z r (failed g q) = absurd (cc)
  halved z r (missed w n q) = rw q (omega arith)
  halved z r (above g w e q) = let i = b.middle m z in rw q (omega arith)
  halved z r (below g w e q) = let i = b.middle m z in rw q (omega arith)

  -- one row that is left is looked at last
  last : p.guess ≡ false → p.hi - p.lo < 2 → (r : Probe) → Narrowed p row id r → r.hi ≤ r.lo
  last z k r (met e q) = rw q (omega arith)
  last z k r (failed g q) = absurd (cc)
  last z k r (missed w n q) = rw q (omega arith)
  last z k r (above g w e q) = absurd (omega arith)
  last z k r (below g w e q) = absurd (omega arith)

-- 2^k
abbrev pub power_of_two : ℕ → ℕ
power_of_two zero = 1
power_of_two (suc k) = 2 * power_of_two k

-- the search is over
pub record Over (p : Probe) : Type 0 where
  pub over : p.hi ≤ p.lo

module _ (R : ℕ → Row) (id cap : ℕ) where
  abbrev after : Probe → Probe
  after p = narrowed p (R p.at) id

  -- a search of at most 2^k rows after the guess
  halving_ends : (k : ℕ) (p : Probe) → Bounded cap p → p.guess ≡ false → p.hi - p.lo ≤ power_of_two k → Over (seek (suc k) R id p)
  unfolding seek
  halving_ends zero p b z h = go (ltb p.lo p.hi) refl
    where
      go : (t : Bool) → ltb p.lo p.hi ≡ t → Over (cond t (after p) p)
      go true t =
          let l = ltb-true p.lo p.hi t in
          record { over = last cap p (R p.at) id b l z (omega arith) (after p) (narrows p (R p.at) id) }
      go false t = record { over = ltb-false p.lo p.hi t }
  halving_ends (suc k) p b z h = go (halving_ends k (after p)) (ltb p.lo p.hi) refl
    where
      go : (Bounded cap (after p) → (after p).guess ≡ false → (after p).hi - (after p).lo ≤ power_of_two k → Over (seek (suc k) R id (after p)))
          → (t : Bool) → ltb p.lo p.hi ≡ t → Over (cond t (seek (suc k) R id (after p)) p)
      go ih true t =
          let l = ltb-true p.lo p.hi t in
          let q = narrows p (R p.at) id in
          ih (bounded cap p (R p.at) id b l (after p) q) (no_guess cap p (R p.at) id b l (after p) q)
          (omega (arith, halved cap p (R p.at) id b l z (after p) q))
      go ih false t = record { over = ltb-false p.lo p.hi t }

  -- the same with the guess before it
  looks_end : (k : ℕ) (p : Probe) → Bounded cap p → p.hi - p.lo ≤ power_of_two k → Over (seek (suc (suc k)) R id p)
  unfolding seek
  looks_end k p b h = go (ltb p.lo p.hi) refl
    where
      go : (t : Bool) → ltb p.lo p.hi ≡ t → Over (cond t (seek (suc k) R id (after p)) p)
      go true t =
          let l = ltb-true p.lo p.hi t in
          let q = narrows p (R p.at) id in
          halving_ends k (after p) (bounded cap p (R p.at) id b l (after p) q) (no_guess cap p (R p.at) id b l (after p) q)
          (omega (arith, no_wider cap p (R p.at) id b l (after p) q))
      go false t = record { over = ltb-false p.lo p.hi t }

-- a search of at most 2^k rows is over after 2 + k looks
pub few-looks : (R : ℕ → Row) (n id k : ℕ) → n ≤ power_of_two k → Over (seek (suc (suc k)) R id (started n id))
few-looks R n id k h = looks_end R id n k (started n id) (starts-bounded n n id (omega arith)) (omega arith)
