-- The times that a window shows: those of its day's periods that lie within it, and no others.
use Prim.Native.Nat.{ℕ, zero, suc, ◌+◌, ◌≤◌, ◌<◌}
use mathlib.Core.Path.{◌≡◌, refl}
use mathlib.Core.Bool.{Bool, true, false, cond, ◌&&◌}
use mathlib.Core.List.{List, [], ◌∷◌}
use native.Mathlib.Omega.{arith}
use lib.Dec.{leb}
use lib.ListN.{length, get_or}
use borrow.Author.Tests.{eq-eqb, ne_eqb}
use Rattle.scope.specs.Kinds.{member}
use Rattle.scope.specs.Calendar.{Period, shown, window_of}
use Rattle.scope.specs.Demands.{periods_of, times_before}
use Rattle.spelled_out.proofs.laws.Windows.{within, only-shown}

-- no time before the day's
not_before : (from to t : ℕ) (ps : List Period) (x : ℕ) → x ≤ t → member x (shown from to t ps) ≡ false
not_before from to t ps x l = by (member x (shown from to t ps)) refl
  where
    by : (b : Bool) → member x (shown from to t ps) ≡ b → b ≡ false
    by true e = absurd (omega (arith, (only-shown from to t ps x e).0))
    by false e = refl

-- the time of the day's period number k + 1
shows-period : (from to t k : ℕ) (ps : List Period) (p : Period) → k < length ps
    → member (t + (k + 1)) (shown from to t ps) ≡ within from to (get_or ps k p)
unfolding member shown
shows-period from to t k [] p l = absurd (omega arith)
shows-period from to t zero (q ∷ ps) p l =
    let here : t + (0 + 1) ≡ suc t = omega arith in rw here (by (within from to q))
  where
    by : (b : Bool) → member (suc t) (cond b (suc t ∷ shown from to (suc t) ps) (shown from to (suc t) ps)) ≡ b
    by true = rw (eq-eqb (suc t) (suc t) refl)
    by false = not_before from to (suc t) ps (suc t) (omega arith)
shows-period from to t (suc k) (q ∷ ps) p l =
    let here : t + (suc k + 1) ≡ suc t + (k + 1) = omega arith in
    rw here (by (within from to q) (shows-period from to (suc t) k ps p (omega arith)))
  where
    by : (b : Bool) → member (suc t + (k + 1)) (shown from to (suc t) ps) ≡ within from to (get_or ps k p)
        → member (suc t + (k + 1)) (cond b (suc t ∷ shown from to (suc t) ps) (shown from to (suc t) ps)) ≡ within from to (get_or ps k p)
    by true ih = rw (ne_eqb (suc t + (k + 1)) (suc t) (λ e. omega arith)) ih
    by false ih = ih

-- of a window on day number d
pub shows : (days : List (List Period)) (d from to k : ℕ) (p : Period) → k < length (periods_of days d)
    → member (times_before days d + (k + 1)) (window_of days d from to)
    ≡ (leb from (get_or (periods_of days d) k p).start && leb (get_or (periods_of days d) k p).end to)
unfolding window_of
shows days d from to k p l = shows-period from to (times_before days d) k (periods_of days d) p l

pub only : (days : List (List Period)) (d from to t : ℕ) → member t (window_of days d from to) ≡ true
    → (times_before days d < t) × (t ≤ times_before days d + length (periods_of days d))
unfolding window_of
only days d from to t e = only-shown from to (times_before days d) (periods_of days d) t e
