-- The marks that bytes hold: laws.
use mathlib.Core.Path.{◌≡◌, refl, sym, ap, fun_ext}
use mathlib.Core.Bool.{Bool, true, false, cond}
use mathlib.Core.List.{List}
use Prim.Native.Nat.{ℕ, zero, suc, ◌-◌, ◌≤◌, ◌<◌}
use native.Mathlib.Omega.{arith}
use lib.ListN.{length, get_or, set, length-set, replicate, get_or-eq_default}
use lib.Dec.{eqb, ltb}
use lib.Seq.{set_out, get_or-set_same, get_or-set_other}
use borrow.Author.Tests.{eqb-true, eqb-false, ne_eqb, ltb-true, ltb-false}
use Rattle.scope.specs.Steps.{put}
use Rattle.theory.proofs.laws.Marked.{all_open}
use Rattle.marks.specs.Marks.{marks_of, put_mark}

-- the byte of a variable
pub mark-byte : (ms : List ℕ) (v : ℕ) → (v ≡ 0 → ⊥) → marks_of ms v ≡ get_or ms (v - 1) 0
mark-byte ms zero h = absurd (h refl)
mark-byte ms (suc v) h = let e : suc v - 1 ≡ v = omega arith in rw e

pub put_byte : (ms : List ℕ) (v x : ℕ) → (v ≡ 0 → ⊥) → put_mark ms v x ≡ set ms (v - 1) x
put_byte ms zero x h = absurd (h refl)
put_byte ms (suc v) x h = let e : suc v - 1 ≡ v = omega arith in rw e

-- a variable past the bytes
pub mark-past : (ms : List ℕ) (v : ℕ) → length ms < v → marks_of ms v ≡ 0
mark-past ms zero h = refl
mark-past ms (suc v) h = get_or-eq_default ms 0 (omega arith)

pub put-past : (ms : List ℕ) (v x : ℕ) → length ms < v → put_mark ms v x ≡ ms
put-past ms zero x h = refl
put-past ms (suc v) x h = set_out ms v x (omega arith)

-- what the marks are after one is put
pub mark-put : (ms : List ℕ) (v x : ℕ) → 1 ≤ v → v ≤ length ms → marks_of (put_mark ms v x) ≡ put (marks_of ms) v x
mark-put ms zero x h k = absurd (omega arith)
mark-put ms (suc v) x h k = fun_ext go
  where
    by : (u : ℕ) (t : Bool) → eqb (suc u) (suc v) ≡ t → get_or (set ms v x) u 0 ≡ cond t x (get_or ms u 0)
    by u true t = let e : u ≡ v = omega (arith, eqb-true (suc u) (suc v) t) in rw e (get_or-set_same ms v x 0 (omega arith))
    by u false t = get_or-set_other ms v u x 0 (λ e. eqb-false (suc u) (suc v) t (ap suc e))

    go : (u : ℕ) → marks_of (set ms v x) u ≡ put (marks_of ms) (suc v) x u
    go zero = rw (ne_eqb 0 (suc v) (λ e. omega arith))
    go (suc u) = by u (eqb (suc u) (suc v)) refl

-- a variable that is open again
pub mark-opened : (ms : List ℕ) (v u : ℕ) → marks_of (put_mark ms v 0) u ≡ cond (eqb v u) 0 (marks_of ms u)
mark-opened ms zero zero = refl
mark-opened ms zero (suc u) = rw (ne_eqb 0 (suc u) (λ e. omega arith))
mark-opened ms (suc v) zero = rw (ne_eqb (suc v) 0 (λ e. omega arith))
mark-opened ms (suc v) (suc u) = by (eqb (suc v) (suc u)) refl
  where
    same : v ≡ u → (t : Bool) → ltb v (length ms) ≡ t → get_or (set ms v 0) u 0 ≡ 0
    same e true t = rw (← e) (get_or-set_same ms v 0 0 (ltb-true v (length ms) t))
    same e false t = let h = ltb-false v (length ms) t in rw (set_out ms v 0 h) (get_or-eq_default ms 0 (omega arith))

    by : (t : Bool) → eqb (suc v) (suc u) ≡ t → get_or (set ms v 0) u 0 ≡ cond t 0 (get_or ms u 0)
    by true t = same (omega (arith, eqb-true (suc v) (suc u) t)) (ltb v (length ms)) refl
    by false t = get_or-set_other ms v u 0 0 (λ e. eqb-false (suc v) (suc u) t (ap suc (sym e)))

pub put-length : (ms : List ℕ) (v x : ℕ) → length (put_mark ms v x) ≡ length ms
put-length ms zero x = refl
put-length ms (suc v) x = length-set ms v x

-- cleared bytes leave every variable open
pub marks-cleared : (n : ℕ) → marks_of (replicate n 0) ≡ all_open
marks-cleared n = fun_ext go
  where
    zeros : (n v : ℕ) → ◌≡◌ {A = ℕ} (get_or (replicate n 0) v 0) 0
    zeros zero v = refl
    zeros (suc n) zero = refl
    zeros (suc n) (suc v) = zeros n v

    go : (v : ℕ) → marks_of (replicate n 0) v ≡ 0
    go zero = refl
    go (suc v) = zeros n v
