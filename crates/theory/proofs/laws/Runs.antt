-- Times that go on with a subevent, one after the other: what kinds 9 and 10 look at, against the subevent's length.
use mathlib.Core.Path.{◌≡◌, refl, sym, ap, ◌∙◌}
use mathlib.Core.Bool.{Bool, true, false, not, cond, ◌&&◌, ◌||◌}
use mathlib.Core.List.{List, [], ◌∷◌, ◌++◌, map, map-append}
use Prim.Native.Nat.{ℕ, zero, suc, ◌+◌, ◌-◌, ◌≤◌, ◌<◌, min}
use native.Mathlib.Omega.{arith}
use lib.Dec.{leb, ltb, eqb, leb-zero, leb-suc-zero, leb-suc-suc}
use borrow.Author.Tests.{leb-true, leb-false, lt-leb, lt-ltb, le-ltb, eq-eqb, ne_eqb}
use Rattle.scope.specs.Kinds.{Atom, S, from, span}
use Rattle.scope.specs.Score.{all}
use Rattle.scope.specs.Subevents.{taken, before}

-- all of one list after another
pub all_append : (xs ys : List Bool) → all (xs ++ ys) ≡ (all xs && all ys)
unfolding all
all_append [] ys = refl
all_append (true ∷ xs) ys = all_append xs ys
all_append (false ∷ xs) ys = refl

all_none : all [] ≡ true
unfolding all
all_none = refl

-- no times, where the last is before the first
span_none : (T a b : ℕ) → b < a → span T a b ≡ []
unfolding span from
span_none T a b h = let none : min b (T + 1) + 1 - a ≡ 0 = omega arith in rw none

-- numbers from a on, in two parts
from_parts : (a k l : ℕ) → from a (k + l) ≡ from a k ++ from (a + k) l
unfolding from
from_parts a zero l =
    let e : a + 0 ≡ a = omega arith in
    let f : 0 + l ≡ l = omega arith in
    rw (e, f)
from_parts a (suc k) l =
    let e : a + suc k ≡ suc a + k = omega arith in
    let f : suc k + l ≡ suc (k + l) = omega arith in
    rw (e, f) (ap (λ xs. a ∷ xs) (from_parts (suc a) k l))

module _ (T : ℕ) (τ : Atom → Bool) (e : ℕ) where
  -- whether a time goes on with the subevent before it: M
  unfoldable pub on : ℕ → Bool
  on u = taken T τ e u && not (τ (S e u))

  -- how many times go on after time t
  abbrev pub later : ℕ → ℕ
  later t = before T τ e (suc t) (T + 1 - t)

  before_on : (t k : ℕ) → before T τ e t (suc k) ≡ cond (on t) (suc (before T τ e (suc t) k)) 0
  unfolding before on
  before_on t k = go (taken T τ e t) (τ (S e t))
    where
      go : (x s : Bool)
          → cond (not x || s) 0 (suc (before T τ e (suc t) k)) ≡ cond (x && not s) (suc (before T τ e (suc t) k)) 0
      go true true = refl
      go true false = refl
      go false s = refl

  -- the first k of j times go on exactly where at least k stand before the next that does not
  run : (a j k : ℕ) → k ≤ j → all (map on (from a k)) ≡ leb k (before T τ e a j)
  unfolding from all
  run a j zero h = sym (leb-zero (before T τ e a j))
  run a zero (suc k) h = let f : ⊥ = omega arith in absurd f
  run a (suc j) (suc k) h = rw (before_on a j, run (suc a) j k (omega arith)) (go (on a))
    where
      go : (b : Bool) → (b && leb k (before T τ e (suc a) j)) ≡ leb (suc k) (cond b (suc (before T τ e (suc a) j)) 0)
      go true = sym (leb-suc-suc k (before T τ e (suc a) j))
      go false = sym (leb-suc-zero k)

  -- time T + 1 does not go on, so that a run ends before it
  on_past : (u : ℕ) → T < u → on u ≡ false
  unfolding on
  on_past u h = rw (lt-leb u T h)

  before_most : (j a : ℕ) → a + j ≡ T + 1 → before T τ e a (suc j) ≤ j
  before_most zero a h = rw (before_on a 0, on_past a (omega arith)) (omega arith)
  before_most (suc j) a h = rw (before_on a (suc j)) (go (on a) (before_most j (suc a) (omega arith)))
    where
      go : (b : Bool) → before T τ e (suc a) (suc j) ≤ j → cond b (suc (before T τ e (suc a) (suc j))) 0 ≤ suc j
      go true l = omega arith
      go false l = omega arith

  later_most : (t : ℕ) → t ≤ T → t + later t ≤ T
  later_most t h =
      let s : T + 1 - t ≡ suc (T - t) = omega arith in
      rw s (omega (arith, before_most (T - t) (suc t) (omega arith)))

  -- the m times after t, as far as T + 1
  pub run_span : (t m : ℕ) → t ≤ T → all (map on (span T (t + 1) (t + m))) ≡ leb m (later t)
  unfolding span
  run_span t m h = go (leb m (T + 1 - t)) refl
    where
      next : t + 1 ≡ suc t
      next = omega arith

      go : (b : Bool) → leb m (T + 1 - t) ≡ b
          → all (map on (from (t + 1) (min (t + m) (T + 1) + 1 - (t + 1)))) ≡ leb m (later t)
      go true q =
          let l = leb-true m (T + 1 - t) q in
          let k : min (t + m) (T + 1) + 1 - (t + 1) ≡ m = omega arith in
          rw (k, next) (run (suc t) (T + 1 - t) m l)
      go false q =
          let l = leb-false m (T + 1 - t) q in
          let k : min (t + m) (T + 1) + 1 - (t + 1) ≡ T + 1 - t = omega arith in
          let most = later_most t h in
          rw (k, next)
          (run (suc t) (T + 1 - t) (T + 1 - t) (omega arith) ∙ lt-leb (T + 1 - t) (later t) (omega arith)
          ∙ sym (lt-leb m (later t) (omega arith)))

  -- the times before the a-th after t, and those from it on
  pub run_parts : (t a b : ℕ) → 1 ≤ a → a ≤ b + 1 → t + a ≤ T + 2 → t ≤ T
      → leb b (later t) ≡ (leb (a - 1) (later t) && all (map on (span T (t + a) (t + b))))
  unfolding span
  run_parts t a b h k l w =
      let s : min (t + b) (T + 1) + 1 - (t + 1) ≡ (a - 1) + (min (t + b) (T + 1) + 1 - (t + a)) = omega arith in
      let p : t + 1 + (a - 1) ≡ t + a = omega arith in
      let n : t + 1 ≡ suc t = omega arith in
      let first : all (map on (from (t + 1) (a - 1))) ≡ leb (a - 1) (later t) = rw n (run (suc t) (T + 1 - t) (a - 1) (omega arith)) in
      let rest = from (t + a) (min (t + b) (T + 1) + 1 - (t + a)) in
      sym (run_span t b w)
      ∙ rw (s, from_parts (t + 1) (a - 1) (min (t + b) (T + 1) + 1 - (t + a)), p, map-append on (from (t + 1) (a - 1)) rest)
      (all_append (map on (from (t + 1) (a - 1))) (map on rest) ∙ rw first)

  -- kind 9: the n − 1 times after a start go on, and the n-th does not, where it is not past T + 1
  pub length_run : (t n : ℕ) → 1 ≤ n → t ≤ T
      → (leb (n - 1) (later t) && all (map (λ u. not (on u)) (span T (t + n) (t + n)))) ≡ eqb n (suc (later t))
  unfolding span from all
  length_run t n h w = go (leb (n - 1) (later t)) refl
    where
      go : (b : Bool) → leb (n - 1) (later t) ≡ b
          → (b && all (map (λ u. not (on u)) (from (t + n) (min (t + n) (T + 1) + 1 - (t + n))))) ≡ eqb n (suc (later t))
      go false q = let l = leb-false (n - 1) (later t) q in sym (ne_eqb n (suc (later t)) (λ p. omega arith))
      go true q =
          let l = leb-true (n - 1) (later t) q in
          let most = later_most t w in
          let one : min (t + n) (T + 1) + 1 - (t + n) ≡ 1 = omega arith in
          let more = run_parts t n n h (omega arith) (omega arith) w in
          rw one (ends (on (t + n)) (rw (one, q) at more))
        where
          ends : (x : Bool) → leb n (later t) ≡ (x && true) → (not x && true) ≡ eqb n (suc (later t))
          ends true p = let l = leb-true n (later t) p in sym (ne_eqb n (suc (later t)) (λ s. omega arith))
          ends false p =
              let l = leb-false n (later t) p in
              let k = leb-true (n - 1) (later t) q in
              sym (eq-eqb n (suc (later t)) (omega arith))

  -- kind 10: not all times before the a-th after a start go on, or all do from it to the b-th
  pub outside_run : (t a b : ℕ) → 1 ≤ a → t ≤ T
      → (not (leb (a - 1) (later t)) || all (map on (span T (t + a) (t + b)))) ≡ (ltb (suc (later t)) a || ltb b (suc (later t)))
  outside_run t a b h w = go (leb (a - 1) (later t)) refl
    where
      go : (x : Bool) → leb (a - 1) (later t) ≡ x
          → (not x || all (map on (span T (t + a) (t + b)))) ≡ (ltb (suc (later t)) a || ltb b (suc (later t)))
      go false q = let l = leb-false (a - 1) (later t) q in rw (lt-ltb (suc (later t)) a (omega arith))
      go true q = rw (le-ltb (suc (later t)) a (omega (arith, leb-true (a - 1) (later t) q))) (ends (leb a (b + 1)) refl)
        where
          ends : (y : Bool) → leb a (b + 1) ≡ y → all (map on (span T (t + a) (t + b))) ≡ ltb b (suc (later t))
          ends true p =
              let l = leb-true (a - 1) (later t) q in
              let k = leb-true a (b + 1) p in
              let most = later_most t w in
              sym (leb-suc-suc b (later t) ∙ rw q at (run_parts t a b h k (omega arith) w))
          ends false p =
              let l = leb-true (a - 1) (later t) q in
              let k = leb-false a (b + 1) p in
              rw (span_none T (t + a) (t + b) (omega arith), all_none) (sym (lt-ltb b (suc (later t)) (omega arith)))
