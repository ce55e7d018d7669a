-- The loop that passes numbers over: what is left falls, and what it comes to.
use mathlib.Core.Path.{◌≡◌, refl, ap}
use mathlib.Core.Bool.{true, false, cond}
use mathlib.Core.List.{List}
use Prim.Native.Nat.{ℕ, suc, ◌-◌, ◌<◌}
use native.Mathlib.Omega.{arith}
use lib.Dec.{eqb}
use lib.ListN.{length}
use borrow.Author.Tests.{eq-eqb, ne_eqb}
use Rattle.std.specs.Prelude.{Some, None}
use Rattle.scope.specs.Parsed.{Parsed, got, refused}
use Rattle.scope.specs.Number.{number}
use Rattle.reader.proofs.Loops.{Left, left_over, left_more, either, nearer}
use Rattle.passing.specs.Passed.{Passing, passing, passed_by, passed_from, passed_at}

module _ (s : List ℕ) where
  -- numbers that are passed over
  abbrev pub to_pass : Passing → ℕ
  to_pass p = cond p.more (suc (length s - p.at)) 0

  abbrev pub pass_turn : Passing → Passing
  pass_turn p = passed_by p.at (number s p.at)

  pass_less : (at : ℕ) (x : Parsed ℕ) → number s at ≡ x → to_pass (passed_by at x) < suc (length s - at)
  pass_less at (refused k v) e = omega arith
  pass_less at (got n next) e =
      either to_pass (eqb n 0) _ (passing next) (suc (length s - at)) (omega arith) (nearer s at n next e)

  pub pass_falls : (p : Passing) → p.more ≡ true → to_pass (pass_turn p) < to_pass p
  pass_falls p e = rw e (pass_less p.at (number s p.at) refl)

  -- the numbers from an offset on, of which those before at are passed
  abbrev pub Going : ℕ → ℕ → Type 0
  Going from at = Left (λ p. p.more) pass_turn to_pass (passed_from s (suc (length s)) (passing from)) (passing at)

  pub going-start : (at : ℕ) → Going at at
  going-start at = record { fuel = suc (length s); enough = omega arith; todo = refl }

  module _ (from at : ℕ) (g : Going from at) where
    turn : (q : Passing) → pass_turn (passing at) ≡ q → Left (λ p. p.more) pass_turn to_pass (passed_from s (suc (length s)) (passing from)) q
    turn q e = rw e at (left_more (λ p. p.more) pass_turn to_pass _ (passing at) g refl (pass_falls (passing at) refl))

    over : (q : Passing) → pass_turn (passing at) ≡ q → q.more ≡ false → q.found ≡ passed_at s from
    unfolding passed_at
    over q e m = ap (λ p. p.found) (left_over (λ p. p.more) pass_turn to_pass _ q (turn q e) m)

    pub going-cut : (k v : ℕ) → number s at ≡ refused k v → None ≡ passed_at s from
    going-cut k v e = over (record { more = false; at = at; found = None }) (rw e) refl

    pub going-end : (n next : ℕ) → number s at ≡ got n next → n ≡ 0 → Some next ≡ passed_at s from
    going-end n next e z = over (record { more = false; at = next; found = Some next }) (rw (e, eq-eqb n 0 z)) refl

    pub going-more : (n next : ℕ) → number s at ≡ got n next → (n ≡ 0 → ⊥) → Going from next
    going-more n next e z = turn (passing next) (rw (e, ne_eqb n 0 z))
