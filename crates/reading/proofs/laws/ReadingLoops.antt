-- What the loops that read a step come to: the numbers that are passed over, and the literals.
use mathlib.Core.Path.{◌≡◌, refl}
use mathlib.Core.Bool.{Bool, true, false, cond}
use mathlib.Core.List.{List}
use Prim.Native.Nat.{ℕ, zero, suc, ◌+◌, ◌-◌, ◌/◌, ◌%◌, ◌<◌}
use native.Mathlib.Omega.{arith}
use lib.Dec.{eqb}
use lib.ListN.{length}
use borrow.Author.Tests.{eqb-true, eqb-false}
use Rattle.scope.specs.Parsed.{Parsed, got, refused}
use Rattle.scope.specs.Number.{number}
use Rattle.marks.specs.Marks.{marks_of, put_mark}
use Rattle.std.specs.Prelude.{Some, None}
use Rattle.reader.specs.Loop.{while_more}
use Rattle.passing.specs.Passed.{Passing, passing, passed_by, passed_from, passed_at}
use Rattle.spelling.specs.Spelt.{literal_ok, Spelling, spelling, spelt, spelt_by, spelt_marks, Spelled, spell_turn, spelt_from, literals_at}
use Rattle.reader.proofs.Loops.{closed_same, nearer}
use Rattle.passing.proofs.Turns.{pass_turn}
use Rattle.reading.proofs.laws.Reading.{Passes, ReadsLiterals}
use Rattle.reading.proofs.laws.ReadingTurns.{passes-cut, passes_end, passes_more, literals-cut, literals_end, literals_bad, literals_more}

module _ (s : List ℕ) where
  -- and come to what the loop finds
  passes_from : (k at : ℕ) → length s - at < k → Passes s at (passed_from s k (passing at)).found
  unfolding while_more
  passes_from zero at h = absurd (omega arith)
  passes_from (suc k) at h = go (λ next. passes_from k next) (number s at) refl
    where
      same : (p : Passing) → p.more ≡ false → passed_from s k p ≡ p
      same p e = closed_same (λ p. p.more) (pass_turn s) k p e

      zero_or : (n next : ℕ) → number s at ≡ got n next → Passes s next (passed_from s k (passing next)).found → (t : Bool) → eqb n 0 ≡ t
          → Passes s at (passed_from s k (cond t (record { more = false; at = next; found = Some next }) (passing next))).found
      zero_or n next e ih true t = rw (same (record { more = false; at = next; found = Some next }) refl) (passes_end s at n next e (eqb-true n 0 t))
      zero_or n next e ih false t = passes_more s at n next e (eqb-false n 0 t) (passed_from s k (passing next)).found ih

      go : ((next : ℕ) → length s - next < k → Passes s next (passed_from s k (passing next)).found) → (x : Parsed ℕ) → number s at ≡ x
          → Passes s at (passed_from s k (passed_by at x)).found
      go ih (refused j v) e = rw (same (record { more = false; at = at; found = None }) refl) (passes-cut s at j v e)
      go ih (got n next) e = zero_or n next e (ih next (omega (arith, nearer s at n next e))) (eqb n 0) refl

  pub passes_at : (at : ℕ) → Passes s at (passed_at s at)
  unfolding passed_at
  passes_at at = passes_from (suc (length s)) at (omega arith)

  -- literals that are read
  module _ (last : ℕ) where
    abbrev from : ℕ → Spelling → List ℕ → Spelled
    from k p ms = spelt_from s last k (record { state = p; marks = ms })

    abbrev ReadsFrom : ℕ → ℕ → List ℕ → ℕ → Spelled → Type 0
    ReadsFrom k at ms size x = ReadsLiterals s at last ms size x.marks x.state.found

    literals-from : (k at : ℕ) (ms : List ℕ) (size : ℕ) → length s - at < k → ReadsFrom k at ms size (from k (spelling at size) ms)
    unfolding while_more
    literals-from zero at ms size h = absurd (omega arith)
    literals-from (suc k) at ms size h = go (λ next ms'. literals-from k next ms' (size + 1)) (number s at) refl
      where
        same : (p : Spelling) → p.more ≡ false → from k p ms ≡ record { state = p; marks = ms }
        same p e = closed_same (λ x. x.state.more) (spell_turn s last) k (record { state = p; marks = ms }) e

        literal_or : (l next : ℕ) → number s at ≡ got l next → (l ≡ 0 → ⊥)
            → ReadsFrom k next (put_mark ms (l / 2) (2 - l % 2)) (size + 1) (from k (spelling next (size + 1)) (put_mark ms (l / 2) (2 - l % 2)))
            → (t : Bool) → literal_ok last (marks_of ms) l ≡ t
            → ReadsFrom k at ms size (from k (cond t (spelling next (size + 1)) (spelt next size None)) (cond t (put_mark ms (l / 2) (2 - l % 2)) ms))
        literal_or l next e n ih true t =
            literals_more s at l next e last ms size n t (put_mark ms (l / 2) (2 - l % 2)) _ _ refl ih
        literal_or l next e n ih false t =
            rw (same (spelt next size None) refl) (literals_bad s at l next e last ms size n ms t)

        zero_or : (l next : ℕ) → number s at ≡ got l next
            → ReadsFrom k next (put_mark ms (l / 2) (2 - l % 2)) (size + 1) (from k (spelling next (size + 1)) (put_mark ms (l / 2) (2 - l % 2)))
            → (t : Bool) → eqb l 0 ≡ t
            → ReadsFrom k at ms size (from k (cond t (spelt next size (Some (size, next))) (cond (literal_ok last (marks_of ms) l) (spelling next (size + 1)) (spelt next size None)))
            (cond t ms (cond (literal_ok last (marks_of ms) l) (put_mark ms (l / 2) (2 - l % 2)) ms)))
        zero_or l next e ih true t =
            rw (same (spelt next size (Some (size, next))) refl) (literals_end s at l next e last ms size (eqb-true l 0 t))
        zero_or l next e ih false t = literal_or l next e (eqb-false l 0 t) ih (literal_ok last (marks_of ms) l) refl

        go : ((next : ℕ) (ms' : List ℕ) → length s - next < k → ReadsFrom k next ms' (size + 1) (from k (spelling next (size + 1)) ms')) → (x : Parsed ℕ) → number s at ≡ x
            → ReadsFrom k at ms size (from k (spelt_by last ms (spelling at size) x) (spelt_marks last ms x))
        go ih (refused j v) e = rw (same (spelt at size None) refl) (literals-cut s at last ms size j v e)
        go ih (got l next) e = zero_or l next e (ih next (put_mark ms (l / 2) (2 - l % 2)) (omega (arith, nearer s at l next e))) (eqb l 0) refl

    pub literals_read : (at : ℕ) (ms : List ℕ) → ReadsLiterals s at last ms 0 (literals_at s at last ms).marks (literals_at s at last ms).found
    unfolding literals_at
    literals_read at ms = literals-from (suc (length s)) at ms 0 (omega arith)
