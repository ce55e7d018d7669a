-- The clauses of a start as the writer of a start gives them.
use mathlib.Core.Path.{◌≡◌, refl}
use mathlib.Core.List.{List, [], ◌∷◌, map, flat_map}
use Prim.Native.Nat.{ℕ, zero, suc, ◌+◌, ◌-◌, ◌*◌}
use native.Mathlib.Omega.{arith}
use lib.Dec.{eqb}
use borrow.Author.Tests.{ne_eqb}
use Rattle.scope.specs.Cnf.{gates}
use Rattle.sink.specs.Run.{Ran}
use Rattle.sink.specs.Lines.{Line, clause_line, lines}
use Rattle.sink.specs.World.{World}
use Rattle.gates.specs.Units as units
use Rattle.literals.specs.Variables.{base_of, literal_at}
use Rattle.literals.specs.Numbered.{start_clauses}
use Rattle.items.specs.Written.{Wrote}

module _ (T starts e : ℕ) where
  -- events and times count from 0 here
  start_lines : (t n : ℕ) → lines n (start_clauses T starts (e + 1) (t + 1))
      ≡ map clause_line (units.start_clauses (eqb t 0) (e * T + (t + 1)) (starts + e * T + (t + 1)))
  unfolding lines start_clauses literal_at base_of
  start_lines zero n =
      let k : e + 1 - 1 ≡ e = omega arith in
      let y : 0 + e * T ≡ e * T = omega arith in
      rw (k, y)
  start_lines (suc t) n =
      let k : e + 1 - 1 ≡ e = omega arith in
      let y : 0 + e * T ≡ e * T = omega arith in
      let b : e * T + suc (suc t) - 1 ≡ e * T + suc t = omega arith in
      let s : suc t + 1 ≡ suc (suc t) = omega arith in
      rw (s, k, y, ne_eqb (suc t) 0 (λ q. omega arith), b)

  pub start_wrote : {f : Line → World → World} (t n : ℕ) {w w' : World}
      → Ran f (map clause_line (units.start_clauses (eqb t 0) (e * T + (t + 1)) (starts + e * T + (t + 1)))) w w'
      → Wrote f n (start_clauses T starts (e + 1) (t + 1)) w w' n
  unfolding start_clauses
  start_wrote t n r = record { ran = rw (start_lines t n) r; next = omega arith }

  -- an event's clauses have no gate
  event_gates : (ts : List ℕ) → gates (flat_map (start_clauses T starts e) ts) ≡ 0
  unfolding flat_map start_clauses
  event_gates [] = refl
  event_gates (t ∷ ts) = event_gates ts

  pub event_wrote : {f : Line → World → World} (ts : List ℕ) (n : ℕ) {w w' : World}
      → Ran f (lines n (flat_map (start_clauses T starts e) ts)) w w'
      → Wrote f n (flat_map (start_clauses T starts e) ts) w w' n
  event_wrote ts n r = record { ran = r; next = omega (arith, event_gates ts) }
