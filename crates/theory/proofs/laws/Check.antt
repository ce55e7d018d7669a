-- When a proof check answers "no timetable", at a bound and without the tail: exactly in the words of demand 3; and then no
-- assignment makes the clauses true.
use mathlib.Core.Path.{◌≡◌}
use mathlib.Core.Logic.{◌↔◌}
use mathlib.Core.Bool.{true, ◌&&◌}
use mathlib.Core.List.{List}
use Prim.Native.Nat.{ℕ}
use lib.Dec.{leb}
use lib.ListN.{length}
use borrow.Author.Tests.{leb-true, le-leb}
use Rattle.scope.specs.Parsed.{Answer, answered, provided}
use Rattle.scope.specs.Instance.{Instance}
use Rattle.scope.specs.Cnf.{Assignment, clauses}
use Rattle.scope.specs.Formula.{variables, hard_of, bounded_variables, bounded_hard, words, most_bound, most_variables}
use Rattle.scope.specs.PlainRun.{plain_run}
use Rattle.scope.specs.Operations.{Lent, limits_of, formula_fits, against, check_of, check_hard_of}
use Rattle.scope.specs.Refutation.{Refuted, NoTimetable, NoneAtAll}
use Rattle.scope.specs.Demands.{Accepted}
use Rattle.laws.specs.Booleans.{and-true}
use Rattle.theory.proofs.laws.Answered.{provided_answers}
use Rattle.theory.proofs.laws.Sound.{plain-sound}
use Rattle.theory.proofs.laws.InWords.{refuted_words, words_refuted, words_fit}

-- a proof against clauses with variables up to the last: 8, then 9, then the plain run
module _ (last : ℕ) (f : List (List ℕ)) (proof : List ℕ) (l : Lent) (n : ℕ) where
  abbrev run : Answer ℕ
  run = plain_run (limits_of last l) f proof

  abbrev pub sized : Answer ℕ
  sized = provided (leb last most_variables) 8 0 (against last f proof l)

  -- it answers so exactly where the proof refutes the clauses
  answered_run : sized ≡ answered n → (leb last most_variables ≡ true) × (formula_fits last f l ≡ true) × (run ≡ answered n)
  answered_run e =
      let v = (provided_answers (leb last most_variables) 8 0 (against last f proof l)).0 e in
      let p = (provided_answers (formula_fits last f l) 9 0 run).0 v.1 in
      (v.0, p.0, p.1)

  to : sized ≡ answered n → Refuted last f proof l n
  unfolding formula_fits
  to e =
      let r = answered_run e in
      let x = leb (words f) l.words in
      let y = leb (length f) l.rows in
      let p = and-true (x && y) (leb last l.bytes) r.1 in
      let q = and-true x y p.0 in
      refuted_words last f proof l n (leb-true _ _ r.0) (leb-true _ _ q.0) (leb-true _ _ q.1) (leb-true _ _ p.1) r.2

  from : Refuted last f proof l n → sized ≡ answered n
  unfolding formula_fits
  from w =
      rw (le-leb _ _ w.size, le-leb _ _ (words_fit last f proof l n w), le-leb _ _ w.row_room, le-leb _ _ w.byte_room)
      (words_refuted last f proof l n w)

  pub sized_exact : (sized ≡ answered n) ↔ Refuted last f proof l n
  sized_exact = (to, from)

  -- and then no assignment makes them true
  pub sized_unsat : sized ≡ answered n → (ν : Assignment) → clauses ν f ≡ true → ⊥
  sized_unsat e = plain-sound (limits_of last l) f proof n (answered_run e).2

module _ (file : List ℕ) (i : Instance) (proof : List ℕ) (l : Lent) (n : ℕ) (a : Accepted file i) where
  -- at a bound: 7 first
  module _ (B : ℕ) where
    abbrev at_bound : Answer ℕ
    at_bound = sized (bounded_variables i B) (bounded_hard i B) proof l n

    bound_first : (check_of file B proof l ≡ answered n) ↔ ((leb B most_bound ≡ true) × (at_bound ≡ answered n))
    unfolding check_of
    bound_first = rw a.parsed (provided_answers (leb B most_bound) 7 B at_bound)

    -- demand 3's "exactly when"
    pub check_exact : (check_of file B proof l ≡ answered n) ↔ NoTimetable i B proof l n
    check_exact =
        let z = sized_exact (bounded_variables i B) (bounded_hard i B) proof l n in (
          λ e. let b = bound_first.0 e in record { bound = leb-true _ _ b.0; refuted = z.0 b.1 },
          λ w. bound_first.1 (le-leb B most_bound w.bound, z.1 w.refuted),
        )

    pub check_unsat : check_of file B proof l ≡ answered n → (ν : Assignment) → clauses ν (bounded_hard i B) ≡ true → ⊥
    check_unsat e = sized_unsat (bounded_variables i B) (bounded_hard i B) proof l n (bound_first.0 e).1

  -- without the tail
  pub hard_exact : (check_hard_of file proof l ≡ answered n) ↔ NoneAtAll i proof l n
  unfolding check_hard_of
  hard_exact = rw a.parsed (sized_exact (variables i) (hard_of i) proof l n)

  pub hard_unsat : check_hard_of file proof l ≡ answered n → (ν : Assignment) → clauses ν (hard_of i) ≡ true → ⊥
  unfolding check_hard_of
  hard_unsat e = sized_unsat (variables i) (hard_of i) proof l n (rw a.parsed at e)
