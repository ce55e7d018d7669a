-- What the verdict on lent bytes says of the operations' answers: laws.
use Prim.Native.Nat.{ℕ, ◌*◌, ◌/◌, ◌≤◌}
use mathlib.Core.Path.{◌≡◌, refl, sym, ap, ◌∙◌}
use mathlib.Core.Bool.{Bool}
use Rattle.std.proofs.Common.{Result, Ok, Err}
use Rattle.std.specs.Cmp.Lexicographic.{pointwise}
use lib.Dec.{eqb}
use mathlib.Core.List.{List, []}
use lib.ListN.{length, take}
use lib.Seq.{length-take-le}
use native.Mathlib.Omega.{arith}
use Rattle.scope.specs.Parsed.{Answer, answered, then}
use Rattle.scope.specs.Instance.{Instance}
use Rattle.scope.specs.Score.{slots, of_timetable, infeasibility, objective}
use Rattle.scope.specs.Operations.{score_of, same_bytes, same_sheet_of}
use Rattle.scope.specs.Answers.{given, means}
use Rattle.scope.specs.declared.refusal.Refusal.{Refusal}
use Rattle.scope.specs.declared.Infeasibility.{Infeasibility}
use Rattle.scope.specs.declared.Objective.{Objective}
use Rattle.tables.specs.Rows.{events_of}
use Rattle.tables.proofs.laws.Laws.{length-events}
use Rattle.constraint.specs.declared.kinds.Head.{Head}
use Rattle.instance.specs.Answers.{instance_of}
use Rattle.instance.specs.Laws.{Accepted}
use Rattle.timetable.specs.Right.{Passed}
use Rattle.timetable.proofs.laws.Refusals.{then-timetable, timetable-passed}
use Rattle.score.proofs.laws.Ready.{tables-last}
use Rattle.verdict.specs.Answers.{VerdictOf}
use Rattle.verdict.proofs.laws.Same.{bytes-pointwise}

-- a timetable has the length wanted
pub timetable-long : {b d : List ℕ} {h : Head} {v : Result (Unit {0}) Refusal} → VerdictOf b d h v → v ≡ Ok tt → length b ≡ 2 * (h.events * h.times)
timetable-long {b} {d} {h} {v} o t =
    let i : Instance = record { times = h.times; resources = 0; events = events_of d [] h.events; groups = []; constraints = [] } in
    let e = rw t at (o.says i (tables-last d [] i h.times h.events refl refl)) in
    rw (length-events d [] h.events) at (timetable-passed i b _ e).size

-- the Y bytes of two timetables of one instance are as many
pub record Halves (b c : List ℕ) : Type 0 where
  pub second : length b / 2 ≡ length (take (length b / 2) c)
  pub same : length (take (length b / 2) b) ≡ length (take (length b / 2) c)

pub timetables-halve : {b c d : List ℕ} {h : Head} {v w : Result (Unit {0}) Refusal} → VerdictOf b d h v → v ≡ Ok tt → VerdictOf c d h w
    → w ≡ Ok tt → Halves b c
timetables-halve {b} {c} o t p u =
    let m = timetable-long o t in
    let n = timetable-long p u in
    let x : length b / 2 ≤ length b = omega arith in
    let y : length b / 2 ≤ length c = omega arith in
    let k = length-take-le (length b / 2) c y in
    record { second = sym k; same = length-take-le (length b / 2) b x ∙ sym k }

-- bytes for an accepted file
module _ {s d te tg : List ℕ} {h : Head} (a : Accepted s d te tg h) where
  -- what comes after bytes that are refused, and after a timetable
  module _ {A : Type 0} {b : List ℕ} {v : Result (Unit {0}) Refusal} (o : VerdictOf b d h v) (r : Answer A) where
    after_bytes : then (means v) (λ _. r) ≡ of_timetable (instance_of s d te tg h) b r
    after_bytes =
        ap (λ p. then p (λ _. r)) (o.says (instance_of s d te tg h) (tables-last d te (instance_of s d te tg h) h.times h.events refl refl))
        ∙ then-timetable (instance_of s d te tg h) b r

    refused_bytes : {g : Refusal} → v ≡ Err g → given g ≡ of_timetable (instance_of s d te tg h) b r
    refused_bytes t = rw t at after_bytes

    timetable_bytes : v ≡ Ok tt → r ≡ of_timetable (instance_of s d te tg h) b r
    timetable_bytes t = rw t at after_bytes

  -- scoring
  module _ {b : List ℕ} {v : Result (Unit {0}) Refusal} (o : VerdictOf b d h v) where
    pub score_passed : v ≡ Ok tt → Passed (instance_of s d te tg h) b
    score_passed t = timetable-passed (instance_of s d te tg h) b (answered (tt {0})) (timetable_bytes o (answered tt) t)

    pub score_refused : {g : Refusal} → v ≡ Err g → given g ≡ score_of s b
    unfolding score_of
    score_refused t = rw a.parsed (refused_bytes o _ t)

    pub score_scored : {p : Infeasibility} {q : Objective} → v ≡ Ok tt
        → (p ≡ infeasibility (instance_of s d te tg h) b) × (q ≡ objective (instance_of s d te tg h) b) → answered (p, q) ≡ score_of s b
    unfolding score_of
    score_scored t e = rw (a.parsed, e.0, e.1) (timetable_bytes o _ t)

  -- same sheet: the first, then the second, then their Y bytes
  module _ {b : List ℕ} (c : List ℕ) {v : Result (Unit {0}) Refusal} (o : VerdictOf b d h v) where
    pub sheet_first : {g : Refusal} → v ≡ Err g → given g ≡ same_sheet_of s b c
    unfolding same_sheet_of
    sheet_first t = rw a.parsed (refused_bytes o _ t)

    module _ (t : v ≡ Ok tt) {w : Result (Unit {0}) Refusal} (p : VerdictOf c d h w) where
      first_passed : {r : Answer Bool}
          → r ≡ of_timetable (instance_of s d te tg h) c (answered (same_bytes (take (slots (instance_of s d te tg h)) b) (take (slots (instance_of s d te tg h)) c)))
          → r ≡ same_sheet_of s b c
      unfolding same_sheet_of
      first_passed e = rw a.parsed (e ∙ timetable_bytes o _ t)

      pub sheet_second : {g : Refusal} → w ≡ Err g → given g ≡ same_sheet_of s b c
      sheet_second u = first_passed (refused_bytes p _ u)

      pub sheet_answered : {r : Bool} → w ≡ Ok tt → r ≡ pointwise eqb (take (length b / 2) b) (take (length b / 2) c)
          → answered r ≡ same_sheet_of s b c
      sheet_answered {r} u e =
          let half : length b / 2 ≡ slots (instance_of s d te tg h) = omega (arith, timetable-long o t, ap (λ n. n * h.times) (length-events d te h.events)) in
          first_passed (ap answered (rw half at (e ∙ bytes-pointwise (take (length b / 2) b) (take (length b / 2) c))) ∙ timetable_bytes p _ u)
