-- What was summed over the constraints of an accepted file is the score of the timetable by the definitions.
use Prim.Native.Nat.{ℕ, ◌-◌, ◌*◌, ◌≤◌}
use mathlib.Core.Path.{◌≡◌, refl, sym, ap, ◌∙◌}
use mathlib.Core.List.{List}
use lib.ListN.{length}
use native.Mathlib.Omega.{arith}
use Rattle.scope.specs.Kinds.{Kind, duration_of, users, group_at, rules_of}
use Rattle.scope.specs.Score.{truth, deviations, infeasibility, objective}
use Rattle.scope.specs.declared.Infeasibility.{Infeasibility}
use Rattle.scope.specs.declared.Objective.{Objective}
use Rattle.parsing.proofs.laws.Each.{each_at}
use Rattle.tables.proofs.laws.Laws.{length-events}
use Rattle.constraint.specs.declared.kinds.Head.{Head}
use Rattle.constraint.specs.Answers.{counts_in}
use Rattle.constraint.specs.Valid.{OneOf, InRange}
use Rattle.instance.specs.Answers.{instance_of}
use Rattle.instance.specs.Laws.{Accepted}
use Rattle.timetable.specs.Right.{Passed, no_event}
use Rattle.timetable.specs.Uses.{UsesOf, Marked}
use Rattle.deviation.specs.Charge.{charge_of}
use Rattle.deviation.proofs.laws.Meaning.{tables-seen, charge_right}
use Rattle.score.specs.Amounts.{hard_sum, soft_sum, decoded_of}
use Rattle.score.proofs.laws.Score.{hard_right, soft_right, decoded-in-range}
use Rattle.score.specs.Ready.{Scorable}
use Rattle.score.proofs.laws.Ready.{accepted_whole, accepted_decoded}

-- an event of an accepted file takes at least one time
lasting : {s d te tg : List ℕ} {h : Head} → Accepted s d te tg h
    → (e : ℕ) → OneOf (length (instance_of s d te tg h).events) e → 1 ≤ duration_of (instance_of s d te tg h).events e
lasting a e o = (each_at (e - 1) no_event a.events (omega (arith, o.low, o.high))).low

module _
    {s d te tg b l u x : List ℕ}
    {h : Head}
    (a : Accepted s d te tg h)
    (z : Scorable s b te tg l h)
    (passed : Passed (instance_of s d te tg h) b)
    (long : length u ≡ 12375)
    (uses : UsesOf h.times b te h.events u)
    (marked : Marked u x) where
  charged : (k : Kind) → InRange (counts_in h) k
      → charge_of (h.events * h.times) h.times b u x tg k
      ≡ deviations (truth (instance_of s d te tg h) b)
      (rules_of h.times (duration_of (instance_of s d te tg h).events) (λ r. users r (instance_of s d te tg h).events) (group_at (instance_of s d te tg h).groups) k)
  charged k v =
      rw (length-events d te h.events) at
      (charge_right (instance_of s d te tg h) b u x tg h.groups
      (tables-seen (instance_of s d te tg h) b u x d te h.events refl z.sizes.times_high long uses marked)
      refl z.times (counts_in h) k passed (lasting a) z.sizes.resources_high (sym (length-events d te h.events)) refl v)

  pub infeasibility_right : {r : Infeasibility}
      → r.0 ≡ hard_sum (charge_of (h.events * h.times) h.times b u x tg) (decoded_of s h)
      → r ≡ infeasibility (instance_of s d te tg h) b
  infeasibility_right {r} e =
      let i = instance_of s d te tg h in
      let sum = hard_right i (truth i b) (counts_in h) (charge_of (h.events * h.times) h.times b u x tg) charged
      (decoded-in-range (counts_in h) s h.constraints h.start (accepted_whole a)) in
      ap (λ (n : ℕ). record { 0 = n }) (e ∙ ap (hard_sum (charge_of (h.events * h.times) h.times b u x tg)) (accepted_decoded a) ∙ sum)

  pub objective_right : {r : Objective}
      → r.0 ≡ soft_sum (charge_of (h.events * h.times) h.times b u x tg) (decoded_of s h)
      → r ≡ objective (instance_of s d te tg h) b
  objective_right {r} e =
      let i = instance_of s d te tg h in
      let sum = soft_right i (truth i b) (counts_in h) (charge_of (h.events * h.times) h.times b u x tg) charged
      (decoded-in-range (counts_in h) s h.constraints h.start (accepted_whole a)) in
      ap (λ (n : ℕ). record { 0 = n }) (e ∙ ap (soft_sum (charge_of (h.events * h.times) h.times b u x tg)) (accepted_decoded a) ∙ sum)
