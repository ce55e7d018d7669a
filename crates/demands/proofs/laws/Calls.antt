-- What the C functions say of timetables, for every file, whatever bytes a model or a proof holds and whatever the stores held.
-- `engine` proves that its calls leave decode_call and check_call of what they were lent.
use Prim.Native.Nat.{ℕ, zero, suc, ◌-◌, ◌≤◌, ◌<◌}
use mathlib.Core.Path.{◌≡◌, refl, sym, ap, ◌∙◌}
use mathlib.Core.Bool.{Bool, true, false}
use mathlib.Core.Logic.{◌↔◌}
use mathlib.Core.List.{List, [], ◌∷◌}
use lib.Dec.{leb}
use lib.ListN.{length, take}
use borrow.Author.Tests.{leb-true}
use Rattle.scope.specs.Parsed.{Parsed, got, refused, Answer, answered, with, provided}
use Rattle.scope.specs.Instance.{Instance, parse}
use Rattle.scope.specs.Formula.{primary, variables, most_variables}
use Rattle.scope.specs.Operations.{score_of, decode_of, check_of, falsified_soft}
use Rattle.scope.specs.Refutation.{NoTimetable}
use Rattle.scope.specs.Demands.{Accepted, KeepsHard, Model}
use Rattle.scope.specs.declared.Infeasibility.{Infeasibility}
use Rattle.scope.specs.declared.Objective.{Objective}
use Rattle.laws.specs.Booleans.{impossible}
use Rattle.theory.proofs.laws.Demands.{demand2, demand3}
use Rattle.theory.proofs.laws.Answered.{answered-value}
use Rattle.calls.specs.Call.{called}
use Rattle.operation_calls.specs.Operations.{decode_call, Stores, lent_by, zeroed, steps_call, check_call}
use Rattle.refusal_numbers.proofs.laws.Numbers.{zero-accepted, decode-numbers, check-numbers}
use Rattle.refusal_numbers.proofs.laws.Numbers as numbers

-- the instance of a file that gives none of 1 to 6 and 19
pub record Read (file : List ℕ) : Type 0 where
  pub instance : Instance
  pub accepted : Accepted file instance

-- an operation that is not refused has read its file
pub was_read : {A : Type 0} (file : List ℕ) (p : Parsed Instance) (f : Instance → Answer A) {a : A}
    → parse file ≡ p
    → with p f ≡ answered a
    → Read file
was_read file (got i end) f e h = record { instance = i; accepted = record { end = end; parsed = e } }
was_read file (refused k v) f e h = impossible (cc h)

check-read : (file : List ℕ) (B : ℕ) (proof : List ℕ) (s : Stores) {n : ℕ} → check_of file B proof (lent_by s) ≡ answered n → Read file
unfolding check_of
check-read file B proof s h = was_read file (parse file) _ refl h

module _ (file : List ℕ) (B : ℕ) (proof : List ℕ) (s : Stores) where
  -- timetable_check returns 0, with n in *value
  pub record Refuted (n : ℕ) : Type 0 where
    pub number : (check_call file B proof s).number ≡ 0
    pub value : (check_call file B proof s).value ≡ n

  refuted_answers : {n : ℕ} → Refuted n → check_of file B proof (lent_by s) ≡ answered n
  refuted_answers r =
      let a = zero-accepted (λ (steps : ℕ). (steps, zeroed s)) (zeroed s) refl (check-numbers file B proof (lent_by s)) r.number in
      a.eq ∙ ap answered (rw a.eq at r.value)

  -- "never .. while some timetable keeps every hard constraint at cost B or less"
  pub never : {n : ℕ} → Refuted n → (t : List ℕ) (cost : Objective) → KeepsHard file t cost → B < cost.0
  never r =
      let a = check-read file B proof s (refuted_answers r) in
      demand3.never file a.instance B proof (lent_by s) _ a.accepted (refuted_answers r)

  -- "that answer comes exactly when all of this is so"
  pub exactly : (i : Instance) → Accepted file i → (n : ℕ) → Refuted n ↔ NoTimetable i B proof (lent_by s) n
  exactly i a n =
      let d = demand3.exactly file i B proof (lent_by s) n a in (
        λ r. d.0 (refuted_answers r),
        λ k.
            let e = d.1 k in
            record {
              number = ap (λ (x : Answer ℕ). (steps_call x s).number) e;
              value = ap (λ (x : Answer ℕ). (steps_call x s).value) e;
            },
      )

pub take_again : (n : ℕ) (xs : List ℕ) → take (length (take n xs)) xs ≡ take n xs
take_again zero xs = refl
take_again (suc n) [] = refl
take_again (suc n) (x ∷ xs) = ap (λ (ys : List ℕ). x ∷ ys) (take_again n xs)

passed : {A : Type 0} (b : Bool) (k v : ℕ) (a : Answer A) {x : A} → provided b k v a ≡ answered x → b ≡ true
passed true k v a e = refl
passed false k v a e = impossible (cc e)

decode-read : (file m : List ℕ) {x : List ℕ × Objective} → decode_of file m ≡ answered x → Read file
unfolding decode_of
decode-read file m h = was_read file (parse file) _ refl h

decode-within : (file m : List ℕ) (r : Read file) {x : List ℕ × Objective} → decode_of file m ≡ answered x
    → variables r.instance ≤ most_variables
unfolding decode_of
decode-within file m r h =
    leb-true _ _ (passed (leb (variables r.instance) most_variables) 8 0 _ (rw r.accepted.parsed at h))

-- what is decoded is the first bytes of the model, a timetable of that cost
decoded-part : (file m p : List ℕ) (cost : Objective) → decode_of file m ≡ answered (p, cost)
    → KeepsHard file p cost × (take (length p) m ≡ p)
decoded-part file m p cost h =
    let r = decode-read file m h in
    let one = demand2 file r.instance r.accepted (decode-within file m r h) in
    let model = one.only_models m p cost h in
    let same = answered-value (sym (one.decodes m model) ∙ h) in
    let q : take (primary r.instance) m ≡ p = ap (λ (x : List ℕ × Objective). x.0) same in
    let c : falsified_soft r.instance m ≡ cost = ap (λ (x : List ℕ × Objective). x.1) same in
    (rw (q, c) at (one.cost m model), rw q at (take_again (primary r.instance) m))

-- what is told of a part and its cost
abbrev decoded_of : List ℕ × Objective → ℕ × ℕ
decoded_of d = (length d.0, d.1.0)

module _ (file m : List ℕ) (before : ℕ) where
  -- timetable_decode returns 0, with k in *value and w in *objective
  pub record Decoded (k w : ℕ) : Type 0 where
    pub number : (decode_call file m before).number ≡ 0
    pub value : (decode_call file m before).value ≡ k
    pub objective : (decode_call file m before).outputs ≡ w

  module _ {k w : ℕ} (d : Decoded k w) where
    accepts : numbers.Accepted (decode_of file m)
    accepts = zero-accepted decoded_of before refl (decode-numbers file m) d.number

    decoded_answers : decode_of file m ≡ answered (accepts.result.0, record { 0 = w })
    decoded_answers =
        accepts.eq ∙ ap (λ (v : ℕ). answered (accepts.result.0, record { 0 = v })) (rw accepts.eq at d.objective)

    decoded_length : length accepts.result.0 ≡ k
    decoded_length = rw accepts.eq at d.value

    -- "each model decodes to its timetable": the first k bytes of the model, which keep every hard constraint at the cost w
    pub keeps : KeepsHard file (take k m) (record { 0 = w })
    keeps =
        let p = decoded-part file m _ _ decoded_answers in
        ap (score_of file) (sym (ap (λ (n : ℕ). take n m) decoded_length) ∙ p.1) ∙ p.0

    -- "every other timetable that keeps its hard constraints costs at least w"
    pub best : (proof : List ℕ) (s : Stores) {n : ℕ} → 1 ≤ w → w ≤ 4096 → Refuted file (w - 1) proof s n
        → (t : List ℕ) (cost : Objective) → KeepsHard file t cost → w ≤ cost.0
    best proof s low high r =
        let a = check-read file (w - 1) proof s (refuted_answers file (w - 1) proof s r) in
        demand3.best file a.instance m _ (record { 0 = w }) proof (lent_by s) _ a.accepted decoded_answers low high
        (refuted_answers file (w - 1) proof s r)

-- it returns 0 exactly for the models of the hard clauses
pub zero-exactly : (file : List ℕ) (i : Instance) → Accepted file i → variables i ≤ most_variables → (before : ℕ) (m : List ℕ)
    → ((decode_call file m before).number ≡ 0) ↔ Model i m
zero-exactly file i a l before m =
    let one = demand2 file i a l in (
      λ z.
          let k = zero-accepted decoded_of before refl (decode-numbers file m) z in
          one.only_models m k.result.0 k.result.1 k.eq,
      λ h. ap (λ (x : Answer (List ℕ × Objective)). (called x decoded_of before).number) (one.decodes m h),
    )

-- "each such timetable has exactly one model": one that timetable_decode reads it out of, at its cost, and no other
pub record OneModel (file t : List ℕ) (before cost : ℕ) : Type 0 where
  pub model : List ℕ
  pub decoded : Decoded file model before (length t) cost
  pub holds : take (length t) model ≡ t
  pub only : (n : List ℕ) (w : ℕ) → Decoded file n before (length t) w → take (length t) n ≡ t → n ≡ model

pub one_model : (file : List ℕ) (i : Instance) → Accepted file i → variables i ≤ most_variables
    → (t : List ℕ) (cost : Objective) → KeepsHard file t cost
    → (before : ℕ) → OneModel file t before cost.0
one_model file i a l t cost k before =
    let one = demand2 file i a l in
    let o = one.one_model t cost k in
    let c : falsified_soft i o.0 ≡ cost =
    ap (λ (x : Infeasibility × Objective). x.1) (answered-value (sym (rw o.2 at (one.cost o.0 o.1)) ∙ k)) in
    let e : decode_of file o.0 ≡ answered (t, cost) = one.decodes o.0 o.1 ∙ rw (o.2, c) in
    record {
      model = o.0;
      decoded =
          record {
            number = ap (λ (x : Answer (List ℕ × Objective)). (called x decoded_of before).number) e;
            value = ap (λ (x : Answer (List ℕ × Objective)). (called x decoded_of before).value) e;
            objective = ap (λ (x : Answer (List ℕ × Objective)). (called x decoded_of before).outputs) e;
          };
      holds = (decoded-part file o.0 t cost e).1;
      only = λ n w d q.
          let h = decoded_answers file n before d in
          let model = one.only_models n _ _ h in
          let same = answered-value (sym (one.decodes n model) ∙ h) in
          let p = sym (decoded-part file n _ _ h).1 ∙ ap (λ (k : ℕ). take k n) (decoded_length file n before d) ∙ q in
          o.3 n model (ap (λ (x : List ℕ × Objective). x.0) same ∙ p);
    }

-- Demand 2 of timetable_decode: it returns 0 exactly for the models of the hard clauses; the bytes that it tells are then a
-- timetable that keeps every hard constraint at the cost it tells; and each such timetable is told for exactly one model
pub record DecodeMatches (file : List ℕ) (i : Instance) : Type 0 where
  pub models : (before : ℕ) (m : List ℕ) → ((decode_call file m before).number ≡ 0) ↔ Model i m
  pub timetables : (before : ℕ) (m : List ℕ) (k w : ℕ) → Decoded file m before k w → KeepsHard file (take k m) (record { 0 = w })
  pub one_each : (before : ℕ) (t : List ℕ) (cost : Objective) → KeepsHard file t cost → OneModel file t before cost.0
