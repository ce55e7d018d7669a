-- Demand 2: the models of the hard clauses and the timetables that keep every hard constraint match one to one.
use mathlib.Core.Path.{◌≡◌, refl, sym, ap, ◌∙◌}
use mathlib.Core.Logic.{◌↔◌}
use mathlib.Core.List.{List}
use Prim.Native.Nat.{ℕ, ◌+◌, ◌≤◌}
use native.Mathlib.Omega.{arith}
use lib.Dec.{leb}
use lib.ListN.{length}
use lib.Seq.{take_at, length-take-le}
use borrow.Author.Tests.{le-leb, leb-true}
use Rattle.laws.specs.Lists.{All, All-take, All-everywhere, All-places}
use Rattle.scope.specs.Parsed.{Answer, answered}
use Rattle.scope.specs.Instance.{Instance}
use Rattle.scope.specs.Cnf.{bit, falsified}
use Rattle.theory.proofs.laws.Outputs.{outputs}
use Rattle.scope.specs.Score.{truth, objective_of, objective, unless_found, of_bytes}
use Rattle.scope.specs.Formula.{primary, formula, variables, hard_of, soft_of, most_variables}
use Rattle.scope.specs.Operations.{lowest_false, decode_of, part, falsified_soft}
use Rattle.scope.specs.Demands.{Accepted, Model, Demand2}
use Rattle.scope.specs.declared.Objective.{Objective}
use Rattle.theory.specs.Accepted.{ValidInstance}
use Rattle.theory.proofs.laws.Accepted.{accepted-valid}
use Rattle.theory.proofs.laws.Circuit.{hard-clauses}
use Rattle.theory.proofs.laws.Extension.{extended, extended-holds, extended-only, length-extended, extended-bytes}
use Rattle.theory.proofs.laws.Answered.{provided_answers, unless_found-answers, of_bytes-answers, lowest_false-none}
use Rattle.theory.proofs.laws.FormulaOrder.{formula_order}
use Rattle.theory.proofs.laws.FormulaScore.{formula_score}
use Rattle.theory.proofs.laws.Feasible.{Feasible, keeps-hard}

model-bytes : (i : Instance) (m : List ℕ) → Model i m → All (λ b. b ≤ 1) m
model-bytes i m k = All-places (λ b. b ≤ 1) 0 m (λ n _. k.bytes n)

-- decoding answers exactly at models
pub decodes-models : (file : List ℕ) (i : Instance) → Accepted file i → variables i ≤ most_variables
    → (m : List ℕ) (x : List ℕ × Objective)
    → (decode_of file m ≡ answered x) ↔ (Model i m × (answered (part i m, falsified_soft i m) ≡ answered x))
unfolding decode_of
decodes-models file i a l m x =
    let said : Answer (List ℕ × Objective) = answered (part i m, falsified_soft i m) in
    let found = lowest_false (bit m) 1 (hard_of i) in
    let p = provided_answers (leb (variables i) most_variables) 8 0 (of_bytes (variables i) m (unless_found 13 found said)) in
    let b = of_bytes-answers (variables i) m (unless_found 13 found said) in
    let u = unless_found-answers 13 found said in
    let n = lowest_false-none (bit m) 1 (hard_of i) in
    rw a.parsed (
      λ e.
          let q = b.0 (p.0 e).1 in
          let r = u.0 q.2 in
          (record { size = q.0; bytes = All-everywhere (λ b. b ≤ 1) 0 (omega arith) m q.1; holds = n.0 r.0 }, r.1),
      λ h.
          let shown = u.1 (n.1 h.0.holds, h.1) in
          p.1 (le-leb (variables i) most_variables l, b.1 (h.0.size, model-bytes i m h.0, shown)),
    )

-- and only a formula within its limit
pub decoded-few : (file : List ℕ) (i : Instance) → Accepted file i → (m : List ℕ) {x : List ℕ × Objective}
    → decode_of file m ≡ answered x → variables i ≤ most_variables
unfolding decode_of
decoded-few file i a m {x} e =
    let said : Answer (List ℕ × Objective) = answered (part i m, falsified_soft i m) in
    let found = lowest_false (bit m) 1 (hard_of i) in
    let p = provided_answers {x = x} (leb (variables i) most_variables) 8 0 (of_bytes (variables i) m (unless_found 13 found said)) in
    leb-true (variables i) most_variables (p.0 (rw a.parsed at e)).0

module _ (i : Instance) (v : ValidInstance i) where
  -- a model is the extension of its part with Y and S
  model_extended : (m : List ℕ) → Model i m → m ≡ extended (formula i) (part i m)
  unfolding variables hard_of bit
  model_extended m k =
      extended-only (formula i) m (primary i) (formula_order i v) k.size (model-bytes i m k)
      ((hard-clauses (bit m) refl (primary i + 1) (formula i)).0 k.holds).0

  -- the extension of bytes is a model exactly where they are a timetable that keeps every hard constraint
  extended_model : (t : List ℕ) → length t ≡ primary i → All (λ b. b ≤ 1) t → Model i (extended (formula i) t) ↔ Feasible i t
  unfolding variables hard_of bit
  extended_model t l a =
      let F = formula i in
      let h = extended-holds F t (primary i + 1) (omega arith) (formula_order i v) in
      let s = formula_score i v t (outputs F t) l h in
      let c = hard-clauses (bit (extended F t)) refl (primary i + 1) F in (
        λ k. let f = s.keeps.0 (c.0 k.holds).1 in record { size = l; bytes = a; right = f.0; feasible = f.1 },
        λ k.
            record {
              size = length-extended F t ∙ rw l;
              bytes = All-everywhere (λ b. b ≤ 1) 0 (omega arith) (extended F t) (extended-bytes F t a);
              holds = c.1 (h, s.keeps.1 (k.right, k.feasible));
            },
      )

  -- and the soft units that it falsifies weigh the objective
  extended_cost : (t : List ℕ) → length t ≡ primary i
      → falsified (bit (extended (formula i) t)) (soft_of i) ≡ objective_of i (truth i t) i.constraints
  unfolding soft_of
  extended_cost t l =
      let F = formula i in
      (formula_score i v t (outputs F t) l (extended-holds F t (primary i + 1) (omega arith) (formula_order i v))).costs

  part_size : (m : List ℕ) → Model i m → length (part i m) ≡ primary i
  unfolding variables
  part_size m k = length-take-le (primary i) m (omega (arith, k.size))

  part_feasible : (m : List ℕ) → Model i m → Feasible i (part i m)
  part_feasible m k =
      let a = All-take (λ b. b ≤ 1) (primary i) m (model-bytes i m k) in
      (extended_model (part i m) (part_size m k) a).0 (rw (model_extended m k) at k)

  part_cost : (m : List ℕ) → Model i m → objective i (part i m) ≡ falsified_soft i m
  part_cost m k =
      let c = extended_cost (part i m) (part_size m k) in
      ap (λ n. record { 0 = n }) (sym c ∙ ap (λ n. falsified (bit n) (soft_of i)) (sym (model_extended m k)))

  part_extended : (t : List ℕ) → length t ≡ primary i → part i (extended (formula i) t) ≡ t
  part_extended t l = take_at t (outputs (formula i) t) (primary i) l

-- demand 2
pub demand2 : Demand2
demand2 file i a l =
    let v = accepted-valid file i a in
    record {
      one_model = λ t cost k.
          let f = ((keeps-hard file i a t cost).0 k).0 in
          let m = extended (formula i) t in (
            m,
            (extended_model i v t f.size f.bytes).1 f,
            part_extended i v t f.size,
            λ n h e. model_extended i v n h ∙ ap (extended (formula i)) e,
          );
      decodes = λ m h. (decodes-models file i a l m (part i m, falsified_soft i m)).1 (h, refl);
      cost = λ m h. (keeps-hard file i a (part i m) (falsified_soft i m)).1 (part_feasible i v m h, part_cost i v m h);
      only_models = λ m t cost e. ((decodes-models file i a l m (t, cost)).0 e).0;
    }
