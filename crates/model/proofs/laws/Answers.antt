-- What the answers of this crate say of a file and a model: laws.
use Prim.Native.Nat.{ℕ, ◌*◌, ◌≤◌}
use mathlib.Core.Path.{◌≡◌, refl, sym, ◌∙◌}
use mathlib.Core.Bool.{Bool, true, false, cond}
use mathlib.Core.List.{List}
use native.Mathlib.Omega.{arith}
use lib.Dec.{eqb}
use lib.ListN.{length}
use borrow.Author.Tests.{eq-eqb, ne_eqb, eqb-true, eqb-false}
use Rattle.scope.specs.Parsed.{Answer, answered}
use Rattle.scope.specs.Instance.{Instance}
use Rattle.scope.specs.Cnf.{bit}
use Rattle.scope.specs.Score.{first_above, unless_found, of_bytes}
use Rattle.scope.specs.Formula.{primary, variables, hard_of}
use Rattle.scope.specs.Operations.{lowest_false, part, falsified_soft, decode_of}
use Rattle.std.specs.Prelude.{Some, None, Ok, Err}
use Rattle.std.specs.Prelude as prelude
use Rattle.scope.specs.declared.refusal.Refusal.{Refusal}
use Rattle.scope.specs.declared.refusal.Reason.{Reason}
use Rattle.timetable.specs.Answers.{found_at}
use Rattle.tables.proofs.laws.Laws.{length-events}
use Rattle.constraint.specs.declared.kinds.Head.{Head}
use Rattle.instance.specs.Answers.{instance_of}
use Rattle.sizing.specs.declared.Size.{Size}
use Rattle.sizes.specs.Measured.{sized_of, SizedBy, RefusedBy}
use Rattle.sizes.proofs.laws.Measured.{size-then}
use Rattle.sink.specs.declared.Sink.{Sink}
use Rattle.evaluation.specs.Evaluated.{Evaluation, judged_of}
use Rattle.model.specs.Truth.{TruthOf}
use Rattle.model.proofs.laws.Truth.{clause_false, clauses_true}
use Rattle.model.specs.Answers.{Decoded, Form, form_then, FormOf, EvaluatedAs}

module _ (n : ℕ) (m : List ℕ) where
  -- the length first
  pub form_short : (length m ≡ n → ⊥) → FormOf n m (Err (record { reason = Reason.WrongLength; value = n }))
  form_short h = record { says = λ a. rw (ne_eqb (length m) n h); long = λ e. let z : ◌≡◌ {A = ℕ} 0 1 = cc in omega arith }

  -- then the bytes
  module _ (h : length m ≡ n) {f : prelude.Option ℕ} (e : found_at f ≡ first_above 0 m) where
    pub form_above : {v : ℕ} → f ≡ Some v → FormOf n m (Err (record { reason = Reason.AboveOne; value = v }))
    form_above t = record { says = λ a. rw (eq-eqb (length m) n h, ← e, t); long = λ _. h }

    pub form_right : f ≡ None → FormOf n m (Ok tt)
    form_right t = record { says = λ a. rw (eq-eqb (length m) n h, ← e, t); long = λ _. h }

-- what is asked of a model once the file is sized
abbrev of_model : List ℕ → Instance → Answer Decoded
of_model m i = of_bytes (variables i) m (unless_found 13 (lowest_false (bit m) 1 (hard_of i)) (answered (part i m, falsified_soft i m)))

-- a file that is refused
pub evaluation-refused : {s : List ℕ} (m : List ℕ) {f : Refusal} → RefusedBy (sized_of s) f → EvaluatedAs s m (Err f)
unfolding decode_of
evaluation-refused {s} m r = record { answer = sym (size-then s (of_model m) ∙ rw r.answer); inside = omega arith }

-- a file that is sized
module _ {s d te tg : List ℕ} {h : Head} {z : Size} (b : SizedBy s d te tg h z) {m : List ℕ} {f : Form} (o : FormOf z.variables m f) where
  abbrev i : Instance
  i = instance_of s d te tg h

  -- 10 and 11, then 13
  after_form : form_then f (unless_found 13 (lowest_false (bit m) 1 (hard_of i)) (answered (part i m, falsified_soft i m))) ≡ decode_of s m
  unfolding decode_of
  after_form =
      (rw b.numbers.variables at (o.says (unless_found 13 (lowest_false (bit m) 1 (hard_of i)) (answered (part i m, falsified_soft i m)))))
      ∙ sym (size-then s (of_model m) ∙ rw b.answer)

  pub evaluation_form : {g : Refusal} → f ≡ Err g → EvaluatedAs s m (Err g)
  evaluation_form t = record { answer = rw t at after_form; inside = omega arith }

  -- the part is the first 2 × E × T bytes
  module _ (t : f ≡ Ok tt) {k : Sink} (j : TruthOf i m k) where
    part_long : 2 * (h.events * h.times) ≡ primary i
    part_long = rw (length-events d te h.events)

    part_inside : 2 * (h.events * h.times) ≤ length m
    unfolding variables
    part_inside = omega (arith, part_long, o.long t, b.numbers.variables)

    judged-by : (x : Bool) → eqb k.bad 0 ≡ x
        → EvaluatedAs s m
        (cond x (Ok (2 * (h.events * h.times), record { 0 = k.lost })) (Err (record { reason = Reason.ClauseFalse; value = k.bad })))
    judged-by true e =
        record {
          answer = rw (part_long, j.lost) (clauses_true (answered (part i m, falsified_soft i m)) j (eqb-true k.bad 0 e)) ∙ (rw t at after_form);
          inside = part_inside;
        }
    judged-by false e =
        record {
          answer = clause_false (answered (part i m, falsified_soft i m)) j (eqb-false k.bad 0 e) ∙ (rw t at after_form);
          inside = omega arith;
        }

    pub evaluation_judged : {n : ℕ} {e : Evaluation} → n ≡ 2 * (h.events * h.times) → e ≡ judged_of k.bad k.lost n → EvaluatedAs s m e
    evaluation_judged l q = rw (q, l) (judged-by (eqb k.bad 0) refl)
