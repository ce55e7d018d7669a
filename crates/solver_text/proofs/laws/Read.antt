-- A solver's text after the file's sizes, in the order of its refusals.
use Prim.Native.Nat.{ℕ, ◌≤◌}
use mathlib.Core.Path.{◌≡◌, refl, sym, ap, ◌∙◌}
use mathlib.Core.Bool.{Bool, true, false}
use mathlib.Core.List.{List}
use native.Mathlib.Omega.{arith}
use lib.Dec.{leb, eqb}
use lib.ListN.{length, take, replicate, length-replicate}
use lib.Seq.{length-take-le}
use Rattle.scope.specs.Parsed.{Answer, answered, then, provided}
use Rattle.scope.specs.Instance.{Instance}
use Rattle.scope.specs.Formula.{variables}
use Rattle.scope.specs.SolverText.{model_in}
use Rattle.scope.specs.Operations.{decode_of, solver_text_of}
use Rattle.scope.specs.Answers.{decode_means}
use Rattle.scope.specs.declared.Objective.{Objective}
use Rattle.scope.specs.declared.refusal.Refusal.{Refusal}
use Rattle.std.specs.Prelude.{Ok, Err}
use Rattle.constraint.specs.declared.kinds.Head.{Head}
use Rattle.instance.specs.Answers.{instance_of}
use Rattle.sizing.specs.declared.Size.{Size}
use Rattle.sizes.specs.Measured.{sized_of, SizedBy, RefusedBy}
use Rattle.sizes.proofs.laws.Measured.{size-then}
use Rattle.evaluation.specs.Evaluated.{Evaluation, part_of, answer_of}
use Rattle.model.specs.Answers.{EvaluatedAs}
use Rattle.solver_model.specs.Filled.{Given, given_means, filled_of, FilledAs}
use Rattle.solver_text.specs.Read.{read_means, Room, handed_over, ReadAs, filled_by, left_by, ReadInto}

-- a model, and what decoding gives of it
abbrev Read : Type 0
Read = List ℕ × (List ℕ × Objective)

abbrev decoded_with : List ℕ → List ℕ → Answer Read
decoded_with file m = then (decode_of file m) (λ d. answered (m, d))

-- 9, 10, 20 and 21 of an instance, then what decoding gives
abbrev after : (file output : List ℕ) (model store : ℕ) → Instance → Answer Read
after file output model store i =
    provided (leb (variables i) store) 9 0 (provided (eqb model (variables i)) 10 (variables i) (then (model_in (variables i) output) (decoded_with file)))

after_filled : (file output : List ℕ) (model store : ℕ) (i : Instance)
    → after file output model store i ≡ then (filled_of (variables i) output model store) (decoded_with file)
after_filled file output model store i = go (leb (variables i) store) (eqb model (variables i))
  where
    go : (b c : Bool)
        → provided b 9 0 (provided c 10 (variables i) (then (model_in (variables i) output) (decoded_with file)))
        ≡ then (provided b 9 0 (provided c 10 (variables i) (model_in (variables i) output))) (decoded_with file)
    go true true = refl
    go true false = refl
    go false c = refl

-- a file that is refused
pub read-refused : {file : List ℕ} (output : List ℕ) (model : ℕ) (store : List ℕ) {f : Refusal} → RefusedBy (sized_of file) f
    → ReadAs file output model store store (Err f)
unfolding solver_text_of
read-refused {file} output model store r =
    record { answer = sym (size-then file (after file output model (length store)) ∙ rw r.answer); inside = omega arith; room = tt }

-- an evaluated model
evaluated-read : (file m : List ℕ) (e : Evaluation) → decode_means (part_of e m) (answer_of e) ≡ decode_of file m → read_means e m ≡ decoded_with file m
evaluated-read file m (Ok d) h = rw (← h)
evaluated-read file m (Err f) h = rw (← h)

room_of : (e : Evaluation) {model store : ℕ} → model ≤ store → Room e model store
room_of (Ok d) h = h
room_of (Err f) h = tt

-- a model that was filled stands at the front of the store
pub front_fits : {n : ℕ} {output : List ℕ} {model : ℕ} {store store' : List ℕ} → FilledAs n output model store store' (Ok tt) → length store' ≡ length store
    → model ≤ length store'
front_fits g k = omega (arith, g.wanted refl, g.room refl)

-- a file that is sized, and what is filled into the store
module _ {file d te tg : List ℕ} {h : Head} {z : Size} (b : SizedBy file d te tg h z) where
  abbrev i : Instance
  i = instance_of file d te tg h

  filled_then : {output : List ℕ} {model : ℕ} {store store' : List ℕ} {g : Given} → FilledAs z.variables output model store store' g
      → solver_text_of file output model (length store) ≡ then (given_means g (take model store')) (decoded_with file)
  unfolding solver_text_of
  filled_then {output} {model} {store} {store'} {g} f =
      size-then file (after file output model (length store))
      ∙ rw b.answer (after_filled file output model (length store) i)
      ∙ ap (λ (a : Answer (List ℕ)). then a (decoded_with file)) (sym (rw b.numbers.variables at f.answer))

  pub read_given : {output : List ℕ} {model : ℕ} {store store' : List ℕ} {f : Refusal} → FilledAs z.variables output model store store' (Err f)
      → ReadAs file output model store store' (Err f)
  read_given g = record { answer = sym (filled_then g); inside = omega arith; room = tt }

  pub read_evaluated : {output : List ℕ} {model : ℕ} {store store' : List ℕ} → FilledAs z.variables output model store store' (Ok tt) → length store' ≡ length store
      → {e : Evaluation} → EvaluatedAs file (take model store') e → ReadAs file output model store store' e
  read_evaluated {output} {model} {store} {store'} g k {e} v =
      let l = front_fits g k in
      record {
        answer = evaluated-read file (take model store') e v.answer ∙ sym (filled_then g);
        inside = omega (arith, v.inside, length-take-le model store' l);
        room = room_of e l;
      }

-- a cleared store is one of zeros
pub zeros-again : (st : List ℕ) (n : ℕ) → st ≡ replicate n 0 → st ≡ replicate (length st) 0
zeros-again st n e = e ∙ ap (λ (k : ℕ). replicate k 0) (sym (ap length e ∙ length-replicate n 0))

-- what the caller has afterwards
module _ (file output model store : List ℕ) where
  abbrev told : Answer Read
  told = solver_text_of file output (length model) (length store)

  by_answer : (e : Evaluation) {model' store'' : List ℕ} → read_means e model' ≡ told → model' ≡ filled_by told model → store'' ≡ replicate (length store) 0
      → ◌≡◌ {A = Answer Read × List ℕ × List ℕ} (read_means e model', model', store'') (left_by file output model store)
  by_answer e a m s = rw (a, s, ← m)

  pub read_into : (e : Evaluation) {zeros store' model' store'' : List ℕ} → length zeros ≡ length store → ReadAs file output (length model) zeros store' e
      → model' ≡ handed_over e store' model → length store' ≡ length zeros → store'' ≡ replicate (length store') 0
      → ReadInto file output model store model' store'' e
  read_into (Ok d) {zeros} {store'} {model'} {store''} z r h k s =
      let a : read_means (Ok d) model' ≡ told = rw (h, ← z) r.answer in
      record {
        leaves = by_answer (Ok d) a (ap (λ (x : Answer Read). filled_by x model) a) (rw (k, z) at s);
        inside = omega (arith, ap length h, length-take-le (length model) store' r.room, r.inside);
      }
  read_into (Err f) {zeros} {store'} {model'} {store''} z r h k s =
      let a : read_means (Err f) model' ≡ told = rw (← z) r.answer in
      record { leaves = by_answer (Err f) a (h ∙ ap (λ (x : Answer Read). filled_by x model) a) (rw (k, z) at s); inside = omega arith }
