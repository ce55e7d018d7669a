-- What the answers of this crate say of a file, and what an operation that starts with them answers: laws.
use Prim.Native.Nat.{ℕ, ◌≤◌}
use mathlib.Core.Path.{◌≡◌, refl, sym, ap, ◌∙◌}
use mathlib.Core.Bool.{Bool, true, false, cond}
use mathlib.Core.List.{List}
use lib.Dec.{leb}
use borrow.Author.Tests.{leb-true, le-leb}
use Rattle.scope.specs.Parsed.{Parsed, got, refused, Answer, answered, with, then, provided}
use Rattle.scope.specs.Instance.{Instance, parse}
use Rattle.scope.specs.Formula.{variables, bounded_variables, most_bound, most_variables}
use Rattle.scope.specs.Operations.{of_size, of_bound, formula_size, sizes_of}
use Rattle.scope.specs.Answers.{given, refused_by}
use Rattle.scope.specs.declared.refusal.Reason.{Reason}
use Rattle.scope.specs.declared.refusal.Refusal.{Refusal}
use Rattle.std.proofs.Common.{Result, Ok, Err}
use Rattle.scope.specs.declared.FormulaSize.{FormulaSize}
use Rattle.constraint.specs.declared.kinds.Head.{Head}
use Rattle.instance.specs.Answers.{instance_of}
use Rattle.instance.specs.Laws.{Accepted}
use Rattle.sizing.specs.declared.Size.{Size}
use Rattle.sizing.specs.Sums.{sum}
use Rattle.sizing.specs.Whole.{stored}
use Rattle.part_sizes.specs.declared.walk.Total.{Total}
use Rattle.sizes.specs.Whole.{WholeOf, Numbers}
use Rattle.sizes.proofs.laws.Whole.{whole_numbers, total_size}
use Rattle.sizes.proofs.laws.Opened.{accepted-instance}
use Rattle.sizes.specs.Measured.{sized_of, bounded_of, BoundedBy, RefusedBy, measured_as, bounded_as, too_many, judged_size, judged_total}

-- an operation goes on with that instance
test-then : {A B : Type 0} (b : Bool) (k v : ℕ) (a : Answer A) (f : A → Answer B)
    → then (provided b k v a) f ≡ provided b k v (then a f)
test-then true k v a f = refl
test-then false k v a f = refl

pub size-then : {A : Type 0} (s : List ℕ) (f : Instance → Answer A)
    → with (parse s) (λ i. of_size i (f i)) ≡ then (sized_of s) f
unfolding sized_of
size-then s f = go (parse s)
  where
    go : (p : Parsed Instance) → with p (λ i. of_size i (f i)) ≡ then (with p (λ i. of_size i (answered i))) f
    go (got i end) = sym (test-then (leb (variables i) most_variables) 8 0 (answered i) f)
    go (refused k v) = refl

pub bound-then : {A : Type 0} (s : List ℕ) (B : ℕ) (f : Instance → Answer A)
    → with (parse s) (λ i. of_bound i B (f i)) ≡ then (bounded_of s B) f
unfolding bounded_of
bound-then s B f = go (parse s)
  where
    go : (p : Parsed Instance) → with p (λ i. of_bound i B (f i)) ≡ then (with p (λ i. of_bound i B (answered i))) f
    go (got i end) =
        sym
        (test-then (leb B most_bound) 7 B (provided (leb (bounded_variables i B) most_variables) 8 0 (answered i)) f
        ∙ ap (provided (leb B most_bound) 7 B) (test-then (leb (bounded_variables i B) most_variables) 8 0 (answered i) f))
    go (refused k v) = refl

-- a file that the reader refused
module _ (s : List ℕ) {f : Refusal} (e : refused_by f ≡ parse s) where
  pub size_refused : RefusedBy (sized_of s) f
  unfolding sized_of
  size_refused = record { answer = rw (← e) }

  pub bound_refused : (B : ℕ) → RefusedBy (bounded_of s B) f
  unfolding bounded_of
  bound_refused B = record { answer = rw (← e) }

-- an accepted file
module _ {s d te tg : List ℕ} {h : Head} (a : Accepted s d te tg h) where
  -- 7 first
  pub bound_high : (B : ℕ) → leb B most_bound ≡ false → RefusedBy (bounded_of s B) (record { reason = Reason.BoundTooHigh; value = B })
  unfolding bounded_of
  bound_high B e = record { answer = rw (a.parsed, e) }

  -- then 8, without and with the tail
  module _ {B : ℕ} {t : Total} (w : WholeOf (instance_of s d te tg h) B t) where
    numbers : Numbers (instance_of s d te tg h) t.formula
    numbers = whole_numbers (instance_of s d te tg h) (accepted-instance a) w.formula w.within

    size_by : (b : Bool) → leb t.formula.variables most_variables ≡ b
        → measured_as s d te tg (cond b (Ok (h, t.formula)) (Err too_many))
    unfolding sized_of
    size_by true e =
        let few = rw numbers.variables at e in
        record {
          accepted = a;
          valid = accepted-instance a;
          answer = rw (a.parsed, few);
          few = leb-true _ _ few;
          numbers = numbers;
        }
    size_by false e = record { answer = rw (a.parsed, rw numbers.variables at e) }

    pub size_judged : {r : Result (Head × Size) Refusal} → r ≡ judged_size h t.formula → measured_as s d te tg r
    size_judged e = rw e (size_by (leb t.formula.variables most_variables) refl)

    total : stored (sum t.formula t.tail) ≡ formula_size (instance_of s d te tg h) B
    total = total_size (instance_of s d te tg h) (accepted-instance a) B w refl refl

    bound_by : B ≤ 4095 → (b : Bool) → leb (stored (sum t.formula t.tail)).variables most_variables ≡ b
        → bounded_as s B d te tg
        (cond b (Ok (h, t.formula, stored (sum t.formula t.tail))) (Err too_many))
    unfolding bounded_of
    bound_by l true e =
        let few = rw total at e in
        record {
          accepted = a;
          valid = accepted-instance a;
          bound = l;
          answer = rw (a.parsed, le-leb B most_bound l, few);
          few = leb-true _ _ few;
          numbers = numbers;
          whole = total;
        }
    bound_by l false e = record { answer = rw (a.parsed, le-leb B most_bound l, rw total at e) }

    pub bound_judged : {r : Result (Head × Size × FormulaSize) Refusal} → B ≤ 4095 → r ≡ judged_total h t → bounded_as s B d te tg r
    bound_judged l e = rw e (bound_by l (leb (stored (sum t.formula t.tail)).variables most_variables) refl)

-- what the operation of sizing answers
pub sizes-answered : {s : List ℕ} {B : ℕ} {d te tg : List ℕ} {h : Head} {z : Size} {w : FormulaSize} → BoundedBy s B d te tg h z w
    → answered w ≡ sizes_of s B
unfolding sizes_of
sizes-answered {s} {B} b = sym (bound-then s B (λ i. answered (formula_size i B)) ∙ rw (b.answer, b.whole))

pub sizes-refused : (s : List ℕ) (B : ℕ) {f : Refusal} → RefusedBy (bounded_of s B) f → given f ≡ sizes_of s B
unfolding sizes_of
sizes-refused s B b = sym (bound-then s B (λ i. answered (formula_size i B)) ∙ rw b.answer)
