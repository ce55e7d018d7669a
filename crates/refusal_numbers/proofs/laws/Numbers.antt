-- Which number each call returns: 0 if it is accepted and then alone, else that of one of the operation's refusals.
use Prim.Native.Nat.{ℕ, zero, suc}
use mathlib.Core.Path.{◌≡◌, refl}
use mathlib.Core.Bool.{true, false}
use mathlib.Core.List.{List, [], ◌∷◌}
use mathlib.Core.Option.{none}
use native.Mathlib.Omega.{arith}
use lib.Dec.{leb, eqb}
use lib.ListN.{length}
use Rattle.scope.specs.Parsed.{Answer, answered}
use Rattle.scope.specs.Cnf.{bit}
use Rattle.scope.specs.Score.{first_above}
use Rattle.scope.specs.Formula.{variables, hard_of, bounded_variables, bounded_hard, most_bound, most_variables}
use Rattle.scope.specs.Text.{text}
use Rattle.scope.specs.Operations.{read_of, score_of, same_sheet_of, sizes_of, text_size_of, text_of, decode_of, solver_text_of, lowest_false, Lent, formula_fits, limits_of, against, check_of, check_hard_of, nothing_below, best_of}
use Rattle.calls.specs.Call.{called}
use Rattle.refusal_numbers.proofs.laws.Within.{one_of, Within, accepts, refuses, Reader, on_file, given_if, given_for, Timetables, on-timetable}
use Rattle.refusal_numbers.proofs.laws.RunWithin.{Proofs, then-within, a_plain_run}
use Rattle.refusal_numbers.proofs.laws.TextWithin.{model-then}

-- an answer that is no refusal
pub record Accepted {A : Type 0} (a : Answer A) : Type 0 where
  pub result : A
  pub eq : a ≡ answered result

-- where no refusal has the number 0, a call that returns 0 was accepted
pub zero-accepted : {ns : List ℕ} {A B : Type 0} {a : Answer A} (written : A → ℕ × B) (before : B)
    → one_of ns 0 ≡ false
    → Within ns a
    → (called a written before).number ≡ 0
    → Accepted a
zero-accepted written before absent accepts z = record { result = _; eq = refl }
zero-accepted {ns} written before absent (refuses e) z =
    let e' = rw z at e in
    let contra : ◌≡◌ {A = ℕ} 0 1 = cc in
    let f : ⊥ = omega arith in
    absurd f

-- the reader's numbers, before those of later places
abbrev pub from_file : List ℕ → List ℕ
from_file later = 1 ∷ 2 ∷ 3 ∷ 4 ∷ 5 ∷ 6 ∷ 19 ∷ 22 ∷ later

of_file : (later : List ℕ) → Reader (from_file later)
of_file later = record { e1 = refl; e2 = refl; e3 = refl; e4 = refl; e5 = refl; e6 = refl; e19 = refl; e22 = refl }

-- reading: 1 to 6, 19, 22
abbrev pub read_numbers : List ℕ
read_numbers = from_file []

pub read-numbers : (file : List ℕ) → Within read_numbers (read_of file)
unfolding read_of
read-numbers file = on_file (of_file _) file (λ i. accepts)

-- scoring and the same sheet: 1 to 6, 10 to 12, 19, 22
abbrev pub sheet_numbers : List ℕ
sheet_numbers = from_file (10 ∷ 11 ∷ 12 ∷ [])

timetables : Timetables sheet_numbers
timetables = record { e10 = refl; e11 = refl; e12 = refl }

pub score-numbers : (file table : List ℕ) → Within sheet_numbers (score_of file table)
unfolding score_of
score-numbers file table = on_file (of_file _) file (λ i. on-timetable timetables i table accepts)

pub same-sheet-numbers : (file first second : List ℕ) → Within sheet_numbers (same_sheet_of file first second)
unfolding same_sheet_of
same-sheet-numbers file first second =
    on_file (of_file _) file (λ i. on-timetable timetables i first (on-timetable timetables i second accepts))

-- sizes: 1 to 8, 19, 22
pub sizes-numbers : (file : List ℕ) (B : ℕ) → Within (from_file (7 ∷ 8 ∷ [])) (sizes_of file B)
unfolding sizes_of
sizes-numbers file B =
    on_file (of_file _) file
    (λ i. given_if (leb B most_bound) 7 B refl (given_if (leb (bounded_variables i B) most_variables) 8 0 refl accepts))

-- the text's size: 1 to 6, 8, 19, 22; the text: 9 too
pub text-size-numbers : (file : List ℕ) → Within (from_file (8 ∷ [])) (text_size_of file)
unfolding text_size_of
text-size-numbers file = on_file (of_file _) file (λ i. given_if (leb (variables i) most_variables) 8 0 refl accepts)

pub text-numbers : (file : List ℕ) (room : ℕ) → Within (from_file (8 ∷ 9 ∷ [])) (text_of file room)
unfolding text_of
text-numbers file room =
    on_file (of_file _) file
    (λ i. given_if (leb (variables i) most_variables) 8 0 refl (given_if (leb (length (text i)) room) 9 0 refl accepts))

-- decoding, among others: 8, 10, 11, 13
decoding-within : {ns : List ℕ} → Reader ns → one_of ns 8 ≡ true → one_of ns 10 ≡ true → one_of ns 11 ≡ true → one_of ns 13 ≡ true
    → (file m : List ℕ) → Within ns (decode_of file m)
unfolding decode_of
decoding-within r e8 e10 e11 e13 file m =
    on_file r file
    (λ i.
    given_if (leb (variables i) most_variables) 8 0 e8
    (given_if (eqb (length m) (variables i)) 10 (variables i) e10
    (given_for 11 (first_above 0 m) e11 (given_for 13 (lowest_false (bit m) 1 (hard_of i)) e13 accepts))))

pub decode-numbers : (file m : List ℕ) → Within (from_file (8 ∷ 10 ∷ 11 ∷ 13 ∷ [])) (decode_of file m)
decode-numbers file m = decoding-within (of_file _) refl refl refl refl file m

-- what a solver printed: 1 to 6, 8 to 10, 13, 19 to 22, and never 11
abbrev pub solver_text_numbers : List ℕ
solver_text_numbers = from_file (8 ∷ 9 ∷ 10 ∷ 13 ∷ 20 ∷ 21 ∷ [])

-- a model of bytes 0 and 1 that is decoded
filled_within : (file m : List ℕ) → first_above 0 m ≡ none → Within solver_text_numbers (decode_of file m)
unfolding decode_of
filled_within file m above =
    on_file (of_file _) file
    (λ i.
    given_if (leb (variables i) most_variables) 8 0 refl
    (given_if (eqb (length m) (variables i)) 10 (variables i) refl
    (rw above (given_for 13 (lowest_false (bit m) 1 (hard_of i)) refl accepts))))

pub solver-text-numbers : (file output : List ℕ) (model store : ℕ) → Within solver_text_numbers (solver_text_of file output model store)
unfolding solver_text_of
solver-text-numbers file output model store =
    on_file (of_file _) file
    (λ i.
    given_if (leb (variables i) most_variables) 8 0 refl
    (given_if (leb (variables i) store) 9 0 refl
    (given_if (eqb model (variables i)) 10 (variables i) refl
    (model-then (variables i) output refl refl (λ m above. then-within (filled_within file m above) (λ d. accepts))))))

-- a proof against clauses, among others: 9, 14 to 18
against-within : {ns : List ℕ} → one_of ns 9 ≡ true → Proofs ns → (last : ℕ) (f : List (List ℕ)) (proof : List ℕ) (l : Lent)
    → Within ns (against last f proof l)
against-within e p last f proof l = given_if (formula_fits last f l) 9 0 e (a_plain_run p (limits_of last l) f proof)

-- and a check at a bound: 7 and 8 before it
checking-within : {ns : List ℕ} → Reader ns → one_of ns 7 ≡ true → one_of ns 8 ≡ true → one_of ns 9 ≡ true → Proofs ns
    → (file : List ℕ) (B : ℕ) (proof : List ℕ) (l : Lent) → Within ns (check_of file B proof l)
unfolding check_of
checking-within r e7 e8 e9 p file B proof l =
    on_file r file
    (λ i.
    given_if (leb B most_bound) 7 B e7
    (given_if (leb (bounded_variables i B) most_variables) 8 0 e8
    (against-within e9 p (bounded_variables i B) (bounded_hard i B) proof l)))

-- checking a bound proof: 1 to 9, 14 to 19, 22; without the tail: all but 7
abbrev pub check_numbers : List ℕ
check_numbers = from_file (7 ∷ 8 ∷ 9 ∷ 14 ∷ 15 ∷ 16 ∷ 17 ∷ 18 ∷ [])

abbrev pub check_hard_numbers : List ℕ
check_hard_numbers = from_file (8 ∷ 9 ∷ 14 ∷ 15 ∷ 16 ∷ 17 ∷ 18 ∷ [])

pub check-numbers : (file : List ℕ) (B : ℕ) (proof : List ℕ) (l : Lent) → Within check_numbers (check_of file B proof l)
check-numbers file B proof l =
    checking-within (of_file _) refl refl refl (record { e14 = refl; e15 = refl; e16 = refl; e17 = refl; e18 = refl }) file B proof l

pub check-hard-numbers : (file proof : List ℕ) (l : Lent) → Within check_hard_numbers (check_hard_of file proof l)
unfolding check_hard_of
check-hard-numbers file proof l =
    on_file (of_file _) file
    (λ i.
    given_if (leb (variables i) most_variables) 8 0 refl
    (against-within refl (record { e14 = refl; e15 = refl; e16 = refl; e17 = refl; e18 = refl }) (variables i) (hard_of i) proof l))

-- the best model: those of decoding, then those of a check
abbrev pub best_numbers : List ℕ
best_numbers = from_file (7 ∷ 8 ∷ 9 ∷ 10 ∷ 11 ∷ 13 ∷ 14 ∷ 15 ∷ 16 ∷ 17 ∷ 18 ∷ [])

below-numbers : (file : List ℕ) (w : ℕ) (proof : List ℕ) (l : Lent) → Within best_numbers (nothing_below file w proof l)
below-numbers file zero proof l = accepts
below-numbers file (suc B) proof l =
    checking-within (of_file _) refl refl refl (record { e14 = refl; e15 = refl; e16 = refl; e17 = refl; e18 = refl }) file B proof l

pub best-numbers : (file m proof : List ℕ) (l : Lent) → Within best_numbers (best_of file m proof l)
unfolding best_of
best-numbers file m proof l =
    then-within (decoding-within (of_file _) refl refl refl refl file m)
    (λ d. then-within (below-numbers file d.1.0 proof l) (λ steps. accepts))
