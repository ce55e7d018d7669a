-- What each operation answers, for every input: the refusals in the order of their places, then the result.
use Rattle.std.specs.Prelude.{Bool, true, false, cond, ◌&&◌, List, [], ◌∷◌, ◌++◌, ℕ, zero, suc, length, take, leb, eqb}
use Rattle.std.proofs.Math.Option.{Option, none, some}
use Rattle.scope.specs.Parsed.{Answer, answered, refusal, with, then, provided}
use Rattle.scope.specs.Instance.{Instance, parse}
use Rattle.scope.specs.Cnf.{Assignment, bit, clause, falsified}
use Rattle.scope.specs.Score.{slots, of_bytes, of_timetable, unless_found, infeasibility, objective}
use Rattle.scope.specs.Formula.{primary, variables, hard_of, soft_of, bounded_variables, bounded_hard, words, most_bound, most_variables}
use Rattle.scope.specs.Text.{text, decimal, space, newline}
use Rattle.scope.specs.SolverText.{model_in}
use Rattle.scope.specs.PlainRun.{Limits, plain_run}
use Rattle.scope.specs.declared.Infeasibility.{Infeasibility}
use Rattle.scope.specs.declared.Objective.{Objective}
use Rattle.scope.specs.declared.InstanceSize.{InstanceSize}
use Rattle.scope.specs.declared.FormulaSize.{FormulaSize}

-- reading: 1 to 6, 19, 22
abbrev pub instance_size : Instance → InstanceSize
instance_size i =
    record {
      times = i.times;
      events = length i.events;
      resources = i.resources;
      groups = length i.groups;
      constraints = length i.constraints;
    }

unfoldable pub read_of : List ℕ → Answer InstanceSize
read_of file = with (parse file) (λ i. answered (instance_size i))

-- scoring: 1 to 6, 10 to 12, 19, 22
unfoldable pub score_of : List ℕ → List ℕ → Answer (Infeasibility × Objective)
score_of file b = with (parse file) (λ i. of_timetable i b (answered (infeasibility i b, objective i b)))

-- "Two timetables are the same sheet if their Y bytes agree": 1 to 6, 19, 22, then 10 to 12 for the first, then for the second
unfoldable pub same_bytes : List ℕ → List ℕ → Bool
same_bytes [] [] = true
same_bytes [] (b ∷ bs) = false
same_bytes (a ∷ xs) [] = false
same_bytes (a ∷ xs) (b ∷ bs) = eqb a b && same_bytes xs bs

unfoldable pub same_sheet_of : List ℕ → List ℕ → List ℕ → Answer Bool
same_sheet_of file a b =
    with (parse file)
    (λ i. of_timetable i a (of_timetable i b (answered (same_bytes (take (slots i) a) (take (slots i) b)))))

-- the sizing place: 8; for proof checks 7, then 8 with the tail
abbrev pub of_size : {A : Type 0} → Instance → Answer A → Answer A
of_size i a = provided (leb (variables i) most_variables) 8 0 a

abbrev pub of_bound : {A : Type 0} → Instance → ℕ → Answer A → Answer A
of_bound i B a = provided (leb B most_bound) 7 B (provided (leb (bounded_variables i B) most_variables) 8 0 a)

-- what hard clauses and tail need of the stores: 1 to 8, 19, 22
abbrev pub formula_size : Instance → ℕ → FormulaSize
formula_size i B =
    record { variables = bounded_variables i B; clauses = length (bounded_hard i B); words = words (bounded_hard i B) }

unfoldable pub sizes_of : List ℕ → ℕ → Answer FormulaSize
sizes_of file B = with (parse file) (λ i. of_bound i B (answered (formula_size i B)))

-- the text: 1 to 6, 8, 19, 22; 9 where the lent output is too short
unfoldable pub text_size_of : List ℕ → Answer ℕ
text_size_of file = with (parse file) (λ i. of_size i (answered (length (text i))))

unfoldable pub text_of : List ℕ → ℕ → Answer (List ℕ)
text_of file room = with (parse file) (λ i. of_size i (provided (leb (length (text i)) room) 9 0 (answered (text i))))

-- what the text program prints for its standard input
abbrev pub printed : Answer (List ℕ) → List ℕ
printed (answered bytes) = bytes
printed (refusal k v) = decimal k ++ space ++ decimal v ++ newline

unfoldable pub program_prints : List ℕ → List ℕ
program_prints input = printed (cond (leb (length input) 65536) (text_of input 65536) (refusal 9 0))

-- the lowest id of a clause that is false, where the first of the list has the id n
unfoldable pub lowest_false : Assignment → ℕ → List (List ℕ) → Option ℕ
lowest_false ν n [] = none
lowest_false ν n (c ∷ cs) = cond (clause ν c) (lowest_false ν (suc n) cs) (some n)

-- decoding: 1 to 6, 8, 10, 11, 13, 19, 22; the part that holds Y and S, and the falsified soft weight
abbrev pub part : Instance → List ℕ → List ℕ
part i m = take (primary i) m

abbrev pub falsified_soft : Instance → List ℕ → Objective
falsified_soft i m = record { 0 = falsified (bit m) (soft_of i) }

unfoldable pub decode_of : List ℕ → List ℕ → Answer (List ℕ × Objective)
decode_of file m =
    with (parse file)
    (λ i.
    of_size i
    (of_bytes (variables i) m (unless_found 13 (lowest_false (bit m) 1 (hard_of i)) (answered (part i m, falsified_soft i m)))))

-- Reading what a solver printed, for a lent model of so many bytes, with a store of so many: 1 to 6, 8, 19 and 22, "9 is for that store
-- alone, and 10 for a lent model of any wrong length", 20, 21, 13. "The engine fills a lent model .. and decodes it": the model, and
-- what decoding gives of it
unfoldable pub solver_text_of : (file output : List ℕ) (model store : ℕ) → Answer (List ℕ × (List ℕ × Objective))
solver_text_of file output model store =
    with (parse file)
    (λ i.
    of_size i
    (provided (leb (variables i) store) 9 0
    (provided (eqb model (variables i)) 10 (variables i)
    (then (model_in (variables i) output) (λ m. then (decode_of file m) (λ d. answered (m, d)))))))

-- what a proof check is lent: words, directory rows, and bytes for the variables
pub record Lent : Type 0 where
  pub words : ℕ
  pub rows : ℕ
  pub bytes : ℕ

-- "9 if a lent store is too short for the formula": for clauses f with variables up to the last
unfoldable pub formula_fits : ℕ → List (List ℕ) → Lent → Bool
formula_fits last f l = leb (words f) l.words && leb (length f) l.rows && leb last l.bytes

abbrev pub limits_of : ℕ → Lent → Limits
limits_of last l = record { last_variable = last; words_lent = l.words; rows_lent = l.rows }

-- a proof against such clauses: 9, then the plain run's answer
abbrev pub against : ℕ → List (List ℕ) → List ℕ → Lent → Answer ℕ
against last f proof l = provided (formula_fits last f l) 9 0 (plain_run (limits_of last l) f proof)

-- checking a bound proof: 1 to 9, 14 to 19, 22
unfoldable pub check_of : List ℕ → ℕ → List ℕ → Lent → Answer ℕ
check_of file B proof l = with (parse file) (λ i. of_bound i B (against (bounded_variables i B) (bounded_hard i B) proof l))

-- the same without the tail, at any cost (no operation of document 01): 1 to 6, 8, 9, 14 to 19, 22
unfoldable pub check_hard_of : List ℕ → List ℕ → Lent → Answer ℕ
check_hard_of file proof l = with (parse file) (λ i. of_size i (against (variables i) (hard_of i) proof l))

-- whether a model is the best (no operation of document 01): decoding, then at a cost w above 0 a check at bound w − 1;
-- the cost and the number of steps
abbrev pub nothing_below : List ℕ → ℕ → List ℕ → Lent → Answer ℕ
nothing_below file zero proof l = answered 0
nothing_below file (suc B) proof l = check_of file B proof l

unfoldable pub best_of : List ℕ → List ℕ → List ℕ → Lent → Answer (Objective × ℕ)
best_of file m proof l =
    then (decode_of file m) (λ d. then (nothing_below file d.1.0 proof l) (λ steps. answered (d.1, steps)))
