-- The examples of document 01 that are marked P, file A's listing, its limits, those of kinds 3, 9, 10 and 11, of idle times in one walk
-- and of solvers' texts, as one table under one theorem. A case is what the definitions compute and what the paper says, both as numbers.
use Rattle.std.specs.Prelude.{◌≡◌, refl, Bool, true, false, cond, ◌||◌, ℕ, ◌+◌, ◌/◌, ◌%◌, length, take, replicate, eqb, ltb}
use mathlib.Core.List.{List, [], ◌∷◌, ◌++◌, map, flat_map}
use Rattle.scope.specs.Parsed.{Parsed, got, refused, Answer, answered, refusal, repeat}
use Rattle.scope.specs.Number.{group, front, within, number, limited, reference, references, listed}
use Rattle.scope.specs.Kinds.{Atom, Y, S, X, Rule, rule, Listed, atom, entries_nodes, entries_members, entries, spread, limit, up_to, uses_at, from, member, users_from, outside, group_at, gaps_after, gaps, reached, reaches_nodes, reaches_members, from_outside, going_on, span, time_by_time, of_length, of_length_outside, or_more, or_chain, down, begun, too_soon, lasting, too_late, either_way, gap_outside, counted_of, rules_of, longest}
use Rattle.scope.specs.Instance.{event_at, fields_read, fields_table, ended, constraint_at, times_at, sizes_at, groups_at, all_groups_at, constraints_at, file_up_to, parse}
use Rattle.scope.specs.Calendar.{Period, limited_in, period_at, periods_at, day_at, period_count, calendar_at, shown, window_of, window_at, windows_at}
use Rattle.scope.specs.SpelledOut.{spelt as spelt_bytes, spelled_out}
use Rattle.scope.specs.Cnf.{pos, Item, gate, bit, lit, clause, clauses, has_true, without_false, tidy, pairs, gate_clauses, hard_clauses, soft_units, falsified}
use Rattle.scope.specs.Score.{layout_at, var_at, trues, any, all, deviation, charged, values_after, count, deviations, truth, event_right, first_wrong, infeasibility_of, objective_of, first_above}
use Rattle.scope.specs.Subevents.{before, subevents, held_from, times_held, lengths_from}
use Rattle.scope.specs.Idle.{idle_times, kept_after, numbers_of, idle_step_of}
use Rattle.scope.specs.Gap.{taken_among, first_time, last_time, gap_within}
use Rattle.scope.specs.Formula.{ref_literal, node_gate, no_row, ones, row, counter, last_row, low_units, high_units, short_units, bound_items, count_into, rule_items, rules_items, starts, uses, duration_rules, constraint_rules, formula, variables, hard_of, soft_of, tail, bounded, bounded_variables, bounded_hard, words}
use Rattle.scope.specs.Text.{digits, literal_text, line, sum_weights, top, header_line, text}
use Rattle.scope.specs.SolverText.{until, lines_after, words_after, tokens, numeral, word_of, gathered, times_given, not_once, model_in, literals_from, model_text}
use Rattle.scope.specs.Steps.{numbers, step_at, literals_ok, well_formed, hints_show, deleted}
use Rattle.scope.specs.PlainRun.{perform, run, start, plain_run}
use Rattle.scope.specs.Operations.{Lent, read_of, score_of, same_bytes, same_sheet_of, sizes_of, text_size_of, text_of, program_prints, lowest_false, decode_of, solver_text_of, formula_fits, check_of, check_hard_of, best_of}
use Rattle.scope.specs.declared.Infeasibility.{Infeasibility}
use Rattle.scope.specs.declared.Objective.{Objective}
use Rattle.scope.specs.declared.InstanceSize.{InstanceSize}

-- file A: one time, one event, an empty group, kind 3 at weight 4
file_a : List ℕ
file_a = 0x01 ∷ 0x01 ∷ 0x00 ∷ 0x01 ∷ 0x00 ∷ 0x01 ∷ 0x00 ∷ 0x01 ∷ 0x03 ∷ 0x04 ∷ 0x01 ∷ 0x01 ∷ []

-- the same with its constraint hard, which no timetable keeps; and without it, where every timetable costs 0
file_hard_a : List ℕ
file_hard_a = 0x01 ∷ 0x01 ∷ 0x00 ∷ 0x01 ∷ 0x00 ∷ 0x01 ∷ 0x00 ∷ 0x01 ∷ 0x03 ∷ 0x00 ∷ 0x01 ∷ 0x01 ∷ []

file_free : List ℕ
file_free = 0x01 ∷ 0x01 ∷ 0x00 ∷ 0x01 ∷ 0x00 ∷ 0x00 ∷ 0x00 ∷ []

-- the proof of its example, whose added clause has the given id
proof_a : ℕ → List ℕ
proof_a id = 0x61 ∷ id ∷ 0x00 ∷ 0x05 ∷ 0x04 ∷ 0x02 ∷ 0x06 ∷ 0x0E ∷ 0x10 ∷ 0x00 ∷ []

-- what the text program prints for A, line by line
listing_a : List ℕ
listing_a =
    112 ∷ 32 ∷ 119 ∷ 99 ∷ 110 ∷ 102 ∷ 32 ∷ 52 ∷ 32 ∷ 56 ∷ 32 ∷ 53 ∷ 10
    ∷ 53 ∷ 32 ∷ 49 ∷ 32 ∷ 45 ∷ 50 ∷ 32 ∷ 48 ∷ 10
    ∷ 53 ∷ 32 ∷ 45 ∷ 49 ∷ 32 ∷ 50 ∷ 32 ∷ 48 ∷ 10
    ∷ 53 ∷ 32 ∷ 45 ∷ 49 ∷ 32 ∷ 51 ∷ 32 ∷ 48 ∷ 10
    ∷ 53 ∷ 32 ∷ 49 ∷ 32 ∷ 45 ∷ 51 ∷ 32 ∷ 48 ∷ 10
    ∷ 53 ∷ 32 ∷ 51 ∷ 32 ∷ 48 ∷ 10
    ∷ 53 ∷ 32 ∷ 45 ∷ 50 ∷ 32 ∷ 52 ∷ 32 ∷ 48 ∷ 10
    ∷ 53 ∷ 32 ∷ 50 ∷ 32 ∷ 45 ∷ 52 ∷ 32 ∷ 48 ∷ 10
    ∷ 52 ∷ 32 ∷ 45 ∷ 52 ∷ 32 ∷ 48 ∷ 10 ∷ []

-- answers as numbers: 0 and the values, or a refusal's number and value
number_said : Parsed ℕ → List ℕ
number_said (got v next) = 0 ∷ v ∷ next ∷ []
number_said (refused k v) = k ∷ v ∷ []

steps_said : Answer ℕ → List ℕ
steps_said (answered n) = 0 ∷ n ∷ []
steps_said (refusal k v) = k ∷ v ∷ []

score_said : Answer (Infeasibility × Objective) → List ℕ
score_said (answered s) = 0 ∷ s.0.0 ∷ s.1.0 ∷ []
score_said (refusal k v) = k ∷ v ∷ []

decode_said : Answer (List ℕ × Objective) → List ℕ
decode_said (answered d) = 0 ∷ d.1.0 ∷ d.0
decode_said (refusal k v) = k ∷ v ∷ []

-- the model, the length of the part, the cost
solver_said : Answer (List ℕ × (List ℕ × Objective)) → List ℕ
solver_said (answered d) = 0 ∷ (d.0 ++ length d.1.0 ∷ d.1.1.0 ∷ [])
solver_said (refusal k v) = k ∷ v ∷ []

best_said : Answer (Objective × ℕ) → List ℕ
best_said (answered b) = 0 ∷ b.0.0 ∷ b.1 ∷ []
best_said (refusal k v) = k ∷ v ∷ []

size_said : Answer InstanceSize → List ℕ
size_said (answered z) = 0 ∷ z.times ∷ z.events ∷ z.resources ∷ z.groups ∷ z.constraints ∷ []
size_said (refusal k v) = k ∷ v ∷ []

ample : Lent
ample = record { words = 10000; rows = 10000; bytes = 10000 }

check_a : ℕ → List ℕ → List ℕ
check_a B proof = steps_said (check_of file_a B proof ample)

-- A's proof at bound 3 in stores of these sizes
room_a : ℕ → ℕ → ℕ → List ℕ
room_a w r b = steps_said (check_of file_a 3 (proof_a 0x11) (record { words = w; rows = r; bytes = b }))

-- whether a model of A is the best
best_a : List ℕ → List ℕ → List ℕ
best_a m proof = best_said (best_of file_a m proof ample)

-- what a solver printed for A, which has 4 variables, with a lent model and a store of these lengths; of 4 each
lent_a : (model store : ℕ) → List ℕ → List ℕ
lent_a model store output = solver_said (solver_text_of file_a output model store)

solver_a : List ℕ → List ℕ
solver_a output = lent_a 4 4 output

-- "v 1 2", " 3 4" and " 0"
v_one_two : List ℕ
v_one_two = 118 ∷ 32 ∷ 49 ∷ 32 ∷ 50 ∷ []

three_four : List ℕ
three_four = 32 ∷ 51 ∷ 32 ∷ 52 ∷ []

then_zero : List ℕ
then_zero = 32 ∷ 48 ∷ []

-- every resource is busy at two times
busy_times : ℕ → ℕ → Atom → Bool
busy_times t u (Y e v) = false
busy_times t u (S e v) = false
busy_times t u (X r v) = eqb v t || eqb v u

-- every event starts at time 1
start_at1 : Atom → Bool
start_at1 (Y e t) = false
start_at1 (S e t) = eqb t 1
start_at1 (X r t) = false

-- a counter over three literals, variables 1 to 3, and whether its clauses hold in a model
counter3 : List Item
counter3 = map gate (counter no_row (ones (2 ∷ 4 ∷ 6 ∷ [])) 3 4)

holds3 : List ℕ → List ℕ
holds3 m = cond (clauses (bit m) (hard_clauses 4 counter3)) 1 0 ∷ []

-- a file with T times and nothing else but an event
times_file : ℕ → List ℕ
times_file T = T ∷ 0x01 ∷ 0x00 ∷ 0x01 ∷ 0x00 ∷ 0x00 ∷ 0x00 ∷ []

-- a number in groups of seven bits, below 2^14
spelt : ℕ → List ℕ
spelt n = cond (ltb n 128) (n ∷ []) ((n % 128 + 128) ∷ n / 128 ∷ [])

-- a file with n empty groups and a cluster over all of them: a counted list of n members
list_file : ℕ → List ℕ
list_file n =
    0x01 ∷ 0x01 ∷ 0x01 ∷ 0x01 ∷ 0x00
    ∷ (spelt n ++ replicate n 0 ++ 0x01 ∷ 0x07 ∷ 0x00 ∷ 0x01 ∷ (spelt n ++ flat_map spelt (from 1 n) ++ 0x00 ∷ 0x00 ∷ []))

-- kind 6, 3 to 5, over six members
six : Rule
six = rule (limit 3 5 []) (entries (map atom (uses_at 1 (up_to 6))))

idle_six : Listed
idle_six = entries (gaps (uses_at 1 (up_to 6)))

-- a file of one event that takes d of T times, with n constraints
length_file : (T d n : ℕ) → List ℕ → List ℕ
length_file T d n cs = T ∷ 0x01 ∷ 0x00 ∷ d ∷ 0x00 ∷ 0x00 ∷ n ∷ cs

-- "two doubles and a single" in six times: two subevents of length 2, one of length 1, none outside 1 to 2
doubles : List ℕ
doubles =
    length_file 6 5 3
    (0x09 ∷ 0x00 ∷ 0x01 ∷ 0x02 ∷ 0x02 ∷ 0x02 ∷ 0x09 ∷ 0x00 ∷ 0x01 ∷ 0x01 ∷ 0x01 ∷ 0x01 ∷ 0x0A ∷ 0x00 ∷ 0x01 ∷ 0x01 ∷ 0x02 ∷ [])

-- one constraint of kind 9 at weight 1, of kind 9 hard, of kind 10 hard
soft_nine : (T d n lo hi : ℕ) → List ℕ
soft_nine T d n lo hi = length_file T d 1 (0x09 ∷ 0x01 ∷ 0x01 ∷ n ∷ lo ∷ hi ∷ [])

read_nine : (n lo hi : ℕ) → List ℕ
read_nine n lo hi = size_said (read_of (length_file 2 1 1 (0x09 ∷ 0x00 ∷ 0x01 ∷ n ∷ lo ∷ hi ∷ [])))

read_ten : (a b : ℕ) → List ℕ
read_ten a b = size_said (read_of (length_file 2 1 1 (0x0A ∷ 0x00 ∷ 0x01 ∷ a ∷ b ∷ [])))

-- the clauses of a list's nodes from the variable v on, one event in T times, each clause ended by a 0
node_listing : (T v : ℕ) → Listed → List ℕ
node_listing T v l =
    flat_map (λ c. c ++ 0 ∷ []) (hard_clauses v (map gate (map (node_gate (λ a. pos (var_at T (layout_at T 1 0) a)) v) l.nodes)))

nine_listing : List ℕ
nine_listing =
    4 ∷ 33 ∷ 0 ∷ 11 ∷ 33 ∷ 0 ∷ 5 ∷ 10 ∷ 32 ∷ 0 ∷ 6 ∷ 35 ∷ 0 ∷ 13 ∷ 35 ∷ 0 ∷ 7 ∷ 12 ∷ 34 ∷ 0 ∷ 37 ∷ 0 ∷ 8 ∷ 39 ∷ 0
    ∷ 32 ∷ 39 ∷ 0 ∷ 35 ∷ 39 ∷ 0 ∷ 9 ∷ 33 ∷ 34 ∷ 38 ∷ 0 ∷ 10 ∷ 41 ∷ 0 ∷ 34 ∷ 41 ∷ 0 ∷ 37 ∷ 41 ∷ 0
    ∷ 11 ∷ 35 ∷ 36 ∷ 40 ∷ 0 ∷ 12 ∷ 43 ∷ 0 ∷ 36 ∷ 43 ∷ 0 ∷ 13 ∷ 37 ∷ 42 ∷ 0 ∷ []

ten_listing : List ℕ
ten_listing =
    4 ∷ 21 ∷ 0 ∷ 9 ∷ 21 ∷ 0 ∷ 5 ∷ 8 ∷ 20 ∷ 0 ∷ 23 ∷ 0 ∷ 22 ∷ 25 ∷ 0 ∷ 23 ∷ 24 ∷ 0 ∷ 20 ∷ 26 ∷ 0 ∷ 25 ∷ 26 ∷ 0
    ∷ 21 ∷ 24 ∷ 27 ∷ 0 ∷ 6 ∷ 29 ∷ 0 ∷ 26 ∷ 29 ∷ 0 ∷ 7 ∷ 27 ∷ 28 ∷ 0 ∷ 30 ∷ 0 ∷ 22 ∷ 32 ∷ 0 ∷ 31 ∷ 32 ∷ 0
    ∷ 23 ∷ 30 ∷ 33 ∷ 0 ∷ 8 ∷ 35 ∷ 0 ∷ 32 ∷ 35 ∷ 0 ∷ 9 ∷ 33 ∷ 34 ∷ 0 ∷ []

-- one event that takes d of T times, and kind 3 at weight 1 with the group of one time
preferred_file : (T d t : ℕ) → List ℕ
preferred_file T d t = T ∷ 0x01 ∷ 0x00 ∷ d ∷ 0x00 ∷ 0x01 ∷ 0x01 ∷ t ∷ 0x01 ∷ 0x03 ∷ 0x01 ∷ 0x01 ∷ 0x01 ∷ []

-- the literals of a list's members, its first node the variable v
members_of : (T v : ℕ) → Listed → List ℕ
members_of T v l = map (ref_literal (λ a. pos (var_at T (layout_at T 1 0) a)) v) l.members

chain_listing : List ℕ
chain_listing = 4 ∷ 33 ∷ 0 ∷ 11 ∷ 33 ∷ 0 ∷ 5 ∷ 10 ∷ 32 ∷ 0 ∷ 8 ∷ 35 ∷ 0 ∷ 32 ∷ 35 ∷ 0 ∷ 9 ∷ 33 ∷ 34 ∷ 0 ∷ []

both_listing : List ℕ
both_listing =
    6 ∷ 33 ∷ 0 ∷ 13 ∷ 33 ∷ 0 ∷ 7 ∷ 12 ∷ 32 ∷ 0 ∷ 10 ∷ 35 ∷ 0 ∷ 32 ∷ 35 ∷ 0 ∷ 11 ∷ 33 ∷ 34 ∷ 0 ∷ 13 ∷ 36 ∷ 0 ∷ 35 ∷ 36 ∷ 0
    ∷ 12 ∷ 34 ∷ 37 ∷ 0 ∷ []

-- an event that takes all times of some, and starts at times 1, 3 and 4
three_starts : Atom → Bool
three_starts (Y e t) = ltb 0 t
three_starts (S e t) = eqb t 1 || eqb t 3 || eqb t 4
three_starts (X r t) = false

-- a row of six members, with X at the second and the fifth, and the three numbers
drawn : List Bool
drawn = false ∷ true ∷ false ∷ false ∷ true ∷ false ∷ []

kept_said : ℕ × ℕ × ℕ → List ℕ
kept_said n = n.0 ∷ n.1 ∷ n.2 ∷ []

-- two events that take d and c of T times, and kind 11 of event a before event b
gap_file : (T d c w a b lo hi : ℕ) → List ℕ
gap_file T d c w a b lo hi = T ∷ 0x02 ∷ 0x00 ∷ d ∷ 0x00 ∷ c ∷ 0x00 ∷ 0x00 ∷ 0x01 ∷ 0x0B ∷ w ∷ a ∷ b ∷ lo ∷ hi ∷ []

read_eleven : (a b lo hi : ℕ) → List ℕ
read_eleven a b lo hi = size_said (read_of (gap_file 1 1 1 0 a b lo hi))

-- the score of event 1 before event 2 at weight 1, where each time that is taken is a start
gap_score : (T d c lo hi : ℕ) → List ℕ → List ℕ
gap_score T d c lo hi taken = score_said (score_of (gap_file T d c 1 1 2 lo hi) (taken ++ taken))

-- event 1 takes the times 1 and 3, event 2 those after 4
spaced : Atom → Bool
spaced (Y e t) = cond (eqb e 1) (eqb t 1 || eqb t 3) (ltb 4 t)
spaced (S e t) = false
spaced (X r t) = false

gap_listing : List ℕ
gap_listing =
    11 ∷ 66 ∷ 0 ∷ 10 ∷ 67 ∷ 0 ∷ 13 ∷ 68 ∷ 0 ∷ 67 ∷ 68 ∷ 0 ∷ 12 ∷ 66 ∷ 69 ∷ 0 ∷ 15 ∷ 70 ∷ 0 ∷ 69 ∷ 70 ∷ 0 ∷ 14 ∷ 68 ∷ 71 ∷ 0
    ∷ 4 ∷ 73 ∷ 0 ∷ 68 ∷ 73 ∷ 0 ∷ 5 ∷ 69 ∷ 72 ∷ 0 ∷ 6 ∷ 75 ∷ 0 ∷ 70 ∷ 75 ∷ 0 ∷ 7 ∷ 71 ∷ 74 ∷ 0
    ∷ 7 ∷ 76 ∷ 0 ∷ 9 ∷ 76 ∷ 0 ∷ 6 ∷ 8 ∷ 77 ∷ 0 ∷ 5 ∷ 78 ∷ 0 ∷ 77 ∷ 78 ∷ 0 ∷ 4 ∷ 76 ∷ 79 ∷ 0
    ∷ 69 ∷ 81 ∷ 0 ∷ 79 ∷ 81 ∷ 0 ∷ 68 ∷ 78 ∷ 80 ∷ 0 ∷ 71 ∷ 83 ∷ 0 ∷ 77 ∷ 83 ∷ 0 ∷ 70 ∷ 76 ∷ 82 ∷ 0
    ∷ 9 ∷ 84 ∷ 0 ∷ 67 ∷ 84 ∷ 0 ∷ 73 ∷ 84 ∷ 0 ∷ 75 ∷ 84 ∷ 0 ∷ 81 ∷ 84 ∷ 0 ∷ 83 ∷ 84 ∷ 0 ∷ 8 ∷ 66 ∷ 72 ∷ 74 ∷ 80 ∷ 82 ∷ 85 ∷ 0 ∷ []

pub record Case : Type 0 where
  pub computed : List ℕ
  pub expected : List ℕ

abbrev shows : List ℕ → List ℕ → Case
shows c e = record { computed = c; expected = e }

pub cases : List Case
cases =
    -- A's text
    shows (program_prints file_a) listing_a
    -- 80 01 is 128; 80 00 gives 1
    ∷ shows (number_said (number (0x80 ∷ 0x01 ∷ []) 0)) (0 ∷ 128 ∷ 2 ∷ [])
    ∷ shows (number_said (number (0x80 ∷ 0x00 ∷ []) 0)) (1 ∷ 0 ∷ [])
    -- the largest number, and one too large
    ∷ shows (number_said (number (0xFF ∷ 0xFF ∷ 0xFF ∷ 0xFF ∷ 0x0F ∷ []) 0)) (0 ∷ 4294967295 ∷ 5 ∷ [])
    ∷ shows (number_said (number (0x80 ∷ 0x80 ∷ 0x80 ∷ 0x80 ∷ 0x10 ∷ []) 0)) (1 ∷ 0 ∷ [])
    -- timetable 01 01 on A scores infeasibility 0, objective 4; 00 00 gives 12, event 1
    ∷ shows (score_said (score_of file_a (1 ∷ 1 ∷ []))) (0 ∷ 0 ∷ 4 ∷ [])
    ∷ shows (score_said (score_of file_a (0 ∷ 0 ∷ []))) (12 ∷ 1 ∷ [])
    ∷ shows (score_said (score_of file_a (1 ∷ 0 ∷ []))) (12 ∷ 1 ∷ [])
    -- A's one model decodes to 01 01 at cost 4; with the soft unit's variable false clause 6 is; one byte too few; a byte above 1
    ∷ shows (decode_said (decode_of file_a (1 ∷ 1 ∷ 1 ∷ 1 ∷ []))) (0 ∷ 4 ∷ 1 ∷ 1 ∷ [])
    ∷ shows (decode_said (decode_of file_a (1 ∷ 1 ∷ 1 ∷ 0 ∷ []))) (13 ∷ 6 ∷ [])
    ∷ shows (decode_said (decode_of file_a (1 ∷ 1 ∷ 1 ∷ []))) (10 ∷ 4 ∷ [])
    ∷ shows (decode_said (decode_of file_a (1 ∷ 1 ∷ 2 ∷ 1 ∷ []))) (11 ∷ 2 ∷ [])
    -- A's proof at bound 3: no timetable, 1 step; at bound 4: 14, step 1; there with id 13 (hexadecimal): 16, step 1; none: 18
    ∷ shows (check_a 3 (proof_a 0x11)) (0 ∷ 1 ∷ [])
    ∷ shows (check_a 4 (proof_a 0x11)) (14 ∷ 1 ∷ [])
    ∷ shows (check_a 4 (proof_a 0x13)) (16 ∷ 1 ∷ [])
    ∷ shows (check_a 3 []) (18 ∷ 0 ∷ [])
    -- a hint that is already true breaks the rule
    ∷ shows (check_a 3 (0x61 ∷ 0x11 ∷ 0x00 ∷ 0x05 ∷ 0x05 ∷ 0x04 ∷ 0x02 ∷ 0x06 ∷ 0x0E ∷ 0x10 ∷ 0x00 ∷ [])) (16 ∷ 1 ∷ [])
    -- so does one with two open literals: clause 6 before clause 2
    ∷ shows (check_a 3 (0x61 ∷ 0x11 ∷ 0x00 ∷ 0x05 ∷ 0x04 ∷ 0x06 ∷ 0x0E ∷ 0x10 ∷ 0x00 ∷ [])) (16 ∷ 1 ∷ [])
    -- a deleted clause is not used
    ∷ shows (check_a 3 (0x64 ∷ 0x05 ∷ 0x00 ∷ proof_a 0x11)) (15 ∷ 2 ∷ [])
    -- the tail's last variable may stand in an added clause, the next one not
    ∷ shows (check_a 3 (0x61 ∷ 0x11 ∷ 0x06 ∷ 0x10 ∷ 0x00 ∷ 0x05 ∷ 0x00 ∷ [])) (18 ∷ 1 ∷ [])
    ∷ shows (check_a 3 (0x61 ∷ 0x11 ∷ 0x06 ∷ 0x12 ∷ 0x00 ∷ 0x05 ∷ 0x00 ∷ [])) (14 ∷ 1 ∷ [])
    -- bytes after the empty clause; a step d without ids; the formula just fits, then one word, row or byte too few
    ∷ shows (check_a 3 (proof_a 0x11 ++ 0x00 ∷ [])) (18 ∷ 1 ∷ [])
    ∷ shows (check_a 3 (0x64 ∷ 0x00 ∷ [])) (18 ∷ 1 ∷ [])
    ∷ shows (room_a 30 16 8) (0 ∷ 1 ∷ [])
    ∷ shows (room_a 29 16 8) (9 ∷ 0 ∷ [])
    ∷ shows (room_a 30 15 8) (9 ∷ 0 ∷ [])
    ∷ shows (room_a 30 16 7) (9 ∷ 0 ∷ [])
    -- without the tail: the hard constraint is refuted in 1 step, A's hard clauses are not
    ∷ shows (steps_said (check_hard_of file_hard_a (0x61 ∷ 0x09 ∷ 0x00 ∷ 0x05 ∷ 0x04 ∷ 0x02 ∷ 0x06 ∷ 0x08 ∷ 0x00 ∷ []) ample)) (0 ∷ 1 ∷ [])
    ∷ shows (steps_said (check_hard_of file_a (proof_a 0x11) ample)) (15 ∷ 1 ∷ [])
    -- A's one model is the best, by its proof at bound 3; without a proof 18; no model at all 13; cost 0 needs no proof
    ∷ shows (best_a (1 ∷ 1 ∷ 1 ∷ 1 ∷ []) (proof_a 0x11)) (0 ∷ 4 ∷ 1 ∷ [])
    ∷ shows (best_a (1 ∷ 1 ∷ 1 ∷ 1 ∷ []) []) (18 ∷ 0 ∷ [])
    ∷ shows (best_a (1 ∷ 1 ∷ 1 ∷ 0 ∷ []) (proof_a 0x11)) (13 ∷ 6 ∷ [])
    ∷ shows (best_said (best_of file_free (1 ∷ 1 ∷ 1 ∷ []) [] ample)) (0 ∷ 0 ∷ 0 ∷ [])
    -- bounds 1 to 2: counts 0, 2, 3 deviate 1, 0, 1
    ∷ shows (deviation 1 2 0 ∷ deviation 1 2 2 ∷ deviation 1 2 3 ∷ []) (1 ∷ 0 ∷ 1 ∷ [])
    -- kind 6, 3 to 5: counts 0, 1 deviate 0, 2
    ∷ shows (charged six 0 ∷ charged six 1 ∷ []) (0 ∷ 2 ∷ [])
    -- busy at members 2 and 5 of six: 2 idle
    ∷ shows (count (busy_times 2 5) idle_six ∷ []) (2 ∷ [])
    -- at members 2 and 4 of six: 1 idle
    ∷ shows (count (busy_times 2 4) idle_six ∷ []) (1 ∷ [])
    -- two starts of a spread group at one time count twice
    ∷ shows (deviations start_at1 (rules_of 1 (λ e. 1) (λ r. []) (group_at ((1 ∷ []) ∷ [])) (spread (1 ∷ 2 ∷ []) 1 0 1)) ∷ []) (1 ∷ [])
    -- literals 1, 0, 1 give last row 1, 1, 0: its clauses refuse a count that is too low or too high
    ∷ shows (holds3 (1 ∷ 0 ∷ 1 ∷ 1 ∷ 0 ∷ 0 ∷ 1 ∷ 0 ∷ 0 ∷ 1 ∷ 1 ∷ 0 ∷ [])) (1 ∷ [])
    ∷ shows (holds3 (1 ∷ 0 ∷ 1 ∷ 1 ∷ 0 ∷ 0 ∷ 1 ∷ 0 ∷ 0 ∷ 1 ∷ 0 ∷ 0 ∷ [])) (0 ∷ [])
    ∷ shows (holds3 (1 ∷ 0 ∷ 1 ∷ 1 ∷ 0 ∷ 0 ∷ 1 ∷ 0 ∷ 0 ∷ 1 ∷ 1 ∷ 1 ∷ [])) (0 ∷ [])
    -- T = 125 passes, 126 gives 2; a list of 255 passes, 256 gives 4; bound 4,096 gives 7
    ∷ shows (size_said (read_of (times_file 125))) (0 ∷ 125 ∷ 1 ∷ 0 ∷ 0 ∷ 0 ∷ [])
    ∷ shows (size_said (read_of (times_file 126))) (2 ∷ 0 ∷ [])
    ∷ shows (size_said (read_of (list_file 255))) (0 ∷ 1 ∷ 1 ∷ 1 ∷ 255 ∷ 1 ∷ [])
    ∷ shows (size_said (read_of (list_file 256))) (4 ∷ 264 ∷ [])
    ∷ shows (check_a 4096 []) (7 ∷ 4096 ∷ [])
    -- two doubles and a single, the last after a gap; a triple and a double: one double, one single and one length outside are wrong
    ∷ shows (score_said (score_of doubles (1 ∷ 1 ∷ 1 ∷ 1 ∷ 0 ∷ 1 ∷ 1 ∷ 0 ∷ 1 ∷ 0 ∷ 0 ∷ 1 ∷ []))) (0 ∷ 0 ∷ 0 ∷ [])
    ∷ shows (score_said (score_of doubles (1 ∷ 1 ∷ 1 ∷ 0 ∷ 1 ∷ 1 ∷ 1 ∷ 0 ∷ 0 ∷ 0 ∷ 1 ∷ 0 ∷ []))) (0 ∷ 3 ∷ 0 ∷ [])
    -- a double at the last two times; two singles side by side are no double; a length above the duration counts 0
    ∷ shows (score_said (score_of (soft_nine 6 2 2 1 1) (0 ∷ 0 ∷ 0 ∷ 0 ∷ 1 ∷ 1 ∷ 0 ∷ 0 ∷ 0 ∷ 0 ∷ 1 ∷ 0 ∷ []))) (0 ∷ 0 ∷ 0 ∷ [])
    ∷ shows (score_said (score_of (soft_nine 2 2 2 1 1) (1 ∷ 1 ∷ 1 ∷ 0 ∷ []))) (0 ∷ 0 ∷ 0 ∷ [])
    ∷ shows (score_said (score_of (soft_nine 2 2 2 1 1) (1 ∷ 1 ∷ 1 ∷ 1 ∷ []))) (0 ∷ 0 ∷ 1 ∷ [])
    ∷ shows (score_said (score_of (soft_nine 2 1 2 1 1) (1 ∷ 0 ∷ 1 ∷ 0 ∷ []))) (0 ∷ 0 ∷ 1 ∷ [])
    -- starts at 1, 3 and 4 of five times: lengths 2, 1 and 2
    ∷ shows (map (λ n. subevents 5 three_starts 1 (eqb n)) (up_to 4)) (1 ∷ 2 ∷ 0 ∷ 0 ∷ [])
    ∷ shows (map (λ n. count three_starts (of_length 5 1 n)) (up_to 4)) (1 ∷ 2 ∷ 0 ∷ 0 ∷ [])
    ∷ shows (map (λ n. count three_starts (of_length_outside 5 1 n n)) (up_to 4)) (2 ∷ 1 ∷ 3 ∷ 3 ∷ [])
    -- a length of 0 or above T gives 2, lo above T gives 5, lo = T passes; shortest above longest gives 5 at the kind
    ∷ shows (read_nine 0 0 0) (2 ∷ 10 ∷ [])
    ∷ shows (read_nine 3 0 0) (2 ∷ 10 ∷ [])
    ∷ shows (read_nine 2 2 2) (0 ∷ 2 ∷ 1 ∷ 0 ∷ 0 ∷ 1 ∷ [])
    ∷ shows (read_nine 2 3 3) (5 ∷ 7 ∷ [])
    ∷ shows (read_ten 2 3) (2 ∷ 11 ∷ [])
    ∷ shows (read_ten 2 1) (5 ∷ 7 ∷ [])
    ∷ shows (read_ten 1 2) (0 ∷ 2 ∷ 1 ∷ 0 ∷ 0 ∷ 1 ∷ [])
    -- kind 3, a double and two singles in two times: a double that starts outside and runs in costs 2, one that starts inside and
    -- runs out 0, and two singles of which one starts outside 1
    ∷ shows (score_said (score_of (preferred_file 2 2 2) (1 ∷ 1 ∷ 1 ∷ 0 ∷ []))) (0 ∷ 0 ∷ 2 ∷ [])
    ∷ shows (score_said (score_of (preferred_file 2 2 1) (1 ∷ 1 ∷ 1 ∷ 0 ∷ []))) (0 ∷ 0 ∷ 0 ∷ [])
    ∷ shows (score_said (score_of (preferred_file 2 2 1) (1 ∷ 1 ∷ 1 ∷ 1 ∷ []))) (0 ∷ 0 ∷ 1 ∷ [])
    -- subevents of lengths 2, 1 and 2 from times 1, 3 and 4: those that start after 2 hold three times,
    -- counted or by their lengths, the one from time 1 holds two
    ∷ shows (times_held 5 three_starts 1 (ltb 2) ∷ lengths_from 5 three_starts 1 (ltb 2) 1 5 ∷ []) (3 ∷ 3 ∷ [])
    ∷ shows (times_held 5 three_starts 1 (eqb 1) ∷ lengths_from 5 three_starts 1 (eqb 1) 1 5 ∷ []) (2 ∷ 2 ∷ [])
    ∷ shows (count three_starts (from_outside 5 1 5 (1 ∷ 2 ∷ [])) ∷ count three_starts (from_outside 5 1 5 (1 ∷ 3 ∷ [])) ∷ []) (3 ∷ 2 ∷ [])
    -- the clauses of M and C in three times, a duration of 2 and the group of time 2, of M, C and D and the group of time 1, with the
    -- members; where all times are in the group there are none
    ∷ shows (node_listing 3 16 (from_outside 3 1 2 (2 ∷ []))) chain_listing
    ∷ shows (members_of 3 16 (from_outside 3 1 2 (2 ∷ []))) (8 ∷ 34 ∷ 12 ∷ [])
    ∷ shows (node_listing 3 16 (from_outside 3 1 2 (1 ∷ []))) both_listing
    ∷ shows (members_of 3 16 (from_outside 3 1 2 (1 ∷ []))) (10 ∷ 36 ∷ [])
    ∷ shows (members_of 3 16 (from_outside 3 1 3 (1 ∷ 2 ∷ 3 ∷ []))) []
    -- each time outside can be reached from the one before it
    ∷ shows (members_of 3 16 (from_outside 3 1 2 [])) (8 ∷ 36 ∷ 42 ∷ [])
    -- the clauses of M and K in three times for length 2; of M, Q, W and K in two times for 2 to 2
    ∷ shows (node_listing 3 16 (of_length 3 1 2)) nine_listing
    ∷ shows (node_listing 2 10 (of_length_outside 2 1 2 2)) ten_listing
    -- kind 11: two events that are one give 19 at the kind, before 5 and after 1 to 3; lo above hi gives 5; 125 gives 2; 124 at T = 1,
    -- with the second event first, is no fault
    ∷ shows (read_eleven 1 1 1 0) (19 ∷ 9 ∷ [])
    ∷ shows (read_eleven 1 1 125 0) (2 ∷ 13 ∷ [])
    ∷ shows (read_eleven 1 2 1 0) (5 ∷ 9 ∷ [])
    ∷ shows (read_eleven 1 2 0 125) (2 ∷ 14 ∷ [])
    ∷ shows (read_eleven 2 1 124 124) (0 ∷ 1 ∷ 2 ∷ 0 ∷ 0 ∷ 1 ∷ [])
    -- 0 to 0 in three times: a gap of 0, of 1, which is one above hi, and a negative one
    ∷ shows (gap_score 3 1 1 0 0 (1 ∷ 0 ∷ 0 ∷ 0 ∷ 1 ∷ 0 ∷ [])) (0 ∷ 0 ∷ 0 ∷ [])
    ∷ shows (gap_score 3 1 1 0 0 (1 ∷ 0 ∷ 0 ∷ 0 ∷ 0 ∷ 1 ∷ [])) (0 ∷ 0 ∷ 1 ∷ [])
    ∷ shows (gap_score 3 1 1 0 0 (0 ∷ 1 ∷ 0 ∷ 1 ∷ 0 ∷ 0 ∷ [])) (0 ∷ 0 ∷ 1 ∷ [])
    -- the first event at 1 and 3, the second at 2, and at 2 and 4: a gap of −2; at 4 alone one of 0; at T = 1 it is −1
    ∷ shows (gap_score 4 2 1 0 124 (1 ∷ 0 ∷ 1 ∷ 0 ∷ 0 ∷ 1 ∷ 0 ∷ 0 ∷ [])) (0 ∷ 0 ∷ 1 ∷ [])
    ∷ shows (gap_score 4 2 2 0 124 (1 ∷ 0 ∷ 1 ∷ 0 ∷ 0 ∷ 1 ∷ 0 ∷ 1 ∷ [])) (0 ∷ 0 ∷ 1 ∷ [])
    ∷ shows (gap_score 4 2 1 0 124 (1 ∷ 0 ∷ 1 ∷ 0 ∷ 0 ∷ 0 ∷ 0 ∷ 1 ∷ [])) (0 ∷ 0 ∷ 0 ∷ [])
    ∷ shows (gap_score 1 1 1 0 124 (1 ∷ 1 ∷ [])) (0 ∷ 0 ∷ 1 ∷ [])
    -- from the last time 3 to the first time 5 the gap is 1, by its meaning and by the list; the other way round it is negative
    ∷ shows (last_time 6 spaced 1 ∷ first_time 6 spaced 2 ∷ []) (3 ∷ 5 ∷ [])
    ∷ shows (map (λ n. cond (gap_within 6 spaced 1 2 n n) 0 1) (from 0 4)) (1 ∷ 0 ∷ 1 ∷ 1 ∷ [])
    ∷ shows (map (λ n. count spaced (gap_outside 6 1 2 n n)) (from 0 4)) (1 ∷ 0 ∷ 1 ∷ 1 ∷ [])
    ∷ shows (cond (gap_within 6 spaced 2 1 0 124) 0 1 ∷ count spaced (gap_outside 6 2 1 0 124) ∷ []) (1 ∷ 1 ∷ [])
    -- the clauses of F, P, G, Q and O in four times for 0 to 0, with the member; of F and O in three for 1 to 1; of O alone in two
    ∷ shows (node_listing 4 33 (gap_outside 4 1 2 0 0)) gap_listing
    ∷ shows (members_of 4 33 (gap_outside 4 1 2 0 0)) (84 ∷ [])
    ∷ shows
    (node_listing 3 20 (gap_outside 3 1 2 1 1))
    (9 ∷ 40 ∷ 0 ∷ 11 ∷ 40 ∷ 0 ∷ 8 ∷ 10 ∷ 41 ∷ 0 ∷ 5 ∷ 42 ∷ 0 ∷ 7 ∷ 42 ∷ 0 ∷ 41 ∷ 42 ∷ 0 ∷ 4 ∷ 6 ∷ 40 ∷ 43 ∷ 0 ∷ [])
    ∷ shows (node_listing 2 20 (gap_outside 2 1 2 1 1)) (3 ∷ 40 ∷ 0 ∷ 5 ∷ 40 ∷ 0 ∷ 2 ∷ 4 ∷ 41 ∷ 0 ∷ [])
    -- idle after each member of a row with X at the second and the fifth of six, walked and by the meaning of idle
    ∷ shows (map (λ k. (kept_after (take k drawn)).idle) (up_to 6)) (0 ∷ 0 ∷ 0 ∷ 0 ∷ 2 ∷ 2 ∷ [])
    ∷ shows (map (λ k. idle_times (take k drawn)) (up_to 6)) (0 ∷ 0 ∷ 0 ∷ 0 ∷ 2 ∷ 2 ∷ [])
    -- the three numbers after each
    ∷ shows
    (flat_map (λ k. kept_said (numbers_of (kept_after (take k drawn)))) (up_to 6))
    (0 ∷ 0 ∷ 0 ∷ 0 ∷ 0 ∷ 1 ∷ 0 ∷ 1 ∷ 1 ∷ 0 ∷ 2 ∷ 1 ∷ 2 ∷ 0 ∷ 1 ∷ 2 ∷ 1 ∷ 1 ∷ [])
    -- any value for yes; what does not fit is given as the largest number
    ∷ shows (kept_said (idle_step_of 7 3 9 0) ++ kept_said (idle_step_of 7 3 9 5)) (7 ∷ 4 ∷ 1 ∷ 10 ∷ 0 ∷ 1 ∷ [])
    ∷ shows (kept_said (idle_step_of 4294967295 1 1 1) ++ kept_said (idle_step_of 5 4294967295 1 0)) (4294967295 ∷ 0 ∷ 1 ∷ 5 ∷ 4294967295 ∷ 1 ∷ [])
    -- A's one model, from "v 1 2 3 4 0" with its line's end, without the 0, without the end; from two lines with others before, between
    -- and after them, the last an empty v line
    ∷ shows (solver_a (v_one_two ++ three_four ++ then_zero ++ 10 ∷ [])) (0 ∷ 1 ∷ 1 ∷ 1 ∷ 1 ∷ 2 ∷ 4 ∷ [])
    ∷ shows (solver_a (v_one_two ++ three_four ++ 10 ∷ [])) (0 ∷ 1 ∷ 1 ∷ 1 ∷ 1 ∷ 2 ∷ 4 ∷ [])
    ∷ shows (solver_a (v_one_two ++ three_four)) (0 ∷ 1 ∷ 1 ∷ 1 ∷ 1 ∷ 2 ∷ 4 ∷ [])
    ∷ shows
    (solver_a (99 ∷ 13 ∷ 10 ∷ 115 ∷ 10 ∷ (v_one_two ++ 32 ∷ 10 ∷ 111 ∷ 120 ∷ 10 ∷ 118 ∷ 32 ∷ (three_four ++ then_zero ++ 10 ∷ 118 ∷ [])))) (0 ∷ 1 ∷ 1 ∷ 1 ∷ 1 ∷ 2 ∷ 4 ∷ [])
    -- the text of a model, and what is read of it
    ∷ shows (model_text (1 ∷ 0 ∷ [])) (118 ∷ 32 ∷ 49 ∷ 32 ∷ 45 ∷ 50 ∷ 32 ∷ 48 ∷ 10 ∷ [])
    ∷ shows (solver_a (model_text (1 ∷ 1 ∷ 1 ∷ 1 ∷ []))) (0 ∷ 1 ∷ 1 ∷ 1 ∷ 1 ∷ 2 ∷ 4 ∷ [])
    ∷ shows (solver_a (model_text (1 ∷ 1 ∷ 1 ∷ 0 ∷ []))) (13 ∷ 6 ∷ [])
    -- 9 for the store alone, then 10, whatever the text; a longer store is no fault
    ∷ shows (lent_a 3 3 (120 ∷ [])) (9 ∷ 0 ∷ [])
    ∷ shows (lent_a 3 4 (120 ∷ [])) (10 ∷ 4 ∷ [])
    ∷ shows (lent_a 5 9 (120 ∷ [])) (10 ∷ 4 ∷ [])
    ∷ shows (lent_a 4 9 (120 ∷ [])) (20 ∷ 0 ∷ [])
    -- no line at all, an empty line first and last; a line that begins with a space
    ∷ shows (solver_a []) (21 ∷ 1 ∷ [])
    ∷ shows (solver_a (10 ∷ [])) (20 ∷ 0 ∷ [])
    ∷ shows (solver_a (v_one_two ++ three_four ++ 10 ∷ 10 ∷ [])) (20 ∷ 10 ∷ [])
    ∷ shows (solver_a (32 ∷ v_one_two)) (20 ∷ 0 ∷ [])
    -- v alone, "v1", v and a tab
    ∷ shows (solver_a (118 ∷ [])) (21 ∷ 1 ∷ [])
    ∷ shows (solver_a (118 ∷ 49 ∷ [])) (20 ∷ 1 ∷ [])
    ∷ shows (solver_a (118 ∷ 9 ∷ 49 ∷ [])) (20 ∷ 1 ∷ [])
    -- one closing 0 for all v lines
    ∷ shows (solver_a (v_one_two ++ then_zero ++ 10 ∷ 118 ∷ three_four)) (20 ∷ 10 ∷ [])
    ∷ shows (solver_a (v_one_two ++ three_four ++ then_zero ++ then_zero)) (20 ∷ 12 ∷ [])
    -- "2x", "01", "-0", "+", "-", "1" before a byte 13, "5" of four: at the literal's first byte
    ∷ shows (solver_a (v_one_two ++ 120 ∷ [])) (20 ∷ 4 ∷ [])
    ∷ shows (solver_a (118 ∷ 32 ∷ 48 ∷ 49 ∷ [])) (20 ∷ 2 ∷ [])
    ∷ shows (solver_a (118 ∷ 32 ∷ 45 ∷ 48 ∷ [])) (20 ∷ 2 ∷ [])
    ∷ shows (solver_a (118 ∷ 32 ∷ 43 ∷ [])) (20 ∷ 2 ∷ [])
    ∷ shows (solver_a (118 ∷ 32 ∷ 45 ∷ [])) (20 ∷ 2 ∷ [])
    ∷ shows (solver_a (118 ∷ 32 ∷ 49 ∷ 13 ∷ 10 ∷ [])) (20 ∷ 2 ∷ [])
    ∷ shows (solver_a (118 ∷ 32 ∷ 53 ∷ [])) (20 ∷ 2 ∷ [])
    -- given twice, alike or not, and missing: the lowest variable, after all of 20
    ∷ shows (solver_a (v_one_two ++ three_four ++ 32 ∷ 49 ∷ [])) (21 ∷ 1 ∷ [])
    ∷ shows (solver_a (v_one_two ++ three_four ++ 32 ∷ 45 ∷ 50 ∷ [])) (21 ∷ 2 ∷ [])
    ∷ shows (solver_a (118 ∷ 32 ∷ 49 ∷ (three_four ++ three_four))) (21 ∷ 2 ∷ [])
    ∷ shows (solver_a (v_one_two ++ three_four ++ 32 ∷ 49 ∷ 32 ∷ 53 ∷ [])) (20 ∷ 12 ∷ [])
    -- 13 is that of decoding
    ∷ shows (solver_a (118 ∷ 32 ∷ 45 ∷ 49 ∷ 32 ∷ 50 ∷ three_four)) (13 ∷ 1 ∷ [])
    ∷ []

-- the definitions compute what the paper says
pub examples : map (λ c. c.computed) cases ≡ map (λ c. c.expected) cases
unfolding repeat group front within number limited reference references listed from member users_from outside gaps_after gaps reached reaches_nodes reaches_members from_outside going_on span time_by_time of_length of_length_outside or_more or_chain down begun too_soon lasting too_late either_way gap_outside taken_among gap_within entries_nodes entries_members counted_of longest event_at fields_read fields_table ended constraint_at times_at sizes_at groups_at all_groups_at constraints_at file_up_to parse bit lit clause clauses has_true without_false tidy pairs gate_clauses hard_clauses soft_units falsified trues any all deviation charged values_after count deviations truth event_right first_wrong infeasibility_of objective_of first_above row counter last_row low_units high_units short_units bound_items count_into rule_items rules_items starts uses duration_rules constraint_rules formula variables hard_of soft_of tail bounded bounded_variables bounded_hard words digits literal_text line sum_weights top header_line text numbers step_at literals_ok well_formed hints_show deleted perform run start plain_run read_of score_of same_bytes same_sheet_of sizes_of text_size_of text_of program_prints lowest_false decode_of until lines_after words_after tokens numeral word_of gathered times_given not_once model_in literals_from model_text solver_text_of formula_fits check_of check_hard_of best_of file_a file_hard_a file_free proof_a listing_a number_said steps_said score_said decode_said solver_said best_said size_said ample check_a room_a best_a lent_a solver_a v_one_two three_four then_zero busy_times start_at1 counter3 holds3 times_file spelt list_file six idle_six before subevents held_from times_held lengths_from idle_times kept_after drawn kept_said length_file preferred_file chain_listing both_listing members_of doubles soft_nine read_nine read_ten node_listing nine_listing ten_listing three_starts gap_file read_eleven gap_score spaced gap_listing cases flat_map
examples = refl

-- two periods on the first day, one on the second
few_days : List (List Period)
few_days =
    (record { start = 0; end = 5 } ∷ record { start = 5; end = 9 } ∷ [])
    ∷ (record { start = 0; end = 5 } ∷ [])
    ∷ []

-- a calendar of one period, from 0 to 5, and one event, before windows and constraints; a window on day d
one_period : List ℕ
one_period = 0x00 ∷ 0x01 ∷ 0x00 ∷ 0x05 ∷ 0x00 ∷ 0x00 ∷ 0x00 ∷ 0x00 ∷ 0x00 ∷ 0x00 ∷ 0x01 ∷ 0x00 ∷ 0x01 ∷ 0x00 ∷ 0x00 ∷ []

-- the same days as above; an event of two times with one resource, a group of time 3, a window of the first day from 0 to 8, and kind
-- 2 at weight 7 over the window
file_window : List ℕ
file_window =
    0x00 ∷ 0x02 ∷ 0x00 ∷ 0x05 ∷ 0x05 ∷ 0x09 ∷ 0x01 ∷ 0x00 ∷ 0x05 ∷ 0x00 ∷ 0x00 ∷ 0x00 ∷ 0x00 ∷ 0x00
    ∷ 0x01 ∷ 0x01 ∷ 0x02 ∷ 0x01 ∷ 0x01 ∷ 0x01 ∷ 0x01 ∷ 0x03 ∷ 0x01 ∷ 0x01 ∷ 0x00 ∷ 0x08
    ∷ 0x01 ∷ 0x02 ∷ 0x07 ∷ 0x01 ∷ 0x02 ∷ []

-- that file with its groups spelled out
file_spelled : List ℕ
file_spelled =
    0x03 ∷ 0x01 ∷ 0x01 ∷ 0x02 ∷ 0x01 ∷ 0x01 ∷ 0x02 ∷ 0x01 ∷ 0x03 ∷ 0x01 ∷ 0x01 ∷ 0x01 ∷ 0x02 ∷ 0x07 ∷ 0x01 ∷ 0x02 ∷ []

bytes_said : Parsed (List ℕ) → List ℕ
bytes_said (got bs end) = bs
bytes_said (refused k v) = k ∷ v ∷ []

-- calendars and windows: a table of its own, since a table that is refused takes time by its length
pub calendar_cases : List Case
calendar_cases =
    -- a window shows the periods that lie within it, both ends included, by their times: none that only overlaps it
    shows (window_of few_days 1 0 9) (1 ∷ 2 ∷ [])
    ∷ shows (window_of few_days 1 0 8) (1 ∷ [])
    ∷ shows (window_of few_days 1 1 9) (2 ∷ [])
    ∷ shows (window_of few_days 2 0 5) (3 ∷ [])
    ∷ shows (window_of few_days 1 9 0) []
    ∷ shows (window_of few_days 3 0 1440) []
    -- 22 at the first byte of the period, as soon as a number is above its limit; 1 at the number's own
    ∷ shows (size_said (read_of (0x00 ∷ 0x01 ∷ 0x00 ∷ 0xA1 ∷ 0x0B ∷ []))) (22 ∷ 2 ∷ [])
    ∷ shows (size_said (read_of (0x00 ∷ 0x01 ∷ 0xA1 ∷ 0x0B ∷ []))) (22 ∷ 2 ∷ [])
    ∷ shows (size_said (read_of (0x00 ∷ 0x01 ∷ 0x05 ∷ 0x80 ∷ []))) (1 ∷ 3 ∷ [])
    -- start below end; no earlier than the end before it
    ∷ shows (size_said (read_of (0x00 ∷ 0x01 ∷ 0x05 ∷ 0x05 ∷ []))) (22 ∷ 2 ∷ [])
    ∷ shows (size_said (read_of (0x00 ∷ 0x02 ∷ 0x00 ∷ 0x05 ∷ 0x04 ∷ 0x09 ∷ []))) (22 ∷ 4 ∷ [])
    -- 25 periods of a day; no number at all; an overlong 0; 126 times
    ∷ shows (size_said (read_of (0x00 ∷ 0x19 ∷ []))) (22 ∷ 1 ∷ [])
    ∷ shows (size_said (read_of (0x00 ∷ []))) (1 ∷ 1 ∷ [])
    ∷ shows (size_said (read_of (0x80 ∷ 0x00 ∷ []))) (1 ∷ 0 ∷ [])
    ∷ shows (size_said (read_of (0x7E ∷ []))) (2 ∷ 0 ∷ [])
    -- no period at all: the offset of the 0
    ∷ shows (size_said (read_of (replicate 8 0x00))) (22 ∷ 0 ∷ [])
    -- periods may touch, and those of two days are not compared
    ∷ shows
    (size_said (read_of (0x00 ∷ 0x02 ∷ 0x00 ∷ 0x05 ∷ 0x05 ∷ 0x09 ∷ 0x01 ∷ 0x00 ∷ 0x05 ∷ (replicate 5 0x00 ++ 0x01 ∷ 0x00 ∷ 0x01 ∷ 0x00 ∷ 0x00 ∷ 0x00 ∷ 0x00 ∷ []))))
    (0 ∷ 3 ∷ 1 ∷ 0 ∷ 0 ∷ 0 ∷ [])
    -- windows stand in a file with a calendar alone
    ∷ shows (size_said (read_of (0x01 ∷ 0x01 ∷ 0x00 ∷ 0x01 ∷ 0x00 ∷ 0x00 ∷ 0x00 ∷ []))) (0 ∷ 1 ∷ 1 ∷ 0 ∷ 0 ∷ 0 ∷ [])
    -- 22 of windows: their count, a day, a number above its limit, at the window's first byte
    ∷ shows (size_said (read_of (one_period ++ 0x81 ∷ 0x08 ∷ []))) (22 ∷ 15 ∷ [])
    ∷ shows (size_said (read_of (one_period ++ 0x01 ∷ 0x00 ∷ 0x00 ∷ 0x00 ∷ 0x00 ∷ []))) (22 ∷ 16 ∷ [])
    ∷ shows (size_said (read_of (one_period ++ 0x01 ∷ 0x01 ∷ 0x00 ∷ 0xA1 ∷ 0x0B ∷ 0x00 ∷ []))) (22 ∷ 16 ∷ [])
    -- a from above to is no fault; a window is a group: number 1 here, and there is no group 2
    ∷ shows (size_said (read_of (one_period ++ 0x01 ∷ 0x01 ∷ 0x05 ∷ 0x00 ∷ 0x00 ∷ []))) (0 ∷ 1 ∷ 1 ∷ 0 ∷ 1 ∷ 0 ∷ [])
    ∷ shows
    (size_said (read_of (one_period ++ 0x01 ∷ 0x01 ∷ 0x00 ∷ 0x05 ∷ 0x01 ∷ 0x03 ∷ 0x00 ∷ 0x01 ∷ 0x01 ∷ [])))
    (0 ∷ 1 ∷ 1 ∷ 0 ∷ 1 ∷ 1 ∷ [])
    ∷ shows (size_said (read_of (one_period ++ 0x01 ∷ 0x01 ∷ 0x00 ∷ 0x05 ∷ 0x01 ∷ 0x03 ∷ 0x00 ∷ 0x01 ∷ 0x02 ∷ []))) (3 ∷ 23 ∷ [])
    -- a file with a window, spelled out, and the score of both
    ∷ shows (bytes_said (spelled_out file_window)) file_spelled
    ∷ shows (score_said (score_of file_window (1 ∷ 1 ∷ 0 ∷ 1 ∷ 0 ∷ 0 ∷ []))) (0 ∷ 0 ∷ 7 ∷ [])
    ∷ shows (score_said (score_of file_spelled (1 ∷ 1 ∷ 0 ∷ 1 ∷ 0 ∷ 0 ∷ []))) (0 ∷ 0 ∷ 7 ∷ [])
    ∷ []

pub calendar-examples : map (λ c. c.computed) calendar_cases ≡ map (λ c. c.expected) calendar_cases
unfolding repeat group front within number limited reference references listed from member users_from gaps_after gaps entries_nodes entries_members counted_of longest event_at fields_read fields_table ended constraint_at times_at sizes_at groups_at all_groups_at constraints_at file_up_to parse limited_in period_at periods_at day_at period_count calendar_at shown window_of window_at windows_at spelt_bytes spelled_out from_outside reached reaches_nodes reaches_members bit trues any all deviation charged values_after count deviations truth event_right first_wrong infeasibility_of objective_of first_above read_of score_of size_said score_said bytes_said few_days one_period file_window file_spelled calendar_cases flat_map
calendar-examples = refl
