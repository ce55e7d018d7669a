-- Demands 2 and 3, what is owed for the two operations beside them, what kinds 3, 9, 10 and 11 count, idle times in one walk, what is
-- read of a solver's text, and what a window stands for, as types over the definitions. The upper crates prove them.
use Rattle.std.specs.Prelude.{◌≡◌, Bool, true, not, ◌&&◌, ◌||◌, cond, ◌↔◌, ℕ, ◌+◌, ◌-◌, ◌*◌, ◌≤◌, ◌<◌, length, get_or, take, leb, ltb, eqb}
use mathlib.Core.List.{List, [], map, foldl, sum}
use Rattle.scope.specs.Parsed.{got, answered}
use Rattle.scope.specs.Kinds.{preferred, idle, distribute, lengths, precedence, Atom, Listed, entries, uses_at, gaps, member, event_of, group_at, from_outside, of_length, of_length_outside, early, late, gap_outside, rules_of}
use Rattle.scope.specs.Calendar.{Period, period_count, window_of}
use Rattle.scope.specs.Instance.{Instance, file_up_to, parse}
use Rattle.scope.specs.SpelledOut.{spelled_out}
use Rattle.scope.specs.Cnf.{gate, hard_clauses, bit, clauses}
use Rattle.scope.specs.Score.{deviation, count, deviations, rules, event_right}
use Rattle.scope.specs.Subevents.{subevents, times_held, lengths_from}
use Rattle.scope.specs.Gap.{times_taken, gap_within}
use Rattle.scope.specs.Idle.{idle_times, kept_after, yes, idle_step_of}
use Rattle.scope.specs.Formula.{node_gate, variables, hard_of, words, most_variables}
use Rattle.scope.specs.SolverText.{model_in, model_text}
use Rattle.scope.specs.Operations.{read_of, score_of, same_sheet_of, sizes_of, text_size_of, text_of, decode_of, part, falsified_soft, solver_text_of, check_of, check_hard_of, best_of, Lent}
use Rattle.scope.specs.Refutation.{NoTimetable, NoneAtAll}
use Rattle.scope.specs.declared.Objective.{Objective}

-- "an accepted instance": the file gives none of 1 to 6, 19 and 22
pub record Accepted (file : List ℕ) (i : Instance) : Type 0 where
  pub end : ℕ
  pub parsed : parse file ≡ got i end

-- "a timetable that keeps every hard constraint", at a cost "by document 01's constraint definitions"
abbrev pub KeepsHard : List ℕ → List ℕ → Objective → Type 0
KeepsHard file t cost = score_of file t ≡ answered (record { 0 = 0 }, cost)

-- "the models of the hard clauses": "one byte, 0 or 1, for each variable without the tail"
pub record Model (i : Instance) (m : List ℕ) : Type 0 where
  pub size : length m ≡ variables i
  pub bytes : (k : ℕ) → get_or m k 0 ≤ 1
  pub holds : clauses (bit m) (hard_of i) ≡ true

-- Demand 2. "the models of the hard clauses and the timetables that keep every hard constraint match one to one"
pub record OneToOne (file : List ℕ) (i : Instance) : Type 0 where
  -- "each such timetable has exactly one model"
  pub one_model : (t : List ℕ) (cost : Objective) → KeepsHard file t cost
      → (m : List ℕ) × Model i m × (part i m ≡ t) × ((n : List ℕ) → Model i n → part i n ≡ t → n ≡ m)
  -- "each model decodes to its timetable"
  pub decodes : (m : List ℕ) → Model i m → decode_of file m ≡ answered (part i m, falsified_soft i m)
  -- "and the weight of the soft clauses it falsifies is the cost"
  pub cost : (m : List ℕ) → Model i m → KeepsHard file (part i m) (falsified_soft i m)
  -- and nothing but a model decodes
  pub only_models : (m t : List ℕ) (cost : Objective) → decode_of file m ≡ answered (t, cost) → Model i m

abbrev pub Demand2 : Type 0
Demand2 = (file : List ℕ) (i : Instance) → Accepted file i → variables i ≤ most_variables → OneToOne file i

-- Demand 3
pub record Demand3 : Type 0 where
  -- "the checker never answers 'no timetable' for an accepted instance and a bound B from 0 to 4,095 while some timetable
  -- keeps every hard constraint at cost B or less"
  pub never : (file : List ℕ) (i : Instance) (B : ℕ) (proof : List ℕ) (l : Lent) (n : ℕ) → Accepted file i
      → check_of file B proof l ≡ answered n → (t : List ℕ) (cost : Objective) → KeepsHard file t cost → B < cost.0
  -- "For every accepted instance, bound asked for, proof and lent stores, that answer comes exactly when all of this is so."
  pub exactly : (file : List ℕ) (i : Instance) (B : ℕ) (proof : List ℕ) (l : Lent) (n : ℕ) → Accepted file i
      → (check_of file B proof l ≡ answered n) ↔ NoTimetable i B proof l n
  -- "if a decoded model costs w, from 1 to 4,096, and 'no timetable' is answered for the same instance at bound w − 1, every
  -- other timetable that keeps its hard constraints costs at least w"
  pub best : (file : List ℕ) (i : Instance) (m t : List ℕ) (w : Objective) (proof : List ℕ) (l : Lent) (n : ℕ) → Accepted file i
      → decode_of file m ≡ answered (t, w) → 1 ≤ w.0 → w.0 ≤ 4096 → check_of file (w.0 - 1) proof l ≡ answered n
      → (u : List ℕ) (cost : Objective) → KeepsHard file u cost → w.0 ≤ cost.0

-- The check without the tail: "no timetable" is never answered while some timetable keeps every hard constraint, whatever it
-- costs; and exactly when the proof refutes the hard clauses
pub record DemandHard : Type 0 where
  pub never : (file : List ℕ) (i : Instance) (proof : List ℕ) (l : Lent) (n : ℕ) → Accepted file i
      → check_hard_of file proof l ≡ answered n → (t : List ℕ) (cost : Objective) → KeepsHard file t cost → ⊥
  pub exactly : (file : List ℕ) (i : Instance) (proof : List ℕ) (l : Lent) (n : ℕ) → Accepted file i
      → (check_hard_of file proof l ≡ answered n) ↔ NoneAtAll i proof l n

-- The best model: demand 3's last sentence in one answer. The model's part is a timetable that keeps every hard constraint at
-- the cost w, and every timetable that does costs at least w
pub record IsBest (file : List ℕ) (i : Instance) (m : List ℕ) (w : Objective) : Type 0 where
  pub model : Model i m
  pub keeps : KeepsHard file (part i m) w
  pub least : (t : List ℕ) (cost : Objective) → KeepsHard file t cost → w.0 ≤ cost.0

abbrev pub DemandBest : Type 0
DemandBest = (file : List ℕ) (i : Instance) (m proof : List ℕ) (l : Lent) (w : Objective) (n : ℕ) → Accepted file i
    → best_of file m proof l ≡ answered (w, n) → IsBest file i m w

-- The list of kind 9 or 10 in T times, where n is the longest length that it speaks of
pub record ListedByTime (T n : ℕ) (l : Listed) : Type 0 where
  -- "The counted list of both kinds has one member for each time."
  pub members : length l.members ≡ T
  -- variables beside the counter's
  pub variables : length l.nodes ≤ 4 * ((T + 1) * (T + 1))
  -- words of their clauses: they grow with T × n
  pub words : (num : Atom → ℕ) (v : ℕ) → words (hard_clauses v (map gate (map (node_gate num v) l.nodes))) ≤ (T + 1) * (3 * n + 19)

-- Kinds 9 and 10
pub record DemandLengths : Type 0 where
  -- "Kind 9 (event, length 1..T, lo, hi) counts subevents of that length."
  pub of_length_lem : (T : ℕ) (dur : ℕ → ℕ) (us group : ℕ → List ℕ) (τ : Atom → Bool) (e n lo hi : ℕ) → 1 ≤ n
      → deviations τ (rules_of T dur us group (distribute e n lo hi)) ≡ deviation lo hi (subevents T τ e (eqb n))
  -- "Kind 10 (event, shortest, longest, each 1..T) counts subevents whose length lies outside, allowed 0 to 0."
  pub outside : (T : ℕ) (dur : ℕ → ℕ) (us group : ℕ → List ℕ) (τ : Atom → Bool) (e a b : ℕ) → 1 ≤ a
      → deviations τ (rules_of T dur us group (lengths e a b)) ≡ deviation 0 0 (subevents T τ e (λ n. ltb n a || ltb b n))
  pub list : (T e n : ℕ) → ListedByTime T n (of_length T e n)
  pub list_outside : (T e a b : ℕ) → 1 ≤ a → a ≤ b → ListedByTime T b (of_length_outside T e a b)

-- a time outside group number g
abbrev pub outside_group : Instance → ℕ → ℕ → Bool
outside_group i g t = not (member t (group_at i.groups g))

-- Kind 3, where the event's times and starts are those of a timetable
pub record DemandPreferred : Type 0 where
  -- "Kind 3 now counts, over all times, those held by a subevent that starts outside."
  pub times : (i : Instance) (τ : Atom → Bool) (w e g : ℕ) → event_right i τ e (event_of i.events e) ≡ true
      → deviations τ (rules i (record { weight = w; kind = preferred e g })) ≡ deviation 0 0 (times_held i.times τ e (outside_group i g))
  -- "a subevent that starts outside the group deviates by its whole length, and one that starts inside by nothing"
  pub lengths : (i : Instance) (τ : Atom → Bool) (w e g : ℕ) → event_right i τ e (event_of i.events e) ≡ true
      → deviations τ (rules i (record { weight = w; kind = preferred e g })) ≡ lengths_from i.times τ e (outside_group i g) 1 i.times
  -- variables beside the counter's, and members; an event of the duration 1 needs no variable
  pub variables : (T e d : ℕ) (g : List ℕ) → length (from_outside T e d g).nodes ≤ 3 * (T - 1)
  pub members : (T e d : ℕ) (g : List ℕ) → length (from_outside T e d g).members ≤ T
  pub single : (T e : ℕ) (g : List ℕ) → (from_outside T e 1 g).nodes ≡ []

-- Kind 11
pub record DemandPrecedence : Type 0 where
  -- "It deviates by 1 if the gap lies outside lo..hi, a negative gap always, else by 0": of two events that each take a time
  pub gap : (T : ℕ) (dur : ℕ → ℕ) (us group : ℕ → List ℕ) (τ : Atom → Bool) (a b lo hi : ℕ)
      → 1 ≤ length (times_taken T τ a) → 1 ≤ length (times_taken T τ b)
      → deviations τ (rules_of T dur us group (precedence a b lo hi)) ≡ cond (gap_within T τ a b lo hi) 0 1
  -- as each event of an accepted instance does that keeps a timetable's rules
  pub taken : (file : List ℕ) (i : Instance) (τ : Atom → Bool) (e : ℕ) → Accepted file i → 1 ≤ e → e ≤ length i.events
      → event_right i τ e (event_of i.events e) ≡ true → 1 ≤ length (times_taken i.times τ e)
  -- the member "outside"; variables beside the counter's
  pub member : (T a b lo hi : ℕ) → length (gap_outside T a b lo hi).members ≡ 1
  pub variables : (T a b lo hi : ℕ) → 1 ≤ early T lo → length (gap_outside T a b lo hi).nodes ≡ 2 * early T lo + 2 * late T hi
  pub alone : (T a b lo hi : ℕ) → early T lo ≡ 0 → lo ≤ hi → length (gap_outside T a b lo hi).nodes ≡ 1
  pub few : (T a b lo hi : ℕ) → 1 ≤ T → length (gap_outside T a b lo hi).nodes < 4 * T

-- whether resource r has X at each of some times
abbrev pub used_at : (Atom → Bool) → ℕ → List ℕ → List Bool
used_at τ r ts = map τ (uses_at r ts)

-- what the operation has answered after a call for each of some members, the first with 0, 0 and 0
abbrev pub kept_by_calls : List ℕ → ℕ × ℕ × ℕ
kept_by_calls us = foldl {B = ℕ × ℕ × ℕ} (λ n u. idle_step_of n.0 n.1 n.2 u) (0, 0, 0) us

-- Idle times in one walk
pub record DemandIdle : Type 0 where
  -- "From the start of each group, the count kept after each member is the number of idle times in the group cut off there."
  pub each_member : (xs : List Bool) (k : ℕ) → (kept_after (take k xs)).idle ≡ idle_times (take k xs)
  -- and that is kind 8's count of a group cut off there
  pub counted : (i : Instance) (τ : Atom → Bool) (r g k : ℕ)
      → (kept_after (take k (used_at τ r (group_at i.groups g)))).idle ≡ count τ (entries (gaps (uses_at r (take k (group_at i.groups g)))))
  -- "Every score is as before": kind 8 charges for the counts kept at the ends of its groups
  pub charge : (i : Instance) (τ : Atom → Bool) (w r : ℕ) (hs : List ℕ) (lo hi : ℕ)
      → deviations τ (rules i (record { weight = w; kind = idle r hs lo hi }))
      ≡ deviation lo hi (sum ◌+◌ 0 (map (λ g. (kept_after (used_at τ r (group_at i.groups g))).idle) hs))
  -- calls of the operation keep the same count, for fewer than 2^32 members
  pub calls : (us : List ℕ) → length us ≤ 4294967295 → (kept_by_calls us).0 ≡ (kept_after (map yes us)).idle

-- What a solver printed
pub record DemandSolverText : Type 0 where
  -- "For each model there is a text that reads back as that model": any bytes 0 and 1, one for each of at most 8,000,000 variables
  pub reads_back : (m : List ℕ) → length m ≤ most_variables → ((k : ℕ) → get_or m k 0 ≤ 1) → model_in (length m) (model_text m) ≡ answered m
  -- and the operation reads and decodes it: each model of the hard clauses
  pub every_model : (file : List ℕ) (i : Instance) → Accepted file i → variables i ≤ most_variables → (m : List ℕ) → Model i m
      → (store : ℕ) → variables i ≤ store → solver_text_of file (model_text m) (length m) store ≡ answered (m, (part i m, falsified_soft i m))
  -- whatever the text, what is read is the model that it gives, one of the hard clauses, and its part is a timetable that keeps every
  -- hard constraint at the cost
  pub only_models : (file : List ℕ) (i : Instance) → Accepted file i → (output : List ℕ) (model store : ℕ) (m t : List ℕ) (cost : Objective)
      → solver_text_of file output model store ≡ answered (m, (t, cost))
      → (model_in (variables i) output ≡ answered m) × Model i m × (part i m ≡ t) × KeepsHard file t cost

-- two files for which every operation answers alike
pub record Alike (a b : List ℕ) : Type 0 where
  pub read : read_of a ≡ read_of b
  pub score : (t : List ℕ) → score_of a t ≡ score_of b t
  pub sheet : (t u : List ℕ) → same_sheet_of a t u ≡ same_sheet_of b t u
  pub sizes : (B : ℕ) → sizes_of a B ≡ sizes_of b B
  pub text-size : text_size_of a ≡ text_size_of b
  pub text : (room : ℕ) → text_of a room ≡ text_of b room
  pub decode : (m : List ℕ) → decode_of a m ≡ decode_of b m
  pub solver-text : (output : List ℕ) (model store : ℕ) → solver_text_of a output model store ≡ solver_text_of b output model store
  pub check : (B : ℕ) (proof : List ℕ) (l : Lent) → check_of a B proof l ≡ check_of b B proof l
  pub check-hard : (proof : List ℕ) (l : Lent) → check_hard_of a proof l ≡ check_hard_of b proof l
  pub best : (m proof : List ℕ) (l : Lent) → best_of a m proof l ≡ best_of b m proof l

-- the periods of day number d, and the last time before it
abbrev pub periods_of : List (List Period) → ℕ → List Period
periods_of days d = get_or days (d - 1) []

abbrev pub times_before : List (List Period) → ℕ → ℕ
times_before days d = period_count (take (d - 1) days)

-- Calendars and windows
pub record DemandCalendar : Type 0 where
  -- "A window (day, from, to) stands for the group of that day's periods that start at or after from and end at or before to": period
  -- number k + 1 of the day is the time k + 1 after those of the days before
  pub shows : (days : List (List Period)) (d from to k : ℕ) (p : Period) → k < length (periods_of days d)
      → member (times_before days d + (k + 1)) (window_of days d from to)
      ≡ (leb from (get_or (periods_of days d) k p).start && leb (get_or (periods_of days d) k p).end to)
  -- and no other time
  pub only : (days : List (List Period)) (d from to t : ℕ) → member t (window_of days d from to) ≡ true
      → (times_before days d < t) × (t ≤ times_before days d + length (periods_of days d))
  -- "Files with windows score as if their groups were spelled out, the limit of 1,024 groups aside": spelled out, an accepted file is
  -- read as the same instance where 2,048 groups are allowed
  pub spelled_out_lem : (file : List ℕ) (i : Instance) → Accepted file i
      → (s : List ℕ) × (end : ℕ) × (spelled_out file ≡ got s end) × (file_up_to 2048 s ≡ got i (length s))
  -- and where it has up to 1,024 of them, every operation answers for it as for the file itself
  pub alike : (file : List ℕ) (i : Instance) (s : List ℕ) (end : ℕ) → Accepted file i → spelled_out file ≡ got s end
      → length i.groups ≤ 1024 → Alike file s
