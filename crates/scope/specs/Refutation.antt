-- When a proof refutes a formula: the words of demand 3 and document 01 as relations, with none of the plain run's functions in
-- them.
use Rattle.std.specs.Prelude.{◌≡◌, ◌≢◌, ℕ, ◌+◌, ◌/◌, ◌≤◌, ◌<◌, length, get_or}
use mathlib.Core.List.{List, [], ◌∷◌, ◌++◌, map, flat_map, Memᴰ}
use Rattle.std.proofs.Math.Option.{none, some}
use Rattle.scope.specs.Cnf.{opp}
use Rattle.scope.specs.Steps.{Step, add, delete, Live}
use Rattle.scope.specs.PlainRun.{State, Limits}
use Rattle.scope.specs.Instance.{Instance}
use Rattle.scope.specs.Formula.{variables, hard_of, bounded_variables, bounded_hard}
use Rattle.scope.specs.Operations.{Lent, limits_of}
use Rattle.scope.specs.Spelling.{SpellsProof}

-- "no variable twice": a literal whose variable no literal of the list has
abbrev pub Fresh : ℕ → List ℕ → Type 0
Fresh l ls = (k : ℕ) → Memᴰ k ls → k / 2 ≢ l / 2

-- "(1 is no literal); no variable twice, none above the formula's last"
pub data Literals (last : ℕ) : List ℕ → Type 0 where
  no_literal : Literals last []
  literal : {l : ℕ} {ls : List ℕ} → 2 ≤ l → l / 2 ≤ last → Fresh l ls → Literals last ls → Literals last (l ∷ ls)

-- "an id above every earlier id, literals"
pub data WellFormed (last highest : ℕ) : Step → Type 0 where
  add_form : {id : ℕ} {ls hs : List ℕ} → highest < id → Literals last ls → WellFormed last highest (add id ls hs)
  delete_form : {ids : List ℕ} → WellFormed last highest (delete ids)

-- where the literals of τ are set true: every literal of a clause is false; a literal is open
abbrev pub AllFalse : List ℕ → List ℕ → Type 0
AllFalse τ c = (l : ℕ) → Memᴰ l c → Memᴰ (opp l) τ

abbrev pub Open : List ℕ → ℕ → Type 0
Open τ k = (Memᴰ k τ → ⊥) × (Memᴰ (opp k) τ → ⊥)

-- "each hint in turn is a live clause with exactly one open literal, no true one, which is then set true; the last hint, and
-- no earlier one, has all literals false"
pub data Hinted (L : Live) : List ℕ → List ℕ → Type 0 where
  conflict : {τ c : List ℕ} {h : ℕ} → L h ≡ some c → AllFalse τ c → Hinted L τ (h ∷ [])
  implied : {τ xs ys hs : List ℕ} {h k : ℕ} → L h ≡ some (xs ++ k ∷ ys) → AllFalse τ xs → Open τ k → AllFalse τ ys
      → Hinted L (k ∷ τ) hs → Hinted L τ (h ∷ hs)

-- "set each literal of the new clause false"
abbrev pub Follows : Live → List ℕ → List ℕ → Type 0
Follows L c hs = Hinted L (map opp c) hs

-- the live clauses with another state at one id
pub record Differs (id : ℕ) (L L' : Live) : Type 0 where
  pub elsewhere : (j : ℕ) → j ≢ id → L' j ≡ L j

-- "A step d makes each of its ids dead in turn, so one named twice isn't live the second time."
pub data Deletes : Live → List ℕ → Live → Type 0 where
  no_id : {L : Live} → Deletes L [] L
  one_id : {L L' L'' : Live} {d : ℕ} {c ds : List ℕ} → L d ≡ some c → L' d ≡ none → Differs d L L' → Deletes L' ds L''
      → Deletes L (d ∷ ds) L''

-- "A step a whose clause follows makes that clause live under its id. Unless empty, the clause uses a word for each literal and
-- one row; it fits if no more are then used than were lent. .. Each step counts one."
pub record Adds (lim : Limits) (st : State) (id : ℕ) (c hs : List ℕ) (st' : State) : Type 0 where
  pub follows : Follows st.live c hs
  pub live : st'.live id ≡ some c
  pub others : Differs id st.live st'.live
  pub highest : st'.highest ≡ id
  pub words : st'.words_used ≡ st.words_used + length c
  pub rows : st'.rows_used ≡ st.rows_used + 1
  pub word_room : st'.words_used ≤ lim.words_lent
  pub row_room : st'.rows_used ≤ lim.rows_lent
  pub steps : st'.steps ≡ st.steps + 1

-- a step d changes only what is live, and counts one
pub record Drops (st : State) (ids : List ℕ) (st' : State) : Type 0 where
  pub live : Deletes st.live ids st'.live
  pub highest : st'.highest ≡ st.highest
  pub words : st'.words_used ≡ st.words_used
  pub rows : st'.rows_used ≡ st.rows_used
  pub steps : st'.steps ≡ st.steps + 1

-- what a step that adds no empty clause leaves
pub data Leaves (lim : Limits) (st : State) : Step → State → Type 0 where
  added : {id l : ℕ} {ls hs : List ℕ} {st' : State} → Adds lim st id (l ∷ ls) hs st' → Leaves lim st (add id (l ∷ ls) hs) st'
  dropped : {ids : List ℕ} {st' : State} → Drops st ids st' → Leaves lim st (delete ids) st'

-- "each step taken on what the one before it left .. The last step, and no earlier one, adds the empty clause."
pub data Refutes (lim : Limits) : State → List Step → Type 0 where
  final : {st : State} {id : ℕ} {hs : List ℕ} → WellFormed lim.last_variable st.highest (add id [] hs)
      → Follows st.live [] hs → Refutes lim st (add id [] hs ∷ [])
  onward : {st st' : State} {s : Step} {ss : List Step} → WellFormed lim.last_variable st.highest s → Leaves lim st s st'
      → Refutes lim st' ss → Refutes lim st (s ∷ ss)

-- "It starts with the formula alone live, its words and rows used, its last id the highest, no step counted."
pub record Starts (f : List (List ℕ)) (st : State) : Type 0 where
  pub live : (n : ℕ) → n < length f → st.live (n + 1) ≡ some (get_or f n [])
  pub no_zero : st.live 0 ≡ none
  pub alone : (n : ℕ) → length f < n → st.live n ≡ none
  pub highest : st.highest ≡ length f
  pub words : st.words_used ≡ length (flat_map (λ c. c) f)
  pub rows : st.rows_used ≡ length f
  pub steps : st.steps ≡ 0

-- a formula f with variables up to the last is refuted by a proof of n steps
pub record Refuted (last : ℕ) (f : List (List ℕ)) (proof : List ℕ) (l : Lent) (n : ℕ) : Type 0 where
  -- "the formula keep[s] document 01's sizes, and the formula fits the stores"
  pub size : last ≤ 8000000
  pub word_room : length (flat_map (λ c. c) f) ≤ l.words
  pub row_room : length f ≤ l.rows
  pub byte_room : last ≤ l.bytes
  -- "The proof is a list of well-formed steps and nothing else. From the formula alone as live clauses, .."
  pub steps : List Step
  pub spelt : SpellsProof steps proof
  pub first : State
  pub starts : Starts f first
  pub refutes : Refutes (limits_of last l) first steps
  pub counted : length steps ≡ n

-- "that answer comes exactly when all of this is so": of a check at a bound
pub record NoTimetable (i : Instance) (B : ℕ) (proof : List ℕ) (l : Lent) (n : ℕ) : Type 0 where
  -- "The bound asked for .. keep[s] document 01's sizes"
  pub bound : B ≤ 4095
  pub refuted : Refuted (bounded_variables i B) (bounded_hard i B) proof l n

-- and of a check without the tail
abbrev pub NoneAtAll : Instance → List ℕ → Lent → ℕ → Type 0
NoneAtAll i = Refuted (variables i) (hard_of i)
