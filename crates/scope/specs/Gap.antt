-- The gap between two events (order 4): the times between the last time of the first and the first time of the second.
use Rattle.std.specs.Prelude.{Bool, cond, ◌&&◌, List, [], ◌∷◌, ℕ, ◌+◌, ◌-◌, leb, length, get_or}
use Rattle.scope.specs.Kinds.{Atom, Y, up_to}

-- where τ says which atoms are true: those of some times that event e takes
unfoldable pub taken_among : (τ : Atom → Bool) (e : ℕ) → List ℕ → List ℕ
taken_among τ e [] = []
taken_among τ e (t ∷ ts) = cond (τ (Y e t)) (t ∷ taken_among τ e ts) (taken_among τ e ts)

module _ (T : ℕ) (τ : Atom → Bool) where
  -- all its times of T, over all its subevents, ascending
  abbrev pub times_taken : (e : ℕ) → List ℕ
  times_taken e = taken_among τ e (up_to T)

  -- the first of them, and the last
  abbrev pub first_time : (e : ℕ) → ℕ
  first_time e = get_or (times_taken e) 0 0

  abbrev pub last_time : (e : ℕ) → ℕ
  last_time e = get_or (times_taken e) (length (times_taken e) - 1) 0

  -- "the gap is the second event's first time, less the first event's last time, less 1": whether it is lo or more, and so not
  -- negative, and hi or less
  unfoldable pub gap_within : (a b lo hi : ℕ) → Bool
  gap_within a b lo hi = leb (last_time a + 1 + lo) (first_time b) && leb (first_time b) (last_time a + 1 + hi)
