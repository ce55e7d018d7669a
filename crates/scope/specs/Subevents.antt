-- The subevents of an event: their lengths, how many have such a length, and which times they hold.
use Rattle.std.specs.Prelude.{Bool, false, not, cond, ◌&&◌, ◌||◌, map, ℕ, zero, suc, ◌+◌, ◌-◌, leb}
use Rattle.scope.specs.Kinds.{Atom, Y, S, up_to}
use Rattle.scope.specs.Score.{trues}

-- of event e in T times, where τ says which atoms are true
module _ (T : ℕ) (τ : Atom → Bool) (e : ℕ) where
  -- "time T + 1 counts as not taken"
  abbrev pub taken : ℕ → Bool
  taken t = leb t T && τ (Y e t)

  -- how many of k times from t on stand before the next that "is not taken or is a start"
  unfoldable pub before : ℕ → ℕ → ℕ
  before t zero = 0
  before t (suc k) = cond (not (taken t) || τ (S e t)) 0 (suc (before (suc t) k))

  -- "A subevent's length runs from its start to before the next time that is not taken or is a start": the start, and what
  -- stands before that time among those up to T + 1
  abbrev pub length_from : ℕ → ℕ
  length_from t = suc (before (suc t) (T + 1 - t))

  -- how many starts have a subevent of such a length
  unfoldable pub subevents : (ℕ → Bool) → ℕ
  subevents such = trues (map (λ t. τ (S e t) && such (length_from t)) (up_to T))

  -- whether a subevent that starts at such a time holds time t: t is taken, and it starts there or, where t is no start, it holds
  -- the time before
  unfoldable pub held_from : (ℕ → Bool) → ℕ → Bool
  held_from such zero = false
  held_from such (suc t) = taken (suc t) && cond (τ (S e (suc t))) (such (suc t)) (held_from such t)

  -- "over all times, those held by a subevent that starts" at such a time
  unfoldable pub times_held : (ℕ → Bool) → ℕ
  times_held such = trues (map (held_from such) (up_to T))

  -- the whole lengths of the subevents that start at such times, summed over so many times from t on
  unfoldable pub lengths_from : (ℕ → Bool) → ℕ → ℕ → ℕ
  lengths_from such t zero = 0
  lengths_from such t (suc k) = cond (τ (S e t) && such t) (length_from t) 0 + lengths_from such (suc t) k
