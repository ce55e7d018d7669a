-- Which events of a timetable are right, told from its bytes: an event's "taken" bytes begin at an offset y, its "starts" bytes
-- as far after the slots, c. Score.antt's event_right and first_wrong come to the same.
use Rattle.std.specs.Prelude.{ℕ, zero, suc, ◌+◌, ◌*◌, ◌<◌, ◌≡◌, Bool, false, not, ◌&&◌, ◌||◌, cond, List, [], map, length, get_or, eqb}
use Rattle.std.proofs.Math.Option.{Option, none, some}
use Rattle.scope.specs.Cnf.{bit}
use Rattle.scope.specs.Kinds.{Event, up_to}
use Rattle.scope.specs.Instance.{Instance}
use Rattle.scope.specs.Score.{trues, all, slots, truth, first_wrong}
use Rattle.resource_uses.specs.Bits.{marks}

-- time t − 1 is taken
abbrev pub before_at : List ℕ → ℕ → ℕ → Bool
before_at b y zero = false
before_at b y (suc zero) = false
before_at b y (suc (suc t)) = bit b (y + suc t)

-- the start at time t is right
unfoldable pub start_at : List ℕ → ℕ → ℕ → ℕ → Bool
start_at b c y t = (not (bit b (c + (y + t))) || bit b (y + t)) && (not (bit b (y + t)) || before_at b y t || bit b (c + (y + t)))

-- an event of n times takes d of them, and its starts are right
unfoldable pub event_at : List ℕ → ℕ → ℕ → ℕ → ℕ → Bool
event_at b c y n d = eqb (trues (marks b y (up_to n))) d && all (map (start_at b c y) (up_to n))

-- the first of k events that is not right, from event e on, counted from 0; d has the durations
unfoldable pub wrong_from : List ℕ → List ℕ → ℕ → ℕ → ℕ → ℕ → Option ℕ
wrong_from b d c n e zero = none
wrong_from b d c n e (suc k) = cond (event_at b c (e * n) n (get_or d e 0)) (wrong_from b d c n (suc e) k) (some (suc e))

-- no event
abbrev pub no_event : Event
no_event = record { duration = 0; resources = [] }

-- an instance has so many times and events, and the durations d
pub record Lasts (i : Instance) (T n : ℕ) (d : List ℕ) : Type 0 where
  pub times : i.times ≡ T
  pub count : length i.events ≡ n
  pub durations : (k : ℕ) → k < n → (get_or i.events k no_event).duration ≡ get_or d k 0

-- bytes pass refusals 10 and 12 for an instance
pub record Passed (i : Instance) (b : List ℕ) : Type 0 where
  pub size : length b ≡ 2 * slots i
  pub right : first_wrong i (truth i b) 1 i.events ≡ none
