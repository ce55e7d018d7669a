-- What an accepted instance satisfies: every limit, reference and list that the reader checks.
use Rattle.std.specs.Prelude.{◌≡◌, true, List, ℕ, ◌≤◌, length}
use Rattle.laws.specs.Lists.{All}
use Rattle.scope.specs.Kinds.{Event, Kind, Constraint, Counted, duration_of, users, group_at, counted_of, longest}
use Rattle.scope.specs.Instance.{Instance, counts_of, distinct, ordered}
use Rattle.parsing.specs.Numbers.{Ascending}
pub use Rattle.parsing.specs.Valid.{Within, InRange}

pub record ValidEvent (T R : ℕ) (v : Event) : Type 0 where
  pub duration : Within 1 T v.duration
  pub resources : Ascending R 0 v.resources

-- what a kind counts in an instance
abbrev pub counted : ℕ → List Event → List (List ℕ) → Kind → Counted
counted T es gs k = counted_of T (duration_of es) (λ r. users r es) (group_at gs) k

pub record ValidConstraint (T R : ℕ) (es : List Event) (gs : List (List ℕ)) (c : Constraint) : Type 0 where
  pub weight : Within 0 1000 c.weight
  pub fields : InRange (counts_of T R es gs) c.kind
  -- of kind 11: its events are two; of kind 10: its shortest length is at most its longest; of kind 11: its lo is at most its hi
  pub distinct : distinct c.kind ≡ true
  pub ordered : ordered c.kind ≡ true
  -- its counted lists have up to 255 members, its lo is at most its hi as written and at most their length
  pub lists : longest (counted T es gs c.kind).lists ≤ 255
  pub bounds : (counted T es gs c.kind).lo ≤ (counted T es gs c.kind).hi
  pub reached : (counted T es gs c.kind).lo ≤ longest (counted T es gs c.kind).lists

pub record ValidInstance (i : Instance) : Type 0 where
  pub times : Within 1 125 i.times
  pub event-count : Within 1 1024 (length i.events)
  pub resources : Within 0 99 i.resources
  pub events : All (ValidEvent i.times i.resources) i.events
  pub group_count : Within 0 2048 (length i.groups)
  pub groups : All (Ascending i.times 0) i.groups
  pub constraint_count : Within 0 4096 (length i.constraints)
  pub constraints : All (ValidConstraint i.times i.resources i.events i.groups) i.constraints
