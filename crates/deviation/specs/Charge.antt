-- What each kind charges, told from the bytes of a timetable, the table of uses, the table of X and the rows of groups.
use Rattle.std.specs.Prelude.{ℕ, ◌+◌, ◌-◌, ◌*◌, ◌<◌, ◌≤◌, ◌≡◌, cond, ◌||◌, List, length, get_or, eqb, ltb}
use Rattle.scope.specs.Kinds.{Kind, clash, unavailable, preferred, split, spread, busy, cluster, idle, distribute, lengths, precedence, up_to}
use Rattle.scope.specs.Instance.{Counts}
use Rattle.scope.specs.Score.{trues, any, deviation}
use Rattle.scope.specs.Idle.{kept_after}
use Rattle.scope.specs.Gap.{gap_within}
use Rattle.parsing.specs.Numbers.{Ascending}
use Rattle.tables.specs.Rows.{row_at, RowIn}
use Rattle.timetable.specs.Bits.{marks}
use Rattle.deviation.specs.Sums.{total}
use Rattle.deviation.specs.Subevents.{subevents_at}
use Rattle.deviation.specs.Held.{times_held_at, outside_of}
use Rattle.deviation.specs.Gap.{taken_in}

-- the charge of each kind, where T is the number of times and c the number of cells
unfoldable pub clash_charge : ℕ → List ℕ → ℕ → ℕ
clash_charge T u r = total (λ t. get_or u ((r - 1) * T + (t - 1)) 0 - 1) (up_to T)

unfoldable pub unavailable_charge : ℕ → List ℕ → List ℕ → ℕ → ℕ → ℕ
unavailable_charge T x gs r g = trues (marks x ((r - 1) * T) (row_at gs (g - 1)))

unfoldable pub preferred_charge : ℕ → ℕ → List ℕ → List ℕ → (e g : ℕ) → ℕ
preferred_charge c T b gs e g = times_held_at T b ((e - 1) * T) (c + (e - 1) * T) (outside_of (row_at gs (g - 1)))

unfoldable pub split_charge : ℕ → ℕ → List ℕ → ℕ → ℕ → ℕ → ℕ
split_charge c T b e lo hi = deviation lo hi (trues (marks b (c + (e - 1) * T) (up_to T)))

unfoldable pub spread_charge : ℕ → ℕ → List ℕ → List ℕ → List ℕ → ℕ → ℕ → ℕ → ℕ
spread_charge c T b gs vs g lo hi = deviation lo hi (total (λ e. trues (marks b (c + (e - 1) * T) (row_at gs (g - 1)))) vs)

unfoldable pub busy_charge : ℕ → List ℕ → List ℕ → ℕ → ℕ → ℕ → ℕ → ℕ
busy_charge T x gs r g lo hi =
    cond (eqb (trues (marks x ((r - 1) * T) (row_at gs (g - 1)))) 0) 0
    (deviation lo hi (trues (marks x ((r - 1) * T) (row_at gs (g - 1)))))

unfoldable pub cluster_charge : ℕ → List ℕ → List ℕ → ℕ → List ℕ → ℕ → ℕ → ℕ
cluster_charge T x gs r hs lo hi = deviation lo hi (total (λ g. cond (any (marks x ((r - 1) * T) (row_at gs (g - 1)))) 1 0) hs)

unfoldable pub idle_charge : ℕ → List ℕ → List ℕ → ℕ → List ℕ → ℕ → ℕ → ℕ
idle_charge T x gs r hs lo hi = deviation lo hi (total (λ g. (kept_after (marks x ((r - 1) * T) (row_at gs (g - 1)))).idle) hs)

unfoldable pub distribute_charge : ℕ → ℕ → List ℕ → (e n lo hi : ℕ) → ℕ
distribute_charge c T b e n lo hi = deviation lo hi (subevents_at T b ((e - 1) * T) (c + (e - 1) * T) (eqb n))

unfoldable pub lengths_charge : ℕ → ℕ → List ℕ → (e shortest longest : ℕ) → ℕ
lengths_charge c T b e shortest longest = subevents_at T b ((e - 1) * T) (c + (e - 1) * T) (λ n. ltb n shortest || ltb longest n)

unfoldable pub precedence_charge : ℕ → List ℕ → (first second lo hi : ℕ) → ℕ
precedence_charge T b first second lo hi = cond (gap_within T (taken_in T b) first second lo hi) 0 1

abbrev pub charge_of : ℕ → ℕ → List ℕ → List ℕ → List ℕ → List ℕ → Kind → ℕ
charge_of c T b u x gs (clash r) = clash_charge T u r
charge_of c T b u x gs (unavailable r g) = unavailable_charge T x gs r g
charge_of c T b u x gs (preferred e g) = preferred_charge c T b gs e g
charge_of c T b u x gs (split e lo hi) = split_charge c T b e lo hi
charge_of c T b u x gs (spread vs g lo hi) = spread_charge c T b gs vs g lo hi
charge_of c T b u x gs (busy r g lo hi) = busy_charge T x gs r g lo hi
charge_of c T b u x gs (cluster r hs lo hi) = cluster_charge T x gs r hs lo hi
charge_of c T b u x gs (idle r hs lo hi) = idle_charge T x gs r hs lo hi
charge_of c T b u x gs (distribute e n lo hi) = distribute_charge c T b e n lo hi
charge_of c T b u x gs (lengths e shortest longest) = lengths_charge c T b e shortest longest
charge_of c T b u x gs (precedence first second lo hi) = precedence_charge T b first second lo hi

-- the sizes of an accepted instance; a table of 99 rows of up to 125 times; the bytes of a timetable; the rows of groups; a store
-- with a list
pub record SizesIn (n : Counts) : Type 0 where
  pub times : n.times ≤ 125
  pub events : n.events ≤ 1024
  pub resources : n.resources ≤ 99

pub record MatrixIn (n : Counts) (u : List ℕ) : Type 0 where
  pub sizes : SizesIn n
  pub room : length u ≡ 12375

pub record BytesIn (n : Counts) (b : List ℕ) : Type 0 where
  pub sizes : SizesIn n
  pub room : length b ≡ 2 * (n.events * n.times)

pub record GroupsIn (n : Counts) (gs : List ℕ) : Type 0 where
  pub rows : (g : ℕ) → g < n.groups → RowIn gs g
  pub ascending : (g : ℕ) → g < n.groups → Ascending n.times 0 (row_at gs g)

pub record ListIn (n : ℕ) (l : List ℕ) : Type 0 where
  pub room : n ≤ length l
  pub count : n ≤ 2048

-- all that the charges are told from
pub record SheetIn (n : Counts) (b u x gs : List ℕ) : Type 0 where
  pub bytes : BytesIn n b
  pub uses : MatrixIn n u
  pub used : MatrixIn n x
  pub groups : GroupsIn n gs
