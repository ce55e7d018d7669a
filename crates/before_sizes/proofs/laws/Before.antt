-- The size of what stands before the constraints, by the tables: laws.
use Prim.Native.Nat.{ℕ, suc, ◌+◌, ◌-◌, ◌*◌, ◌≤◌, ◌<◌}
use mathlib.Core.Path.{◌≡◌, sym, ◌∙◌}
use mathlib.Core.Bool.{false}
use mathlib.Core.List.{List, [], ◌∷◌, ◌++◌}
use native.Mathlib.Omega.{arith}
use native.Mathlib.Numerals.{add-one}
use lib.ListN.{length, get_or}
use Rattle.scope.specs.Kinds.{Event, from, up_to, users}
use Rattle.tables.specs.Rows.{row_at, events_of}
use Rattle.constraint.specs.declared.kinds.Head.{Head}
use Rattle.sizing.specs.declared.Size.{Size}
use Rattle.sizing.specs.Sums.{none, sum, Within}
use Rattle.sizing.proofs.laws.Sums.{within_more, within-sum, within-multiple, sum-none, none-sum, sum-assoc}
use Rattle.sizing.specs.Gates.{or_size}
use Rattle.sizing.specs.Counts.{list_size}
use Rattle.sizing.specs.Blocks.{starts_size, use_size}
use Rattle.sizing.proofs.laws.Limits.{or-within, list-within, starts-within}
use Rattle.measuring.specs.Blocks.{uses_size, durations_size}
use Rattle.before_sizes.specs.Before.{blocks_size, Users}

-- one resource more
use-within : (T n : ℕ) → T ≤ 125 → n ≤ 1024 → Within 384125 (use_size T n)
unfolding use_size
use-within T n h k = within_more (omega arith) (within-multiple T 3073 (or_size n) (or-within n k))

pub uses-sum-within : (i T n : ℕ) {acc one : Size} → Within (i * 384125) acc → T ≤ 125 → n ≤ 1024 → one ≡ use_size T n
    → Within ((i + 1) * 384125) (sum acc one)
uses-sum-within i T n {acc} {one} w h k e =
    within_more (omega arith) (within-sum (i * 384125) 384125 acc one w (rw e (use-within T n h k)))

pub uses_start : (T R : ℕ) (es : List Event) → uses_size T es (up_to R) ≡ sum none (uses_size T es (from 1 (R - 0)))
uses_start T R es = let k : R - 0 ≡ R = omega arith in rw k (sym (none-sum _))

-- X of those from i + 1 on, for a table of the users of some events
module _ (table : List ℕ) (T R i : ℕ) (es : List Event) (u : Users table es) where
  pub uses_more : (acc : Size) {one r : Size} → i < R → one ≡ use_size T (get_or table ((i + 1) * 1025) 0) → r ≡ sum acc one
      → uses_size T es (up_to R) ≡ sum acc (uses_size T es (from (suc i) (R - i)))
      → uses_size T es (up_to R) ≡ sum r (uses_size T es (from (suc (i + 1)) (R - (i + 1))))
  unfolding uses_size from
  uses_more acc {one} {r} h e f inv =
      let k : R - i ≡ suc (R - (i + 1)) = omega arith in
      let s : i + 1 ≡ suc i = add-one i in
      let rest = uses_size T es (from (suc (suc i)) (R - suc i)) in
      let e' : one ≡ use_size T (length (users (suc i) es)) = rw (u.each (i + 1), s) at e in
      inv ∙ rw (k, ← e', ← sum-assoc acc one, ← f, s)

  pub uses_end : {acc : Size} → R ≤ i → uses_size T es (up_to R) ≡ sum acc (uses_size T es (from (suc i) (R - i)))
      → acc ≡ uses_size T es (up_to R)
  unfolding uses_size from
  uses_end {acc} h inv = let k : R - i ≡ 0 = omega arith in sym (inv ∙ rw k (sum-none acc))

-- one event more
pub durations-sum-within : (e T d : ℕ) {acc one : Size} → Within (e * 1225275) acc → T ≤ 125 → d ≤ T → one ≡ list_size 0 d d false T
    → Within ((e + 1) * 1225275) (sum acc one)
durations-sum-within e T d {acc} {one} w h k f =
    within_more (omega arith)
    (within-sum (e * 1225275) 1225275 acc one w (rw f (list-within 0 d d false T (omega arith) (omega arith) (omega arith))))

durations-last : (T : ℕ) (xs : List Event) (v : Event)
    → durations_size T (xs ++ (v ∷ [])) ≡ sum (durations_size T xs) (list_size 0 v.duration v.duration false T)
unfolding durations_size
durations-last T [] v = sum-none (list_size 0 v.duration v.duration false T) ∙ sym (none-sum _)
durations-last T (x ∷ xs) v = rw (durations-last T xs v) (sym (sum-assoc _ _ _))

pub durations-more : (T : ℕ) (d t : List ℕ) (e : ℕ) {acc one r : Size} → acc ≡ durations_size T (events_of d t e)
    → one ≡ list_size 0 (get_or d e 0) (get_or d e 0) false T → r ≡ sum acc one
    → r ≡ durations_size T (events_of d t (e + 1))
unfolding events_of
durations-more T d t e f g q =
    let v : Event = record { duration = get_or d e 0; resources = row_at t e } in
    rw (add-one e, durations-last T (events_of d t e) v, q, f, g)

-- uses and durations together, and after the starts
pub rest-within : (R E : ℕ) {uses durations rest : Size} → R ≤ 99 → E ≤ 1024 → Within (R * 384125) uses
    → Within (E * 1225275) durations → rest ≡ sum uses durations → Within 1300000000 rest
rest-within R E {uses} {durations} {rest} h k u d e =
    rw e (within_more (omega arith) (within-sum (R * 384125) (E * 1225275) uses durations u d))

pub blocks-within : (E T : ℕ) {starts rest r : Size} → E ≤ 1024 → T ≤ 125 → starts ≡ starts_size E T → Within 1300000000 rest
    → r ≡ sum starts rest → Within 2147483648 r
blocks-within E T {starts} {rest} {r} h k e w f =
    rw f (within_more (omega arith) (within-sum 640000 1300000000 starts rest (rw e (starts-within E T h k)) w))

pub blocks-size : (h : Head) (es : List Event) {starts uses durations rest r : Size} → starts ≡ starts_size h.events h.times
    → uses ≡ uses_size h.times es (up_to h.resources) → durations ≡ durations_size h.times es
    → rest ≡ sum uses durations → r ≡ sum starts rest → r ≡ blocks_size h es
unfolding blocks_size
blocks-size h es a b d e q = cc
