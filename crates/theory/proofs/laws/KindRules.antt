-- The rules of an accepted instance: their bounds are within their lists, and their atoms speak of events, resources and
-- times that there are.
use mathlib.Core.Path.{◌≡◌, refl}
use mathlib.Core.Bool.{Bool, true, false, cond}
use mathlib.Core.List.{List, [], ◌∷◌, ◌++◌, map}
use Prim.Native.Nat.{ℕ, suc, ◌+◌, ◌≤◌, max}
use native.Mathlib.Omega.{arith}
use lib.ListN.{length, length-map}
use Rattle.laws.specs.Lists.{All, All-append, All-weaken, All-map, All-flatMap}
use Rattle.scope.specs.Kinds.{Event, Kind, clash, unavailable, preferred, split, spread, busy, cluster, idle, distribute, lengths, precedence, Constraint, Atom, Y, S, X, Entry, atom, any_of, Listed, entries, entries_members, Counted, Rule, rule, between, limit, up_to, member, users_from, users, duration_of, from_outside, group_at, uses_at, takes_at, starts_at, gaps_after, gaps, counted_of, rules_of, of_length, of_length_outside, gap_outside, longest}
use Rattle.scope.specs.Instance.{Instance, counts_of}
use Rattle.scope.specs.Score.{event_count, rules}
use Rattle.scope.specs.Formula.{duration_rules, constraint_rules, all_rules}
use Rattle.theory.specs.Accepted.{Within, ValidEvent, InRange as ValidFields, counted, ValidConstraint, ValidInstance}
use Rattle.theory.proofs.laws.Accepted.{ascending-within, group-within}
use Rattle.theory.proofs.laws.Ranges.{length_from_lem, from_all}
use Rattle.theory.proofs.laws.Nodes.{ListKnown, Atoms, length-members, entries_known}
use Rattle.theory.proofs.laws.TimeByTime.{of_length_known, outside_known}
use Rattle.theory.proofs.laws.ReachLists.{from_outside_known}
use Rattle.theory.proofs.laws.GapLists.{gap_known}
use Rattle.theory.proofs.laws.Rules.{ValidRule, ValidRule-weaken}

-- an atom of an event, a resource and a time that there are
abbrev pub InRange : Instance → Atom → Type 0
InRange i (Y e t) = Within 1 (length i.events) e × Within 1 i.times t
InRange i (S e t) = Within 1 (length i.events) e × Within 1 i.times t
InRange i (X r t) = Within 1 i.resources r × Within 1 i.times t

-- all times, and all events
pub times_within : (i : Instance) → All (Within 1 i.times) (up_to i.times)
times_within i = from_all (Within 1 i.times) 1 i.times (λ t a b. record { low = a; high = omega arith })

pub events-within : (i : Instance) → All (Within 1 (length i.events)) (up_to (event_count i))
events-within i = from_all _ 1 (event_count i) (λ e a b. record { low = a; high = omega arith })

-- the numbers of the events that use a resource
users-from : (r b e n : ℕ) (vs : List Event) → b ≤ e → e + length vs ≤ suc n → All (Within b n) (users_from r e vs)
unfolding users_from
users-from r b e n [] l h = tt
users-from r b e n (v ∷ vs) l h = go (member r v.resources) (users-from r b (suc e) n vs (omega arith) (omega arith))
  where
    go : (m : Bool) → All (Within b n) (users_from r (suc e) vs)
        → All (Within b n) (cond m (e ∷ users_from r (suc e) vs) (users_from r (suc e) vs))
    go true a = (record { low = l; high = omega arith }, a)
    go false a = a

pub users-within : (i : Instance) (r : ℕ) → All (Within 1 (length i.events)) (users r i.events)
users-within i r = users-from r 1 1 (length i.events) i.events (omega arith) (omega arith)

gaps_after-atoms : (P : Atom → Type 0) (before xs : List Atom) → All P before → All P xs → All (Atoms P) (gaps_after before xs)
unfolding gaps_after
gaps_after-atoms P before [] a b = tt
gaps_after-atoms P before (x ∷ []) a b = tt
gaps_after-atoms P before (x ∷ y ∷ ys) a b =
    ((a, b.0, b.1), gaps_after-atoms P (before ++ x ∷ []) (y ∷ ys) (All-append P before (x ∷ []) a (b.0, tt)) b.1)

gaps-atoms : (P : Atom → Type 0) (xs : List Atom) → All P xs → All (Atoms P) (gaps xs)
unfolding gaps
gaps-atoms P [] h = tt
gaps-atoms P (x ∷ xs) h = gaps_after-atoms P (x ∷ []) xs (h.0, tt) h.1

-- a list, with bounds as the reader checks them
list-valid : (P : Atom → Type 0) (c : Counted) (l : Listed) → c.lo ≤ c.hi → c.lo ≤ length l.members → ListKnown P l
    → ValidRule P (rule c l)
list-valid P c l a b h = record { order = omega arith; reach = omega arith; atoms = h }

-- a kind with one list
abbrev OneList : (Atom → Type 0) → Counted → Listed → Type 0
OneList P c l = c.lo ≤ c.hi → c.lo ≤ max (length l.members) 0 → All (ValidRule P) (rule c l ∷ [])

one_list : (P : Atom → Type 0) (c : Counted) (l : Listed) → ListKnown P l → OneList P c l
one_list P c l h a b = (list-valid P c l a (omega arith) h, tt)

-- one of entries
one-valid : (P : Atom → Type 0) (c : Counted) (l : List Entry) → All (Atoms P) l → OneList P c (entries l)
one-valid P c l h = one_list P c (entries l) (entries_known P l h)

module _ (i : Instance) (v : ValidInstance i) where
  -- X at the members of a group, and of each of some groups
  group_range : (r g : ℕ) → Within 1 i.resources r → Within 1 (length i.groups) g
      → All (InRange i) (uses_at r (group_at i.groups g))
  group_range r g a b = All-map _ (InRange i) (λ t. X r t) (λ t w. (a, w)) (group_at i.groups g) (group-within i v g b)

  group_atoms : (r g : ℕ) → Within 1 i.resources r → Within 1 (length i.groups) g
      → All (Atoms (InRange i)) (map atom (uses_at r (group_at i.groups g)))
  group_atoms r g a b =
      All-map (InRange i) (Atoms (InRange i)) atom (λ x h. h) (uses_at r (group_at i.groups g)) (group_range r g a b)

  clash_valid : (c : Counted) (us : List ℕ) → c.lo ≡ 0 → All (Within 1 (length i.events)) us
      → All (ValidRule (InRange i)) (map (rule c) (map (λ t. entries (map (λ e. atom (Y e t)) us)) (up_to i.times)))
  clash_valid c us z h =
      All-map _ (ValidRule (InRange i)) (rule c)
      (λ l k. list-valid (InRange i) c l (omega arith) (omega arith) k)
      (map (λ t. entries (map (λ e. atom (Y e t)) us)) (up_to i.times))
      (All-map _ (ListKnown (InRange i)) (λ t. entries (map (λ e. atom (Y e t)) us))
      (λ t w.
      entries_known (InRange i) (map (λ e. atom (Y e t)) us)
      (All-map _ (Atoms (InRange i)) (λ e. atom (Y e t)) (λ e x. (x, w)) us h)) (up_to i.times) (times_within i))

  abbrev counted_in : Kind → Counted
  counted_in k = counted i.times i.events i.groups k

  kind_valid : (k : Kind) → ValidFields (counts_of i.times i.resources i.events i.groups) k
      → (counted_in k).lo ≤ (counted_in k).hi → (counted_in k).lo ≤ longest (counted_in k).lists
      → All (ValidRule (InRange i)) (rules_of i.times (duration_of i.events) (λ r. users r i.events) (group_at i.groups) k)
  unfolding counted_of longest
  kind_valid (clash r) f a b = clash_valid (between 0 1 []) (users r i.events) refl (users-within i r)
  kind_valid (unavailable r g) f a b = one-valid (InRange i) (between 0 0 []) _ (group_atoms r g f.0 f.1) a b
  kind_valid (preferred e g) f a b =
      one_list (InRange i) (between 0 0 []) (from_outside i.times e (duration_of i.events e) (group_at i.groups g))
      (from_outside_known (InRange i) e i.times (duration_of i.events e) (group_at i.groups g) (λ t w. (f.0, w)) (λ t w. (f.0, w))) a b
  kind_valid (split e lo hi) f a b =
      one-valid (InRange i) (between lo hi []) _
      (All-map _ (Atoms (InRange i)) (λ t. atom (S e t)) (λ t w. (f.0, w)) (up_to i.times) (times_within i)) a b
  kind_valid (spread vs g lo hi) f a b =
      let P = Atoms (InRange i) in
      let ts = group_at i.groups g in
      let times = group-within i v g f.1 in
      one-valid (InRange i) (between lo hi []) _
      (All-flatMap _ P (λ e. starts_at e ts) (λ e x. All-map _ P (λ t. atom (S e t)) (λ t w. (x, w)) ts times) vs
      (ascending-within 0 (length i.events) vs f.0)) a b
  kind_valid (busy r g lo hi) f a b = one-valid (InRange i) (limit lo hi []) _ (group_atoms r g f.0 f.1) a b
  kind_valid (cluster r hs lo hi) f a b =
      one-valid (InRange i) (between lo hi []) _
      (All-map _ (Atoms (InRange i)) (λ g. any_of (uses_at r (group_at i.groups g))) (λ g. group_range r g f.0) hs
      (ascending-within 0 (length i.groups) hs f.1)) a b
  kind_valid (idle r hs lo hi) f a b =
      let xs : ℕ → List Atom = λ g. uses_at r (group_at i.groups g) in
      one-valid (InRange i) (between lo hi []) _
      (All-flatMap _ (Atoms (InRange i)) (λ g. gaps (xs g)) (λ g w. gaps-atoms (InRange i) (xs g) (group_range r g f.0 w)) hs
      (ascending-within 0 (length i.groups) hs f.1)) a b
  kind_valid (distribute e n lo hi) f a b =
      one_list (InRange i) (between lo hi []) (of_length i.times e n)
      (of_length_known (InRange i) i.times e v.times.low (λ t w. (f.0, w)) (λ t w. (f.0, w)) n) a b
  kind_valid (lengths e m n) f a b =
      one_list (InRange i) (between 0 0 []) (of_length_outside i.times e m n)
      (outside_known (InRange i) i.times e v.times.low (λ t w. (f.0, w)) (λ t w. (f.0, w)) m n) a b
  kind_valid (precedence m n lo hi) f a b =
      one_list (InRange i) (between 0 0 []) (gap_outside i.times m n lo hi)
      (gap_known (InRange i) i.times m n lo hi (λ t w. (f.0, w)) (λ t w. (f.1, w))) a b

  durations_valid : (e : ℕ) (vs : List Event) → 1 ≤ e → e + length vs ≤ suc (length i.events)
      → All (ValidEvent i.times i.resources) vs → All (λ r. ValidRule (InRange i) r.1) (duration_rules i e vs)
  unfolding duration_rules
  durations_valid e [] l h a = tt
  durations_valid e (x ∷ xs) l h a =
      let ts = up_to i.times in
      let d = x.duration in
      let n : length (entries_members (takes_at e ts) 0) ≡ i.times = rw (length-members, length-map, length_from_lem) in
      let w : Within 1 (length i.events) e = record { low = l; high = omega arith } in
      let atoms = All-map _ (Atoms (InRange i)) (λ t. atom (Y e t)) (λ t u. (w, u)) ts (times_within i) in (
        list-valid (InRange i) (between d d []) (entries (takes_at e ts)) (omega arith) (omega (arith, n, a.0.duration.high))
            (entries_known (InRange i) (takes_at e ts) atoms),
        durations_valid (suc e) xs (omega arith) (omega arith) a.1,
      )

  constraints_valid : (cs : List Constraint) → All (ValidConstraint i.times i.resources i.events i.groups) cs
      → All (λ r. ValidRule (InRange i) r.1) (constraint_rules i cs)
  unfolding constraint_rules
  constraints_valid cs h =
      let P : ℕ × Rule → Type 0 = λ r. ValidRule (InRange i) r.1 in
      All-flatMap _ P (λ c. map (λ r. (c.weight, r)) (rules i c))
      (λ c w.
      All-map _ P (λ r. (c.weight, r)) (λ r x. x) (rules i c) (kind_valid c.kind w.fields w.bounds w.reached)) cs h

  -- the durations' rules and the constraints', for what holds of each atom in range
  pub all_rules-valid : (P : Atom → Type 0) → ((a : Atom) → InRange i a → P a) → All (λ r. ValidRule P r.1) (all_rules i)
  all_rules-valid P f =
      All-weaken _ _ (λ r. ValidRule-weaken (InRange i) P f r.1) (all_rules i)
      (All-append _ (duration_rules i 1 i.events) (constraint_rules i i.constraints)
      (durations_valid 1 i.events (omega arith) (omega arith) v.events)
      (constraints_valid i.constraints v.constraints))
