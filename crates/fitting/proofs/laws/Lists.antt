-- The counted lists of a kind: one list, or a list for each time. From this alone: how many they are, how many nodes they have,
-- that they are alike, and that each has lo members where the longest has.
use mathlib.Core.Path.{◌≡◌, refl, ◌∙◌}
use mathlib.Core.List.{List, [], ◌∷◌, map}
use Prim.Native.Nat.{ℕ, ◌+◌, ◌-◌, ◌*◌, ◌≤◌}
use native.Mathlib.Nat.{mul-le-mul_left}
use native.Mathlib.Omega.{arith}
use lib.ListN.{length, length-append, length-map}
use Rattle.scope.specs.Kinds.{Kind, clash, unavailable, preferred, split, spread, busy, cluster, idle, distribute, lengths, precedence, Y, Entry, atom, any_of, gap, is, a_node, Node, entry_nodes, added, entries_nodes, entries_members, Listed, entries, Counted, up_to, reached, from_outside, start_of, start_above, start_outside, time_by_time, of_length, of_length_outside, gap_outside, counted_of, longest}
use Rattle.parsing.specs.Each.{Each, each_none, each_more}
use Rattle.theory.proofs.laws.Ranges.{length_from_lem}
use Rattle.theory.proofs.laws.ReachLists.{length-reach-nodes, length-reach-members}
use Rattle.theory.proofs.laws.GapLists.{length-gap-nodes, length-gap-member}
use Rattle.theory.proofs.laws.TimeByTime.{length-timed, length-timed-nodes, outside-either}
use Rattle.list_nodes.specs.Stored.{Short}

-- a list that has at most four nodes for each member and for each of T times, and one more
pub record Small (T : ℕ) (l : Listed) : Type 0 where
  pub few : length l.nodes ≤ 4 * (length l.members + T) + 1

entry-few : (x : Entry) (k : ℕ) → length (entry_nodes x k) ≤ 3
entry-few (atom a) k = omega arith
entry-few (any_of xs) k = omega arith
entry-few (gap earlier here later) k = omega arith

entries-few : (xs : List Entry) (k : ℕ) → length (entries_nodes xs k) ≤ 3 * length (entries_members xs k)
unfolding entries_nodes entries_members
entries-few [] k = omega arith
entries-few (x ∷ xs) k =
    omega (
      arith,
      length-append (entry_nodes x k) (entries_nodes xs (k + added x)),
      entry-few x k,
      entries-few xs (k + added x),
    )

entries-small : (T : ℕ) (xs : List Entry) → Small T (entries xs)
entries-small T xs = record { few = omega (arith, entries-few xs 0) }

-- up to three nodes for each member
reach-small : (T e d : ℕ) (g : List ℕ) → Small T (from_outside T e d g)
unfolding from_outside
reach-small T e d g =
    let xs = reached d g 0 (up_to T) in
    record { few = omega (arith, length-reach-nodes e xs 0 (is (a_node 0)), length-reach-members e xs 0) }

-- up to three nodes for each time after a first one for each
timed-small : (T e s : ℕ) (f : ℕ → List Node) → ((t : ℕ) → length (f t) ≡ s) → s ≤ 3 → Small T (time_by_time T e s f)
timed-small T e s f rows h =
    record { few = omega (arith, length-timed-nodes T e s f rows, length-timed T e s f, mul-le-mul_left T h) }

of-small : (T e n : ℕ) → Small T (of_length T e n)
unfolding of_length
of-small T e n = timed-small T e 1 (start_of T e n) (λ t. refl) (omega arith)

outside-small : (T e a b : ℕ) → Small T (of_length_outside T e a b)
outside-small T e a b =
    outside-either (Small T) T e a b (timed-small T e 1 (start_above T e b) (λ t. refl) (omega arith))
    (timed-small T e 3 (λ t. start_outside T e a b (T + 3 * (t - 1)) t) (λ t. refl) (omega arith))

-- up to four nodes for each time
gap-small : (T a b lo hi : ℕ) → Small T (gap_outside T a b lo hi)
gap-small T a b lo hi = record { few = omega (arith, length-gap-nodes T a b lo hi, length-gap-member T a b lo hi) }

-- the list of time t: Y of some events
abbrev time_list : List ℕ → ℕ → Listed
time_list us t = entries (map (λ e. atom (Y e t)) us)

-- one list with few nodes, or a list for each of T times, and then lo is 0
pub data Shape (T : ℕ) (c : Counted) : Type 0 where
  one_list : (l : Listed) → Small T l → c.lists ≡ l ∷ [] → Shape T c
  time_lists : (us : List ℕ) → c.lists ≡ map (time_list us) (up_to T) → c.lo ≡ 0 → Shape T c

-- that of each kind
pub lists-shape : (T : ℕ) (dur : ℕ → ℕ) (us group : ℕ → List ℕ) (k : Kind) → Shape T (counted_of T dur us group k)
unfolding counted_of
lists-shape T dur us group (clash r) = time_lists (us r) refl refl
lists-shape T dur us group (unavailable r g) = one_list _ (entries-small T _) refl
lists-shape T dur us group (preferred e g) = one_list _ (reach-small T e (dur e) (group g)) refl
lists-shape T dur us group (split e lo hi) = one_list _ (entries-small T _) refl
lists-shape T dur us group (spread vs g lo hi) = one_list _ (entries-small T _) refl
lists-shape T dur us group (busy r g lo hi) = one_list _ (entries-small T _) refl
lists-shape T dur us group (cluster r hs lo hi) = one_list _ (entries-small T _) refl
lists-shape T dur us group (idle r hs lo hi) = one_list _ (entries-small T _) refl
lists-shape T dur us group (distribute e n lo hi) = one_list _ (of-small T e n) refl
lists-shape T dur us group (lengths e a b) = one_list _ (outside-small T e a b) refl
lists-shape T dur us group (precedence a b lo hi) = one_list _ (gap-small T a b lo hi) refl

each_of : {A : Type 0} {P : A → Type 0} (f : ℕ → A) → ((t : ℕ) → P (f t)) → (ts : List ℕ) → Each P (map f ts)
each_of f p [] = each_none
each_of f p (t ∷ ts) = each_more {x = f t} (p t) (each_of f p ts)

-- a counted list has at least lo members
pub record Reached (lo : ℕ) (l : Listed) : Type 0 where
  pub low : lo ≤ length l.members

one-reached : {lo : ℕ} (l : Listed) → lo ≤ longest (l ∷ []) → Each (Reached lo) (l ∷ [])
unfolding longest
one-reached l h = each_more {x = l} (record { low = omega arith }) each_none

-- a list with these nodes and so many members, and lists that all have the same
pub record Like (ns : List Node) (n : ℕ) (l : Listed) : Type 0 where
  pub nodes : l.nodes ≡ ns
  pub members : length l.members ≡ n

pub record Alike (ls : List Listed) : Type 0 where
  pub nodes : List Node
  pub count : ℕ
  pub each : Each (Like nodes count) ls

atoms-nodes : (us : List ℕ) (t k : ℕ) → entries_nodes (map (λ e. atom (Y e t)) us) k ≡ []
unfolding entries_nodes
atoms-nodes [] t k = refl
atoms-nodes (u ∷ us) t k = atoms-nodes us t _

atoms-members : (us : List ℕ) (t k : ℕ) → length (entries_members (map (λ e. atom (Y e t)) us) k) ≡ length us
unfolding entries_members
atoms-members [] t k = refl
atoms-members (u ∷ us) t k = omega (arith, atoms-members us t (k + added (atom (Y u t))))

time-like : (us : List ℕ) (t : ℕ) → Like [] (length us) (time_list us t)
time-like us t = record { nodes = atoms-nodes us t 0; members = atoms-members us t 0 }

time-count : (T : ℕ) (us : List ℕ) → length (map (time_list us) (up_to T)) ≡ T
time-count T us = length-map (up_to T) (time_list us) ∙ length_from_lem 1 T

module _ {T : ℕ} {c : Counted} where
  -- at most one for each time, and at least one
  pub lists_few : Shape T c → 1 ≤ T → length c.lists ≤ T
  lists_few (one_list l m e) h = rw e (omega arith)
  lists_few (time_lists us e z) h = rw e (omega (arith, time-count T us))

  pub lists_some : Shape T c → 1 ≤ T → 1 ≤ length c.lists
  lists_some (one_list l m e) h = rw e (omega arith)
  lists_some (time_lists us e z) h = rw e (omega (arith, time-count T us))

  pub lists_reached : Shape T c → c.lo ≤ longest c.lists → Each (Reached c.lo) c.lists
  lists_reached (one_list l m e) h = rw e (one-reached l (rw e at h))
  lists_reached (time_lists us e z) h = rw (e, z) (each_of (time_list us) (λ t. record { low = omega arith }) (up_to T))

  pub lists_small : Shape T c → Each (Small T) c.lists
  lists_small (one_list l m e) = rw e (each_more {x = l} m each_none)
  lists_small (time_lists us e z) = rw e (each_of (time_list us) (λ t. entries-small T (map (λ e. atom (Y e t)) us)) (up_to T))

  pub lists_alike : Shape T c → Alike c.lists
  lists_alike (one_list l m e) =
      record {
        nodes = l.nodes;
        count = length l.members;
        each = rw e (each_more {x = l} (record { nodes = refl; members = refl }) each_none);
      }
  lists_alike (time_lists us e z) =
      record { nodes = []; count = length us; each = rw e (each_of (time_list us) (time-like us) (up_to T)) }

-- short lists
pub short-lists : (c : Counted) (ls : List Listed) → longest ls ≤ 255 → Each (Reached c.lo) ls → Each (Short c) ls
unfolding longest
short-lists c [] h each_none = each_none
short-lists c (l ∷ ls) h (each_more p ps) =
    each_more {x = l} (record { most = omega arith; reached = p.low }) (short-lists c ls (omega arith) ps)
