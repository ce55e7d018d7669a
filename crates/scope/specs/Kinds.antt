-- The table of kinds: the counted lists of each, with their bounds. Events, times, resources and groups count from 1.
-- A list is said once: valued in a timetable it gives the score (Score), numbered it gives the clauses (Formula).
use Rattle.std.specs.Prelude.{ℕ, zero, suc, ◌+◌, ◌-◌, ◌*◌, min, max, Bool, true, false, cond, ◌||◌, length, get_or, eqb}
use mathlib.Core.List.{List, [], ◌∷◌, ◌++◌, map, flat_map}

-- an event: how many times it takes, and the resources that it uses
pub record Event : Type 0 where
  pub duration : ℕ
  pub resources : List ℕ

pub data Kind : Type 0 where
  clash : (resource : ℕ) → Kind
  unavailable : (resource group : ℕ) → Kind
  preferred : (event group : ℕ) → Kind
  split : (event lo hi : ℕ) → Kind
  spread : (events : List ℕ) (group lo hi : ℕ) → Kind
  busy : (resource group lo hi : ℕ) → Kind
  cluster : (resource : ℕ) (groups : List ℕ) (lo hi : ℕ) → Kind
  idle : (resource : ℕ) (groups : List ℕ) (lo hi : ℕ) → Kind
  distribute : (event length lo hi : ℕ) → Kind
  lengths : (event shortest longest : ℕ) → Kind
  precedence : (first second lo hi : ℕ) → Kind

-- the weight 0 means hard
pub record Constraint : Type 0 where
  pub weight : ℕ
  pub kind : Kind

-- Y: event e takes time t. S: event e starts at time t. X: some event that uses resource r takes time t
pub data Atom : Type 0 where
  Y : (e t : ℕ) → Atom
  S : (e t : ℕ) → Atom
  X : (r t : ℕ) → Atom

-- A counted list is nodes and members. A node is an OR or an AND of references; a reference is to an atom or to an earlier node
-- of the same list, nodes counted from 0, as it is or negated; the members are references, and the true ones are counted
pub data Thing : Type 0 where
  an_atom : Atom → Thing
  a_node : ℕ → Thing

pub record Ref : Type 0 where
  pub negated : Bool
  pub thing : Thing

pub data Node : Type 0 where
  some_of : List Ref → Node
  all_of : List Ref → Node

pub record Listed : Type 0 where
  pub nodes : List Node
  pub members : List Ref

abbrev pub is : Thing → Ref
is x = record { negated = false; thing = x }

abbrev pub is_not : Thing → Ref
is_not x = record { negated = true; thing = x }

abbrev pub atoms : List Atom → List Ref
atoms xs = map (λ a. is (an_atom a)) xs

-- the members of kinds 1, 2 and 4 to 8: an atom; whether some atom of a group is true; whether a member of a group is idle: false
-- itself, with a true one earlier and a true one later
pub data Entry : Type 0 where
  atom : Atom → Entry
  any_of : List Atom → Entry
  gap : (earlier : List Atom) (here : Atom) (later : List Atom) → Entry

-- the nodes of an entry that stands after k others, and its member: for an idle time G, H and I, which is true where the time
-- has no X and G and H are true
abbrev pub entry_nodes : Entry → ℕ → List Node
entry_nodes (atom a) k = []
entry_nodes (any_of xs) k = some_of (atoms xs) ∷ []
entry_nodes (gap earlier here later) k =
    some_of (atoms earlier) ∷ some_of (atoms later) ∷ all_of (is_not (an_atom here) ∷ is (a_node k) ∷ is (a_node (k + 1)) ∷ []) ∷ []

abbrev pub entry_member : Entry → ℕ → Ref
entry_member (atom a) k = is (an_atom a)
entry_member (any_of xs) k = is (a_node k)
entry_member (gap earlier here later) k = is (a_node (k + 2))

-- how many nodes an entry has
abbrev pub added : Entry → ℕ
added (atom a) = 0
added (any_of xs) = 1
added (gap earlier here later) = 3

unfoldable pub entries_nodes : List Entry → ℕ → List Node
entries_nodes [] k = []
entries_nodes (x ∷ xs) k = entry_nodes x k ++ entries_nodes xs (k + added x)

unfoldable pub entries_members : List Entry → ℕ → List Ref
entries_members [] k = []
entries_members (x ∷ xs) k = entry_member x k ∷ entries_members xs (k + added x)

abbrev pub entries : List Entry → Listed
entries xs = record { nodes = entries_nodes xs 0; members = entries_members xs 0 }

-- what a kind counts: its lists, lo and hi as written; in a busy limit a count of 0 deviates by 0
pub record Counted : Type 0 where
  pub lo : ℕ
  pub hi : ℕ
  pub zero_free : Bool
  pub lists : List Listed

-- a counted list with its bounds: hi is lowered to the list's length
pub record Rule : Type 0 where
  pub lo : ℕ
  pub hi : ℕ
  pub zero_free : Bool
  pub list : Listed

abbrev pub rule : Counted → Listed → Rule
rule c l = record { lo = c.lo; hi = min c.hi (length l.members); zero_free = c.zero_free; list = l }

abbrev pub between : ℕ → ℕ → List Listed → Counted
between lo hi ls = record { lo = lo; hi = hi; zero_free = false; lists = ls }

abbrev pub limit : ℕ → ℕ → List Listed → Counted
limit lo hi ls = record { lo = lo; hi = hi; zero_free = true; lists = ls }

-- k numbers from n on; 1 up to n
unfoldable pub from : ℕ → ℕ → List ℕ
from n zero = []
from n (suc k) = n ∷ from (suc n) k

abbrev pub up_to : ℕ → List ℕ
up_to n = from 1 n

unfoldable pub member : ℕ → List ℕ → Bool
member x [] = false
member x (y ∷ ys) = eqb x y || member x ys

-- event number e, and how many times it takes
abbrev pub event_of : List Event → ℕ → Event
event_of es e = get_or es (e - 1) (record { duration = 0; resources = [] })

abbrev pub duration_of : List Event → ℕ → ℕ
duration_of es e = (event_of es e).duration

-- the events that use resource r; the first of the list has the number e
unfoldable pub users_from : ℕ → ℕ → List Event → List ℕ
users_from r e [] = []
users_from r e (v ∷ vs) = cond (member r v.resources) (e ∷ users_from r (suc e) vs) (users_from r (suc e) vs)

abbrev pub users : ℕ → List Event → List ℕ
users r es = users_from r 1 es

-- those of some numbers that are not in a list
unfoldable pub outside : List ℕ → List ℕ → List ℕ
outside g [] = []
outside g (t ∷ ts) = cond (member t g) (outside g ts) (t ∷ outside g ts)

-- group number g
abbrev pub group_at : List (List ℕ) → ℕ → List ℕ
group_at gs g = get_or gs (g - 1) []

-- X of resource r at some times; Y and S of event e there
abbrev pub uses_at : ℕ → List ℕ → List Atom
uses_at r ts = map (λ t. X r t) ts

abbrev pub takes_at : ℕ → List ℕ → List Entry
takes_at e ts = map (λ t. atom (Y e t)) ts

abbrev pub starts_at : ℕ → List ℕ → List Entry
starts_at e ts = map (λ t. atom (S e t)) ts

-- the members but first and last, each with those before and those after it
unfoldable pub gaps_after : List Atom → List Atom → List Entry
gaps_after before [] = []
gaps_after before (x ∷ []) = []
gaps_after before (x ∷ y ∷ ys) = gap before x (y ∷ ys) ∷ gaps_after (before ++ x ∷ []) (y ∷ ys)

unfoldable pub gaps : List Atom → List Entry
gaps [] = []
gaps (x ∷ xs) = gaps_after (x ∷ []) xs

-- M of a time, in kinds 3, 9 and 10: whether it goes on with the subevent before it, taken and no start
abbrev pub goes_on : ℕ → ℕ → Node
goes_on e t = all_of (is (an_atom (Y e t)) ∷ is_not (an_atom (S e t)) ∷ [])

-- Kind 3: a time that a subevent that starts outside the group can hold. It can start there, since the time is outside (started);
-- it can have come there, since a time outside is near enough before it (carried); or both can be
pub data Reach : Type 0 where
  started : (t : ℕ) → Reach
  carried : (t : ℕ) → Reach
  both : (t : ℕ) → Reach

-- which of some times, one after another, are such, for the duration d and the group g: the first `near` of them can be reached
-- from times outside before them, and from a time outside the next d − 1 can
unfoldable pub reached : (d : ℕ) (g : List ℕ) (near : ℕ) → List ℕ → List Reach
reached d g near [] = []
reached d g zero (t ∷ ts) = cond (member t g) (reached d g zero ts) (started t ∷ reached d g (d - 1) ts)
reached d g (suc n) (t ∷ ts) = cond (member t g) (carried t ∷ reached d g n ts) (both t ∷ reached d g (d - 1) ts)

-- the reference that says whether a subevent that started outside holds such a time, after k nodes: S, C or D
abbrev pub reach_ref : (e : ℕ) → Reach → (k : ℕ) → Ref
reach_ref e (started t) k = is (an_atom (S e t))
reach_ref e (carried t) k = is (a_node (k + 1))
reach_ref e (both t) k = is (a_node (k + 2))

-- its nodes, where p is the reference of the time before it: M; C, that one holds the time before and goes on; D, that one starts
-- there or C
abbrev pub reach_nodes : (e : ℕ) → Reach → (k : ℕ) → Ref → List Node
reach_nodes e (started t) k p = []
reach_nodes e (carried t) k p = goes_on e t ∷ all_of (p ∷ is (a_node k) ∷ []) ∷ []
reach_nodes e (both t) k p =
    goes_on e t ∷ all_of (p ∷ is (a_node k) ∷ []) ∷ some_of (is (an_atom (S e t)) ∷ is (a_node (k + 1)) ∷ []) ∷ []

-- how many nodes it has
abbrev pub reach_added : Reach → ℕ
reach_added (started t) = 0
reach_added (carried t) = 2
reach_added (both t) = 3

-- the nodes and the members of several, after k nodes: each takes up the reference of the one before it, the first one p
unfoldable pub reaches_nodes : (e : ℕ) → List Reach → (k : ℕ) → Ref → List Node
reaches_nodes e [] k p = []
reaches_nodes e (x ∷ xs) k p = reach_nodes e x k p ++ reaches_nodes e xs (k + reach_added x) (reach_ref e x k)

unfoldable pub reaches_members : (e : ℕ) → List Reach → (k : ℕ) → List Ref
reaches_members e [] k = []
reaches_members e (x ∷ xs) k = reach_ref e x k ∷ reaches_members e xs (k + reach_added x)

-- a list of them; the first is one to start at, which asks for no time before it, so node 0 is never taken up there
abbrev pub reaches : (e : ℕ) → List Reach → Listed
reaches e xs = record { nodes = reaches_nodes e xs 0 (is (a_node 0)); members = reaches_members e xs 0 }

-- of T times
unfoldable pub from_outside : (T e d : ℕ) (g : List ℕ) → Listed
from_outside T e d g = reaches e (reached d g 0 (up_to T))

-- Kinds 9 and 10, for T times: M of the times 2 to T + 1 stand first in the list, M of time T + 1 never true
unfoldable pub going_on : ℕ → ℕ → List Node
going_on T e = map (goes_on e) (from 2 (T - 1)) ++ some_of [] ∷ []

abbrev pub on_at : ℕ → Ref
on_at t = is (a_node (t - 2))

abbrev pub not_on_at : ℕ → Ref
not_on_at t = is_not (a_node (t - 2))

-- the times from a to b; "what lies beyond T + 1 is left out"
unfoldable pub span : (T a b : ℕ) → List ℕ
span T a b = from a (min b (T + 1) + 1 - a)

-- K of time t: a start whose subevent has the length n; one whose subevent is longer than n
abbrev pub start_of : (T e n t : ℕ) → List Node
start_of T e n t =
    all_of (is (an_atom (S e t)) ∷ map on_at (span T (t + 1) (t + n - 1)) ++ map not_on_at (span T (t + n) (t + n))) ∷ []

abbrev pub start_above : (T e n t : ℕ) → List Node
start_above T e n t = all_of (is (an_atom (S e t)) ∷ map on_at (span T (t + 1) (t + n))) ∷ []

-- Q, W and K of time t, which stand after k nodes: on from a to b times later; not on before that, or Q; a start with W, whose
-- subevent is shorter than a or longer than b
abbrev pub start_outside : (T e a b k t : ℕ) → List Node
start_outside T e a b k t =
    all_of (map on_at (span T (t + a) (t + b)))
    ∷ some_of (map not_on_at (span T (t + 1) (t + a - 1)) ++ is (a_node k) ∷ [])
    ∷ all_of (is (an_atom (S e t)) ∷ is (a_node (k + 1)) ∷ [])
    ∷ []

-- after M of all times s nodes for each time, of which the last is counted
unfoldable pub time_by_time : (T e s : ℕ) → (ℕ → List Node) → Listed
time_by_time T e s f =
    record { nodes = going_on T e ++ flat_map f (up_to T); members = map (λ t. is (a_node (T + s * t - 1))) (up_to T) }

unfoldable pub of_length : (T e n : ℕ) → Listed
of_length T e n = time_by_time T e 1 (start_of T e n)

unfoldable pub of_length_outside : (T e a b : ℕ) → Listed
of_length_outside T e a b =
    cond (eqb a 1) (time_by_time T e 1 (start_above T e b)) (time_by_time T e 3 (λ t. start_outside T e a b (T + 3 * (t - 1)) t))

-- Y of event e at some times
abbrev pub taking_at : ℕ → List ℕ → List Atom
taking_at e ts = map (λ t. Y e t) ts

-- a chain of ORs after k nodes: each of one atom more and of the node before it
unfoldable pub or_more : (k : ℕ) → List Atom → List Node
or_more k [] = []
or_more k (x ∷ xs) = some_of (is (an_atom x) ∷ is (a_node k) ∷ []) ∷ or_more (suc k) xs

-- n nodes of such a chain, if any: the first is an OR of some atoms
unfoldable pub or_chain : (k n : ℕ) (first more : List Atom) → List Node
or_chain k zero first more = []
or_chain k (suc n) first more = some_of (atoms first) ∷ or_more k more

-- k numbers from n down
unfoldable pub down : ℕ → ℕ → List ℕ
down n zero = []
down n (suc k) = n ∷ down (n - 1) k

-- Kind 11, for T times and the gaps from lo to hi: the last time of a first event that leaves lo times and one more after it; that
-- leaves hi + 1 times and one more; 0 if there is none
abbrev pub early : (T lo : ℕ) → ℕ
early T lo = T - 1 - lo

abbrev pub late : (T hi : ℕ) → ℕ
late T hi = T - 2 - hi

-- F of the times t from 1 to early: the second event b has begun by t + lo
unfoldable pub begun : (T b lo : ℕ) → List Node
begun T b lo = or_chain 0 (early T lo) (taking_at b (up_to (lo + 1))) (taking_at b (from (lo + 2) (early T lo - 1)))

-- P of the times t from 2 to early: the first event a takes t, and F
unfoldable pub too_soon : (T a lo : ℕ) → List Node
too_soon T a lo = map (λ t. all_of (is (an_atom (Y a t)) ∷ is (a_node (t - 1)) ∷ [])) (from 2 (early T lo - 1))

-- so many nodes stand before G, and so many before Q
abbrev pub before_g : (T lo : ℕ) → ℕ
before_g T lo = early T lo + (early T lo - 1)

abbrev pub before_q : (T lo hi : ℕ) → ℕ
before_q T lo hi = before_g T lo + late T hi

-- G of the times t from late down to 1: the first event goes on after t
unfoldable pub lasting : (T a lo hi : ℕ) → List Node
lasting T a lo hi =
    or_chain (before_g T lo) (late T hi) (taking_at a (from (late T hi + 1) (T - late T hi))) (taking_at a (down (late T hi) (late T hi - 1)))

-- Q of the times t from 1 to late: the second event has not begun by t + hi + 1, and the first does not go on after t
unfoldable pub too_late : (T lo hi : ℕ) → List Node
too_late T lo hi = map (λ t. all_of (is_not (a_node (t + hi - lo)) ∷ is_not (a_node (before_q T lo hi - t)) ∷ [])) (up_to (late T hi))

-- O: the first event takes a time after early; or F of time 1, some P or some Q is true
unfoldable pub either_way : (T a lo hi : ℕ) → Node
either_way T a lo hi =
    some_of
    (atoms (taking_at a (from (early T lo + 1) (T - early T lo)))
    ++ map (λ k. is (a_node k)) (from 0 (min (early T lo) 1) ++ (from (early T lo) (early T lo - 1) ++ from (before_q T lo hi) (late T hi))))

-- one member: the gap lies outside
unfoldable pub gap_outside : (T a b lo hi : ℕ) → Listed
gap_outside T a b lo hi =
    record {
      nodes = begun T b lo ++ (too_soon T a lo ++ (lasting T a lo hi ++ (too_late T lo hi ++ either_way T a lo hi ∷ [])));
      members = is (a_node (before_q T lo hi + late T hi)) ∷ [];
    }

-- The table of kinds, for T times, the durations of events, the users of a resource and the times of a group
module _ (T : ℕ) (dur : ℕ → ℕ) (us group : ℕ → List ℕ) where
  unfoldable pub counted_of : Kind → Counted
  counted_of (clash r) = between 0 1 (map (λ t. entries (map (λ e. atom (Y e t)) (us r))) (up_to T))
  counted_of (unavailable r g) = between 0 0 (entries (map atom (uses_at r (group g))) ∷ [])
  counted_of (preferred e g) = between 0 0 (from_outside T e (dur e) (group g) ∷ [])
  counted_of (split e lo hi) = between lo hi (entries (starts_at e (up_to T)) ∷ [])
  counted_of (spread vs g lo hi) = between lo hi (entries (flat_map (λ e. starts_at e (group g)) vs) ∷ [])
  counted_of (busy r g lo hi) = limit lo hi (entries (map atom (uses_at r (group g))) ∷ [])
  counted_of (cluster r hs lo hi) = between lo hi (entries (map (λ g. any_of (uses_at r (group g))) hs) ∷ [])
  counted_of (idle r hs lo hi) = between lo hi (entries (flat_map (λ g. gaps (uses_at r (group g))) hs) ∷ [])
  counted_of (distribute e n lo hi) = between lo hi (of_length T e n ∷ [])
  counted_of (lengths e a b) = between 0 0 (of_length_outside T e a b ∷ [])
  counted_of (precedence a b lo hi) = between 0 0 (gap_outside T a b lo hi ∷ [])

  abbrev pub rules_of : Kind → List Rule
  rules_of k = map (rule (counted_of k)) (counted_of k).lists

-- the length of the longest of some counted lists
unfoldable pub longest : List Listed → ℕ
longest [] = 0
longest (l ∷ ls) = max (length l.members) (longest ls)
