-- The list of kind 3: how many nodes and members it has, and what these refer to.
use mathlib.Core.Path.{◌≡◌, refl, ap}
use mathlib.Core.Bool.{Bool, true, false, cond}
use mathlib.Core.List.{List, [], ◌∷◌}
use Prim.Native.Nat.{ℕ, zero, suc, ◌+◌, ◌-◌, ◌*◌, ◌≤◌}
use native.Mathlib.Omega.{arith}
use lib.ListN.{length, length-append}
use Rattle.laws.specs.Lists.{All}
use Rattle.scope.specs.Kinds.{Atom, Y, S, Ref, is, a_node, from, up_to, member, Reach, started, carried, both, reached, reach_ref, reach_nodes, reach_added, reaches_nodes, reaches_members, from_outside}
use Rattle.parsing.specs.Valid.{Within}
use Rattle.theory.proofs.laws.Ranges.{length_from_lem, from_all}
use Rattle.theory.proofs.laws.Nodes.{Known, NodesKnown, ListKnown, known_append}

-- how many nodes and members
pub length-reach : (e : ℕ) (x : Reach) (k : ℕ) (p : Ref) → length (reach_nodes e x k p) ≡ reach_added x
length-reach e (started t) k p = refl
length-reach e (carried t) k p = refl
length-reach e (both t) k p = refl

added-most : (x : Reach) → reach_added x ≤ 3
added-most (started t) = omega arith
added-most (carried t) = omega arith
added-most (both t) = omega arith

pub length-reach-nodes : (e : ℕ) (xs : List Reach) (k : ℕ) (p : Ref) → length (reaches_nodes e xs k p) ≤ 3 * length xs
unfolding reaches_nodes
length-reach-nodes e [] k p = omega arith
length-reach-nodes e (x ∷ xs) k p =
    let ns = reaches_nodes e xs (k + reach_added x) (reach_ref e x k) in
    let l = length-reach-nodes e xs (k + reach_added x) (reach_ref e x k) in
    omega (arith, length-append (reach_nodes e x k p) ns, length-reach e x k p, added-most x, l)

pub length-reach-members : (e : ℕ) (xs : List Reach) (k : ℕ) → length (reaches_members e xs k) ≡ length xs
unfolding reaches_members
length-reach-members e [] k = refl
length-reach-members e (x ∷ xs) k = ap suc (length-reach-members e xs (k + reach_added x))

-- at most one for each time
pub length-reached : (d : ℕ) (g : List ℕ) (near : ℕ) (ts : List ℕ) → length (reached d g near ts) ≤ length ts
unfolding reached
length-reached d g near [] = omega arith
length-reached d g zero (t ∷ ts) = go (member t g) (length-reached d g zero ts) (length-reached d g (d - 1) ts)
  where
    go : (m : Bool) → length (reached d g zero ts) ≤ length ts → length (reached d g (d - 1) ts) ≤ length ts
        → length (cond m (reached d g zero ts) (started t ∷ reached d g (d - 1) ts)) ≤ suc (length ts)
    go true a b = omega arith
    go false a b = omega arith
length-reached d g (suc n) (t ∷ ts) = go (member t g) (length-reached d g n ts) (length-reached d g (d - 1) ts)
  where
    go : (m : Bool) → length (reached d g n ts) ≤ length ts → length (reached d g (d - 1) ts) ≤ length ts
        → length (cond m (carried t ∷ reached d g n ts) (both t ∷ reached d g (d - 1) ts)) ≤ suc (length ts)
    go true a b = omega arith
    go false a b = omega arith

pub length-from-outside : (T e d : ℕ) (g : List ℕ) → length (from_outside T e d g).members ≤ T
unfolding from_outside
length-from-outside T e d g =
    omega (arith, length-reach-members e (reached d g 0 (up_to T)) 0, length-reached d g 0 (up_to T), length_from_lem 1 T)

-- the first of them is one to start at, without nodes
first_none : (e d : ℕ) (g : List ℕ) (t : ℕ) (ts : List ℕ) (k : ℕ) (p : Ref) → length (reaches_nodes e (reached d g 0 (t ∷ ts)) k p) ≤ 3 * length ts
unfolding reached reaches_nodes
first_none e d g t ts k p =
    go (member t g)
    (omega (arith, length-reach-nodes e (reached d g zero ts) k p, length-reached d g zero ts))
    (omega (
      arith,
      length-reach-nodes e (reached d g (d - 1) ts) (k + 0) (reach_ref e (started t) k),
      length-reached d g (d - 1) ts,
    ))
  where
    go : (m : Bool) → length (reaches_nodes e (reached d g zero ts) k p) ≤ 3 * length ts
        → length (reaches_nodes e (reached d g (d - 1) ts) (k + 0) (reach_ref e (started t) k)) ≤ 3 * length ts
        → length (reaches_nodes e (cond m (reached d g zero ts) (started t ∷ reached d g (d - 1) ts)) k p) ≤ 3 * length ts
    go true a b = a
    go false a b = b

pub few-nodes : (T e d : ℕ) (g : List ℕ) → length (from_outside T e d g).nodes ≤ 3 * (T - 1)
unfolding from_outside reached reaches_nodes from
few-nodes zero e d g = omega arith
few-nodes (suc n) e d g = omega (arith, first_none e d g 1 (from 2 n) 0 (is (a_node 0)), length_from_lem 2 n)

-- with the duration 1 nothing is reached
alone-none : (e : ℕ) (g ts : List ℕ) (k : ℕ) (p : Ref) → reaches_nodes e (reached 1 g 0 ts) k p ≡ []
unfolding reached reaches_nodes
alone-none e g [] k p = refl
alone-none e g (t ∷ ts) k p = go (member t g) (alone-none e g ts k p) (alone-none e g ts (k + 0) (reach_ref e (started t) k))
  where
    go : (m : Bool) → reaches_nodes e (reached 1 g 0 ts) k p ≡ []
        → reaches_nodes e (reached 1 g 0 ts) (k + 0) (reach_ref e (started t) k) ≡ []
        → reaches_nodes e (cond m (reached 1 g 0 ts) (started t ∷ reached 1 g 0 ts)) k p ≡ []
    go true a b = a
    go false a b = b

pub single-nodes : (T e : ℕ) (g : List ℕ) → (from_outside T e 1 g).nodes ≡ []
unfolding from_outside
single-nodes T e g = alone-none e g (up_to T) 0 (is (a_node 0))

-- its time
abbrev pub reach_time : Reach → ℕ
reach_time (started t) = t
reach_time (carried t) = t
reach_time (both t) = t

-- what holds of each time holds of each that is reached
pub reached-all : (P : ℕ → Type 0) (d : ℕ) (g : List ℕ) (near : ℕ) (ts : List ℕ) → All P ts → All (λ x. P (reach_time x)) (reached d g near ts)
unfolding reached
reached-all P d g near [] h = tt
reached-all P d g zero (t ∷ ts) h = go (member t g) (reached-all P d g zero ts h.1) (reached-all P d g (d - 1) ts h.1)
  where
    go : (m : Bool) → All (λ x. P (reach_time x)) (reached d g zero ts) → All (λ x. P (reach_time x)) (reached d g (d - 1) ts)
        → All (λ x. P (reach_time x)) (cond m (reached d g zero ts) (started t ∷ reached d g (d - 1) ts))
    go true a b = a
    go false a b = (h.0, b)
reached-all P d g (suc n) (t ∷ ts) h = go (member t g) (reached-all P d g n ts h.1) (reached-all P d g (d - 1) ts h.1)
  where
    go : (m : Bool) → All (λ x. P (reach_time x)) (reached d g n ts) → All (λ x. P (reach_time x)) (reached d g (d - 1) ts)
        → All (λ x. P (reach_time x)) (cond m (carried t ∷ reached d g n ts) (both t ∷ reached d g (d - 1) ts))
    go true a b = (h.0, a)
    go false a b = (h.0, b)

-- atoms of an event of which P holds, and earlier nodes
module _ (P : Atom → Type 0) (e : ℕ) where
  abbrev AtTime : ℕ → Type 0
  AtTime t = P (Y e t) × P (S e t)

  reach_known : (x : Reach) (k : ℕ) (p : Ref) → AtTime (reach_time x) → Known P (suc k) p → NodesKnown P k (reach_nodes e x k p)
  reach_known (started t) k p a q = tt
  reach_known (carried t) k p a q = ((a.0, (a.1, tt)), ((q, (omega arith, tt)), tt))
  reach_known (both t) k p a q = ((a.0, (a.1, tt)), ((q, (omega arith, tt)), ((a.1, (omega arith, tt)), tt)))

  ref_known : (x : Reach) (k n : ℕ) → k + reach_added x ≤ n → AtTime (reach_time x) → Known P n (reach_ref e x k)
  ref_known (started t) k n l a = a.1
  ref_known (carried t) k n l a = omega arith
  ref_known (both t) k n l a = omega arith

  nodes_known : (xs : List Reach) (k : ℕ) (p : Ref) → All (λ x. AtTime (reach_time x)) xs → Known P (suc k) p → NodesKnown P k (reaches_nodes e xs k p)
  unfolding reaches_nodes
  nodes_known [] k p h q = tt
  nodes_known (x ∷ xs) k p h q =
      let n = k + reach_added x in
      known_append P k (reach_nodes e x k p) (reaches_nodes e xs n (reach_ref e x k)) (reach_known x k p h.0 q)
      (rw (length-reach e x k p) (nodes_known xs n (reach_ref e x k) h.1 (ref_known x k (suc n) (omega arith) h.0)))

  members_known : (xs : List Reach) (k n : ℕ) (p : Ref) → k + length (reaches_nodes e xs k p) ≤ n → All (λ x. AtTime (reach_time x)) xs
      → All (Known P n) (reaches_members e xs k)
  unfolding reaches_nodes reaches_members
  members_known [] k n p l h = tt
  members_known (x ∷ xs) k n p l h =
      let m = k + reach_added x in
      let r = reach_ref e x k in
      let c = length-append (reach_nodes e x k p) (reaches_nodes e xs m r) in
      let a = length-reach e x k p in
      (ref_known x k n (omega (arith, c, a)) h.0, members_known xs m n r (omega (arith, c, a)) h.1)

  pub from_outside_known : (T d : ℕ) (g : List ℕ) → ((t : ℕ) → Within 1 T t → P (Y e t)) → ((t : ℕ) → Within 1 T t → P (S e t))
      → ListKnown P (from_outside T e d g)
  unfolding from_outside
  from_outside_known T d g takes starts =
      let xs = reached d g 0 (up_to T) in
      let p = is (a_node 0) in
      let times = from_all AtTime 1 T
      (λ t l h. let w : Within 1 T t = record { low = l; high = omega arith } in (takes t w, starts t w)) in
      let all = reached-all AtTime d g 0 (up_to T) times in
      record {
        nodes = nodes_known xs 0 p all (omega arith);
        members = members_known xs 0 (length (reaches_nodes e xs 0 p)) p (omega arith) all;
      }
