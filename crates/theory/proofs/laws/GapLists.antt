-- The list of kind 11: how many nodes it has, and what these refer to.
use mathlib.Core.Path.{◌≡◌, refl, ap, ◌∙◌}
use mathlib.Core.List.{List, [], ◌∷◌, ◌++◌, map}
use Prim.Native.Nat.{ℕ, zero, suc, ◌+◌, ◌-◌, ◌*◌, ◌<◌, ◌≤◌, min}
use native.Mathlib.Omega.{arith}
use lib.ListN.{length, length-map, length-append}
use Rattle.laws.specs.Lists.{All, All-append, All-map}
use Rattle.scope.specs.Kinds.{Atom, Y, is, a_node, atoms, Node, from, up_to, taking_at, or_more, or_chain, down, early, late, begun, too_soon, before_g, before_q, lasting, too_late, either_way, gap_outside}
use Rattle.parsing.specs.Valid.{Within}
use Rattle.theory.proofs.laws.Ranges.{length_from_lem, from_all}
use Rattle.theory.proofs.laws.Nodes.{Known, NodeKnown, NodesKnown, ListKnown, atoms_known, known_append}

-- numbers from one down: how many, and each of them
pub length-down : (n k : ℕ) → length (down n k) ≡ k
unfolding down
length-down n zero = refl
length-down n (suc k) = ap suc (length-down (n - 1) k)

pub down-all : (P : ℕ → Type 0) (n k : ℕ) → k ≤ n → ((i : ℕ) → n < i + k → i ≤ n → P i) → All P (down n k)
unfolding down
down-all P n zero l h = tt
down-all P n (suc k) l h = (h n (omega arith) (omega arith), down-all P (n - 1) k (omega arith) (λ i a b. h i (omega arith) (omega arith)))

-- chains
pub length-or-more : (k : ℕ) (xs : List Atom) → length (or_more k xs) ≡ length xs
unfolding or_more
length-or-more k [] = refl
length-or-more k (x ∷ xs) = ap suc (length-or-more (suc k) xs)

pub length-chain : (k n : ℕ) (xs ys : List Atom) → length ys ≡ n - 1 → length (or_chain k n xs ys) ≡ n
unfolding or_chain
length-chain k zero xs ys h = refl
length-chain k (suc n) xs ys h = omega (arith, length-or-more k ys, h)

-- F, P, G and Q
pub length-begun : (T b lo : ℕ) → length (begun T b lo) ≡ early T lo
unfolding begun
length-begun T b lo =
    let n = early T lo - 1 in
    length-chain 0 (early T lo) (taking_at b (up_to (lo + 1))) (taking_at b (from (lo + 2) n))
    (length-map (from (lo + 2) n) (λ t. Y b t) ∙ length_from_lem (lo + 2) n)

pub length-too-soon : (T a lo : ℕ) → length (too_soon T a lo) ≡ early T lo - 1
unfolding too_soon
length-too-soon T a lo = rw (length-map, length_from_lem)

pub length-lasting : (T a lo hi : ℕ) → length (lasting T a lo hi) ≡ late T hi
unfolding lasting
length-lasting T a lo hi =
    let n = late T hi - 1 in
    length-chain (before_g T lo) (late T hi) (taking_at a (from (late T hi + 1) (T - late T hi))) (taking_at a (down (late T hi) n))
    (length-map (down (late T hi) n) (λ t. Y a t) ∙ length-down (late T hi) n)

pub length-too-late : (T lo hi : ℕ) → length (too_late T lo hi) ≡ late T hi
unfolding too_late
length-too-late T lo hi = rw (length-map, length_from_lem)

-- the whole list
pub length-gap-nodes : (T a b lo hi : ℕ) → length (gap_outside T a b lo hi).nodes ≡ before_q T lo hi + late T hi + 1
unfolding gap_outside
length-gap-nodes T a b lo hi =
    let O = either_way T a lo hi ∷ [] in
    let Q = too_late T lo hi ++ O in
    let G = lasting T a lo hi ++ Q in
    omega (
      arith,
      length-append (begun T b lo) (too_soon T a lo ++ G),
      length-append (too_soon T a lo) G,
      length-append (lasting T a lo hi) Q,
      length-append (too_late T lo hi) O,
      length-begun T b lo,
      length-too-soon T a lo,
      length-lasting T a lo hi,
      length-too-late T lo hi,
    )

pub length-gap-member : (T a b lo hi : ℕ) → length (gap_outside T a b lo hi).members ≡ 1
unfolding gap_outside
length-gap-member T a b lo hi = refl

pub gap-variables : (T a b lo hi : ℕ) → 1 ≤ early T lo → length (gap_outside T a b lo hi).nodes ≡ 2 * early T lo + 2 * late T hi
gap-variables T a b lo hi h = omega (arith, length-gap-nodes T a b lo hi)

pub gap-alone : (T a b lo hi : ℕ) → early T lo ≡ 0 → lo ≤ hi → length (gap_outside T a b lo hi).nodes ≡ 1
gap-alone T a b lo hi e h =
    let l : late T hi ≡ 0 = omega arith in
    length-gap-nodes T a b lo hi ∙ rw (e, l)

pub gap-few : (T a b lo hi : ℕ) → 1 ≤ T → length (gap_outside T a b lo hi).nodes < 4 * T
gap-few T a b lo hi h = omega (arith, length-gap-nodes T a b lo hi)

-- Q refers to F, and to G, which stand before it
F-before : (T lo hi t E B : ℕ) → t + hi + 2 ≤ T → T ≤ E + 1 + lo → E + t ≤ B → 1 ≤ t → t + hi - lo < B + (t - 1)
F-before T lo hi t E B h k l m = omega arith

G-before : (B t : ℕ) → 1 ≤ t → t ≤ B → B - t < B + (t - 1)
G-before B t h k = omega arith

-- atoms of which P holds, and earlier nodes
module _ (P : Atom → Type 0) where
  more_known : (k : ℕ) (xs : List Atom) → All P xs → NodesKnown P (suc k) (or_more k xs)
  unfolding or_more
  more_known k [] h = tt
  more_known k (x ∷ xs) h = ((h.0, (omega arith, tt)), more_known (suc k) xs h.1)

  chain_known : (k n : ℕ) (xs ys : List Atom) → All P xs → All P ys → NodesKnown P k (or_chain k n xs ys)
  unfolding or_chain
  chain_known k zero xs ys a b = tt
  chain_known k (suc n) xs ys a b = (atoms_known P k xs a, more_known k ys b)

  -- a node for each number from n on, the first after k nodes
  mapped_known : (f : ℕ → Node) (k n m : ℕ) → ((t : ℕ) → n ≤ t → t < n + m → NodeKnown P (k + (t - n)) (f t))
      → NodesKnown P k (map f (from n m))
  unfolding from
  mapped_known f k n m h = go m n k (omega arith) (omega arith)
    where
      go : (j u p : ℕ) → p + n ≡ k + u → (n ≤ u) × (u + j ≡ n + m) → NodesKnown P p (map f (from u j))
      go zero u p e l = tt
      go (suc j) u p e l =
          let q : p ≡ k + (u - n) = omega (arith, e, l.0) in
          (rw q (h u l.0 (omega (arith, l.1))), go j (suc u) (suc p) (omega arith) (omega arith))

  nodes_at : (k : ℕ) (ks : List ℕ) → All (λ j. j < k) ks → All (Known P k) (map (λ j. is (a_node j)) ks)
  nodes_at k ks h = All-map (λ j. j < k) (Known P k) (λ j. is (a_node j)) (λ j l. l) ks h

  module _ (T a b lo hi : ℕ) (first : (t : ℕ) → Within 1 T t → P (Y a t)) (second : (t : ℕ) → Within 1 T t → P (Y b t)) where
    taking : (e : ℕ) → ((t : ℕ) → Within 1 T t → P (Y e t)) → (ts : List ℕ) → All (Within 1 T) ts → All P (taking_at e ts)
    taking e h ts w = All-map (Within 1 T) P (λ t. Y e t) h ts w

    some_times : (n k : ℕ) → 1 ≤ n → n + k ≤ T + 1 → All (Within 1 T) (from n k)
    some_times n k l h = from_all (Within 1 T) n k (λ t x y. record { low = omega arith; high = omega arith })

    -- F stands only where lo + 1 times are there, G only where there is a time after late
    begun_known : NodesKnown P 0 (begun T b lo)
    unfolding begun or_chain
    begun_known = go (early T lo) refl
      where
        go : (n : ℕ) → early T lo ≡ n → NodesKnown P 0 (or_chain 0 n (taking_at b (up_to (lo + 1))) (taking_at b (from (lo + 2) (n - 1))))
        go zero e = tt
        go (suc n) e =
            chain_known 0 (suc n) (taking_at b (up_to (lo + 1))) (taking_at b (from (lo + 2) (suc n - 1)))
            (taking b second (up_to (lo + 1)) (some_times 1 (lo + 1) (omega arith) (omega arith)))
            (taking b second (from (lo + 2) (suc n - 1)) (some_times (lo + 2) (suc n - 1) (omega arith) (omega arith)))

    soon_known : NodesKnown P (early T lo) (too_soon T a lo)
    unfolding too_soon
    soon_known =
        mapped_known _ (early T lo) 2 (early T lo - 1)
        (λ t l h. (first t (record { low = omega arith; high = omega arith }), (omega arith, tt)))

    lasting_known : NodesKnown P (before_g T lo) (lasting T a lo hi)
    unfolding lasting
    lasting_known =
        chain_known (before_g T lo) (late T hi) _ _
        (taking a first (from (late T hi + 1) (T - late T hi)) (some_times (late T hi + 1) (T - late T hi) (omega arith) (omega arith)))
        (taking a first (down (late T hi) (late T hi - 1))
        (down-all (Within 1 T) (late T hi) (late T hi - 1) (omega arith) (λ i x y. record { low = omega arith; high = omega arith })))

    late_known : NodesKnown P (before_q T lo hi) (too_late T lo hi)
    unfolding too_late
    late_known =
        mapped_known _ (before_q T lo hi) 1 (late T hi)
        (λ t l h.
        let B = before_q T lo hi in
        let m : t ≤ late T hi = omega arith in
        let n : t + hi + 2 ≤ T = omega arith in
        let k : T ≤ early T lo + 1 + lo = omega arith in
        (F-before T lo hi t (early T lo) B n k (omega arith) l, (G-before B t l (omega arith), tt)))

    either_known : NodeKnown P (before_q T lo hi + late T hi) (either_way T a lo hi)
    unfolding either_way
    either_known =
        let k = before_q T lo hi + late T hi in
        let one = from 0 (min (early T lo) 1) in
        let soon = from (early T lo) (early T lo - 1) in
        let slow = from (before_q T lo hi) (late T hi) in
        let Q : ℕ → Type 0 = λ j. j < k in
        All-append (Known P k) (atoms (taking_at a (from (early T lo + 1) (T - early T lo)))) (map (λ j. is (a_node j)) (one ++ (soon ++ slow)))
        (atoms_known P k (taking_at a (from (early T lo + 1) (T - early T lo)))
        (taking a first (from (early T lo + 1) (T - early T lo)) (some_times (early T lo + 1) (T - early T lo) (omega arith) (omega arith))))
        (nodes_at k (one ++ (soon ++ slow))
        (All-append Q one (soon ++ slow) (from_all Q 0 (min (early T lo) 1) (λ j x y. omega arith))
        (All-append Q soon slow (from_all Q (early T lo) (early T lo - 1) (λ j x y. omega arith))
        (from_all Q (before_q T lo hi) (late T hi) (λ j x y. omega arith)))))

    pub gap_known : ListKnown P (gap_outside T a b lo hi)
    unfolding gap_outside
    gap_known =
        let O = either_way T a lo hi ∷ [] in
        let k : 0 + length (begun T b lo) ≡ early T lo = omega (arith, length-begun T b lo) in
        let g : early T lo + length (too_soon T a lo) ≡ before_g T lo = omega (arith, length-too-soon T a lo) in
        let q : before_g T lo + length (lasting T a lo hi) ≡ before_q T lo hi = omega (arith, length-lasting T a lo hi) in
        let o : before_q T lo hi + length (too_late T lo hi) ≡ before_q T lo hi + late T hi = omega (arith, length-too-late T lo hi) in
        record {
          nodes = known_append P 0 (begun T b lo) _ begun_known
              (rw k
              (known_append P (early T lo) (too_soon T a lo) _ soon_known
              (rw g
              (known_append P (before_g T lo) (lasting T a lo hi) _ lasting_known
              (rw q (known_append P (before_q T lo hi) (too_late T lo hi) O late_known (rw o (either_known, tt))))))));
          members = (omega (arith, length-gap-nodes T a b lo hi), tt);
        }
