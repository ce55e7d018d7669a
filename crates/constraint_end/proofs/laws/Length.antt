-- The length of a kind's counted list by arithmetic, as the reader computes it: the checks at a constraint's end come out right by it.
use Prim.Native.Nat.{ℕ, zero, suc, ◌-◌, ◌*◌, ◌≤◌}
use mathlib.Core.Path.{◌≡◌, refl, sym, ◌∙◌}
use mathlib.Core.List.{List, [], ◌∷◌, ◌++◌, map, flat_map}
use native.Mathlib.Omega.{arith}
use borrow.Author.Tests.{le-leb}
use lib.ListN.{length, length-map, length-append}
use Rattle.scope.specs.Kinds.{Event, Kind, clash, unavailable, preferred, split, spread, busy, cluster, idle, distribute, lengths, precedence, Atom, Y, S, X, Entry, atom, Listed, entries, from, up_to, duration_of, users, group_at, uses_at, starts_at, gaps_after, gaps, from_outside, counted_of, longest}
use Rattle.scope.specs.Instance.{distinct, ordered, ended}
use Rattle.theory.proofs.laws.Ranges.{length_from_lem}
use Rattle.theory.proofs.laws.Nodes.{length-members}
use Rattle.theory.proofs.laws.ReachLists.{length-from-outside}
use Rattle.theory.proofs.laws.TimeByTime.{length-of, length-outside}
use Rattle.theory.proofs.laws.GapLists.{length-gap-member}
use Rattle.constraint.specs.Bounds.{low_of, high_of}
use Rattle.constraint.specs.Decoded.{longest_of}
use Rattle.constraint_end.specs.Length.{inner_length, list_length}

-- one counted list, of nodes or of entries
longest-alone : (l : Listed) → longest (l ∷ []) ≡ length l.members
unfolding longest
longest-alone l = omega arith

longest-one : (l : List Entry) → longest (entries l ∷ []) ≡ length l
longest-one l = longest-alone (entries l) ∙ length-members l 0

-- the same length at each time
longest-most : (f : ℕ → Listed) (m n k : ℕ) → ((t : ℕ) → length (f t).members ≡ m) → longest (map f (from n k)) ≤ m
unfolding longest from
longest-most f m n zero h = omega arith
longest-most f m n (suc k) h = omega (arith, longest-most f m (suc n) k h, h n)

longest-same : (f : ℕ → Listed) (m T : ℕ) → 1 ≤ T → ((t : ℕ) → length (f t).members ≡ m) → longest (map f (up_to T)) ≡ m
unfolding longest from
longest-same f m zero p h = let z : ⊥ = omega arith in elim z [ ]
longest-same f m (suc k) p h = omega (arith, longest-most f m 2 k h, h 1)

-- the members but first and last
length-gaps_after : (before xs : List Atom) → length (gaps_after before xs) ≡ length xs - 1
unfolding gaps_after
length-gaps_after before [] = refl
length-gaps_after before (x ∷ []) = refl
length-gaps_after before (x ∷ y ∷ ys) = omega (arith, length-gaps_after (before ++ x ∷ []) (y ∷ ys))

length-gaps : (xs : List Atom) → length (gaps xs) ≡ length xs - 2
unfolding gaps
length-gaps [] = refl
length-gaps (x ∷ xs) = omega (arith, length-gaps_after (x ∷ []) xs)

length-flat : (f : ℕ → List Entry) (m : ℕ) (vs : List ℕ) → ((v : ℕ) → length (f v) ≡ m) → length (flat_map f vs) ≡ length vs * m
unfolding flat_map
length-flat f m [] h = omega arith
length-flat f m (v ∷ vs) h = length-append (f v) (flat_map f vs) ∙ omega (arith, h v, length-flat f m vs h)

length-inner : (r : ℕ) (gs : List (List ℕ)) (hs : List ℕ)
    → length (flat_map (λ g. gaps (uses_at r (group_at gs g))) hs) ≡ inner_length gs hs
unfolding inner_length flat_map
length-inner r gs [] = refl
length-inner r gs (h ∷ hs) =
    length-append (gaps (uses_at r (group_at gs h))) (flat_map (λ g. gaps (uses_at r (group_at gs g))) hs)
    ∙ omega (arith, length-gaps (uses_at r (group_at gs h)), length-map (group_at gs h) (X r), length-inner r gs hs)

-- two lengths that the checks at the end of a constraint of a kind cannot tell apart
pub record Alike (k : Kind) (n m : ℕ) : Type 0 where
  pub ends : (at weight end : ℕ)
      → ended at (distinct k) (ordered k) (low_of k) (high_of k) n weight k end
      ≡ ended at (distinct k) (ordered k) (low_of k) (high_of k) m weight k end

equal : (k : Kind) {n m : ℕ} → n ≡ m → Alike k n m
equal k h = record { ends = λ at weight end. rw h }

-- a list of kind 3 that is not too long has members enough
short : (e g : ℕ) {n m : ℕ} → n ≤ 255 → m ≤ 255 → Alike (preferred e g) n m
unfolding ended
short e g {n} {m} a b =
    record { ends = λ at weight end. rw (le-leb n 255 a, le-leb m 255 b, le-leb 0 n (omega arith), le-leb 0 m (omega arith)) }

-- the counted lists are as long as the arithmetic says, or the checks cannot tell
pub list_length_lem : (T : ℕ) (used : ℕ → ℕ) (es : List Event) (gs : List (List ℕ)) (k : Kind)
    → 1 ≤ T
    → T ≤ 255
    → ((r : ℕ) → used r ≡ length (users r es))
    → Alike k (longest_of T es gs k) (list_length T used gs k)
unfolding counted_of list_length
list_length_lem T used es gs (clash r) p h u =
    equal (clash r)
    (longest-same (λ t. entries (map (λ e. atom (Y e t)) (users r es))) (used r) T p
    (λ t. length-members (map (λ e. atom (Y e t)) (users r es)) 0 ∙ length-map (users r es) (λ e. atom (Y e t)) ∙ sym (u r)))
list_length_lem T used es gs (unavailable r g) p h u =
    equal (unavailable r g) (longest-one _ ∙ length-map (uses_at r (group_at gs g)) atom ∙ length-map (group_at gs g) (X r))
list_length_lem T used es gs (preferred e g) p h u =
    let l = from_outside T e (duration_of es e) (group_at gs g) in
    short e g (omega (arith, longest-alone l, length-from-outside T e (duration_of es e) (group_at gs g))) (omega arith)
list_length_lem T used es gs (split e lo hi) p h u =
    equal (split e lo hi) (longest-one _ ∙ length-map (up_to T) (λ t. atom (S e t)) ∙ length_from_lem 1 T)
list_length_lem T used es gs (spread vs g lo hi) p h u =
    equal (spread vs g lo hi)
    (longest-one _
    ∙ length-flat (λ e. starts_at e (group_at gs g)) (length (group_at gs g)) vs (λ e. length-map (group_at gs g) (λ t. atom (S e t))))
list_length_lem T used es gs (busy r g lo hi) p h u =
    equal (busy r g lo hi) (longest-one _ ∙ length-map (uses_at r (group_at gs g)) atom ∙ length-map (group_at gs g) (X r))
list_length_lem T used es gs (cluster r hs lo hi) p h u = equal (cluster r hs lo hi) (longest-one _ ∙ length-map hs _)
list_length_lem T used es gs (idle r hs lo hi) p h u = equal (idle r hs lo hi) (longest-one _ ∙ length-inner r gs hs)
list_length_lem T used es gs (distribute e n lo hi) p h u = equal (distribute e n lo hi) (longest-alone _ ∙ length-of T e n)
list_length_lem T used es gs (lengths e x y) p h u = equal (lengths e x y) (longest-alone _ ∙ length-outside T e x y)
list_length_lem T used es gs (precedence a b lo hi) p h u = equal (precedence a b lo hi) (longest-alone _ ∙ length-gap-member T a b lo hi)

-- only the counts of users matter
pub length-same : (T : ℕ) (used used' : ℕ → ℕ) (gs : List (List ℕ)) (k : Kind)
    → ((r : ℕ) → used r ≡ used' r)
    → list_length T used gs k ≡ list_length T used' gs k
unfolding list_length
length-same T used used' gs (clash r) h = h r
length-same T used used' gs (unavailable r g) h = refl
length-same T used used' gs (preferred e g) h = refl
length-same T used used' gs (split e lo hi) h = refl
length-same T used used' gs (spread vs g lo hi) h = refl
length-same T used used' gs (busy r g lo hi) h = refl
length-same T used used' gs (cluster r hs lo hi) h = refl
length-same T used used' gs (idle r hs lo hi) h = refl
length-same T used used' gs (distribute e n lo hi) h = refl
length-same T used used' gs (lengths e a b) h = refl
length-same T used used' gs (precedence a b lo hi) h = refl
