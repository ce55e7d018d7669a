-- Kind 8's list: for each member of a group but first and last G over those before, H over those after, and I, which is counted: laws.
use Prim.Native.Nat.{ℕ, zero, suc, ◌+◌, ◌-◌, ◌*◌}
use mathlib.Core.Path.{◌≡◌, refl, sym, subst, ◌∙◌}
use mathlib.Core.List.{List, [], ◌∷◌, ◌++◌, map, flat_map, map-append, append_assoc}
use native.Mathlib.Omega.{arith}
use native.Mathlib.Nat.{add-zero}
use lib.ListN.{length, drop, length-append, length-map}
use lib.Seq.{take_at, drop_at, get_or_at}
use Rattle.scope.specs.declared.Layout.{Layout}
use Rattle.scope.specs.Cnf.{pos, opp, Gate, or, and}
use Rattle.scope.specs.Kinds.{Atom, gap, gaps_after, gaps, uses_at}
use Rattle.literals.proofs.laws.Variables.{x_at}
use Rattle.literals.specs.Outputs.{every}
use Rattle.literals.proofs.laws.Outputs.{every-both}
use Rattle.literals.specs.Numbered.{num_at}
use Rattle.literals.proofs.laws.Entries.{Adds, adds_none, adds_more, adds-both, atoms_literals}
use Rattle.node_lists.specs.Cluster.{xs_of}
use Rattle.node_lists.proofs.laws.Cluster.{uses-literals}
use Rattle.node_lists.specs.Idle.{gap_gates, inner_count}

-- for each group, and each member but first and last
unfoldable pub idle_gates : List (List ℕ) → ℕ → List Gate
idle_gates [] v = []
idle_gates (xs ∷ xss) v = gap_gates xs 1 (length xs - 2) v ++ idle_gates xss (v + 3 * (length xs - 2))

pub length-gaps : (xs : List ℕ) (k n v : ℕ) → length (gap_gates xs k n v) ≡ 3 * n
unfolding gap_gates
length-gaps xs k zero v = refl
length-gaps xs k (suc n) v = omega (arith, length-gaps xs (suc k) n (v + 3))

pub length-idle : (xss : List (List ℕ)) (v : ℕ) → length (idle_gates xss v) ≡ 3 * inner_count xss
unfolding idle_gates inner_count
length-idle [] v = refl
length-idle (xs ∷ xss) v =
    let n = length xs - 2 in
    length-append (gap_gates xs 1 n v) (idle_gates xss (v + 3 * n))
    ∙ omega (arith, length-gaps xs 1 n v, length-idle xss (v + 3 * n))

-- one idle time and then others
gaps-step : (before : List Atom) (x y : Atom) (ys : List Atom)
    → gaps_after before (x ∷ y ∷ ys) ≡ gap before x (y ∷ ys) ∷ gaps_after (before ++ (x ∷ [])) (y ∷ ys)
unfolding gaps_after
gaps-step before x y ys = refl

gaps-none : (before : List Atom) → gaps_after before [] ≡ []
unfolding gaps_after
gaps-none before = refl

gaps-one : (before : List Atom) (x : Atom) → gaps_after before (x ∷ []) ≡ []
unfolding gaps_after
gaps-one before x = refl

gates-step : (before rest : List ℕ) (x n v : ℕ)
    → gap_gates (before ++ x ∷ rest) (length before) (suc n) v
    ≡ or before ∷ or rest ∷ and (opp x ∷ pos v ∷ pos (v + 1) ∷ []) ∷ gap_gates ((before ++ (x ∷ [])) ++ rest) (length (before ++ (x ∷ []))) n (v + 3)
unfolding gap_gates
gates-step before rest x n v =
    let k = length before in
    let e : length (before ++ (x ∷ [])) ≡ suc k = simp length-append (omega arith) in
    let a : (before ++ (x ∷ [])) ++ rest ≡ before ++ x ∷ rest = append_assoc before (x ∷ []) rest in
    let d : drop (suc k) (before ++ x ∷ rest) ≡ rest =
    subst (λ (us : List ℕ). drop (suc k) us ≡ rest) a (drop_at (before ++ (x ∷ [])) rest (suc k) e) in
    rw (take_at before (x ∷ rest) k refl, get_or_at before x rest 0 k refl, d, e, a)

module _ (num : Atom → ℕ) where
  -- the idle times among the rest of a group's members, n of them, the first of whose nodes is the variable w
  abbrev AddsAfter : (before rest : List Atom) (n v k w : ℕ) → Type 0
  AddsAfter before rest n v k w =
      Adds num (gaps_after before rest) v k (gap_gates (map num before ++ map num rest) (length (map num before)) n w) (every 3 (w + 2) n)

  -- an idle time's gates and its literal
  after_gap : (before : List Atom) (x : Atom) (rest : List Atom) (v k w : ℕ) → w ≡ v + k → {gs : List Gate} {xs : List ℕ}
      → Adds num (gaps_after (before ++ (x ∷ [])) rest) v (k + 3) gs xs
      → Adds num (gap before x rest ∷ gaps_after (before ++ (x ∷ [])) rest) v k
      (or (map num before) ∷ or (map num rest) ∷ and (opp (num x) ∷ pos w ∷ pos (w + 1) ∷ []) ∷ gs)
      (pos (w + 2) ∷ xs)
  after_gap before x rest v k w e a =
      let p : w + 1 ≡ v + (k + 1) = omega arith in
      let q : w + 2 ≡ v + (k + 2) = omega arith in
      rw (p, q, e, ← (atoms_literals num v before), ← (atoms_literals num v rest)) (adds_more num (gap before x rest) a)

  after_step : (before : List Atom) (x y : Atom) (ys : List Atom) (n v k w : ℕ) → w ≡ v + k
      → AddsAfter (before ++ (x ∷ [])) (y ∷ ys) n v (k + 3) (w + 3)
      → AddsAfter before (x ∷ y ∷ ys) (suc n) v k w
  unfolding every
  after_step before x y ys n v k w e h =
      let s : w + 3 + 2 ≡ w + 2 + 3 = omega arith in
      rw (gaps-step before x y ys, gates-step (map num before) (map num (y ∷ ys)) (num x) n w)
      (after_gap before x (y ∷ ys) v k w e (rw (map-append num before (x ∷ []), s) at h))

  after-end : (before rest : List Atom) (v k w : ℕ) → gaps_after before rest ≡ [] → AddsAfter before rest 0 v k w
  unfolding gap_gates every
  after-end before rest v k w e = rw e (adds_none num v k)

  after : (before rest : List Atom) (v k w : ℕ) → w ≡ v + k → AddsAfter before rest (length rest - 1) v k w
  after before [] v k w q = after-end before [] v k w (gaps-none before)
  after before (x ∷ []) v k w q = after-end before (x ∷ []) v k w (gaps-one before x)
  after before (x ∷ y ∷ ys) v k w q =
      let e : length (x ∷ y ∷ ys) - 1 ≡ suc (length (y ∷ ys) - 1) = omega arith in
      rw e (after_step before x y ys (length (y ∷ ys) - 1) v k w q (after (before ++ (x ∷ [])) (y ∷ ys) v (k + 3) (w + 3) (omega arith)))

  -- the idle times of a group: its members but first and last
  gaps_number : (l : List Atom) (v k w : ℕ) → w ≡ v + k
      → Adds num (gaps l) v k (gap_gates (map num l) 1 (length (map num l) - 2) w) (every 3 (w + 2) (length (map num l) - 2))
  unfolding gaps gap_gates every
  gaps_number [] v k w q = adds_none num v k
  gaps_number (x ∷ l) v k w q =
      let e : suc (length (map num l)) - 2 ≡ length l - 1 = simp length-map (omega arith) in
      rw e (after (x ∷ []) l v k w q)

-- the idle times of each of some groups, where h gives a group's X literals
adds-idle : {num : Atom → ℕ} (f : ℕ → List Atom) (h : ℕ → List ℕ) → ((g : ℕ) → map num (f g) ≡ h g) → (gs : List ℕ) (v k w : ℕ) → w ≡ v + k
    → Adds num (flat_map (λ g. gaps (f g)) gs) v k (idle_gates (map h gs) w) (every 3 (w + 2) (inner_count (map h gs)))
unfolding flat_map idle_gates inner_count every
adds-idle {num} f h e [] v k w q = adds_none num v k
adds-idle {num} f h e (g ∷ gs) v k w q =
    let n = length (h g) - 2 in
    let s : w + 2 + 3 * n ≡ w + 3 * n + 2 = omega arith in
    let a : Adds num (gaps (f g)) v k (gap_gates (h g) 1 n w) (every 3 (w + 2) n) = rw (e g) at (gaps_number num (f g) v k w q) in
    rw (every-both 3 (w + 2) n (inner_count (map h gs)), s)
    (adds-both a (rw (length-gaps (h g) 1 n w) (adds-idle f h e gs v (k + 3 * n) (w + 3 * n) (omega arith))))

pub idle-adds : (T : ℕ) (L : Layout) (group : ℕ → List ℕ) (r : ℕ) (hs : List ℕ) (v : ℕ)
    → Adds (num_at T L) (flat_map (λ g. gaps (uses_at r (group g))) hs) v 0 (idle_gates (xs_of T L.uses group r hs) v)
    (every 3 (v + 2) (inner_count (xs_of T L.uses group r hs)))
idle-adds T L group r hs v =
    adds-idle (λ g. uses_at r (group g)) (λ g. map (x_at T L r) (group g)) (λ g. uses-literals T L r (group g)) hs v 0 v (sym (add-zero v))
