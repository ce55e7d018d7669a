-- Idle times in one walk: the count kept after each member is that of the idle times so far, kind 8 charges by it, and calls of the
-- operation keep the same numbers.
use mathlib.Core.Path.{◌≡◌, refl, sym, ap, ap₂, ◌∙◌, fun_ext}
use mathlib.Core.Bool.{Bool, true, false, cond, not, ◌&&◌, ◌||◌, or_assoc, or-false}
use mathlib.Core.List.{List, [], ◌∷◌, ◌++◌, map, flat_map, foldl, sum}
use Prim.Native.Nat.{ℕ, zero, suc, ◌+◌, ◌<◌, ◌≤◌}
use native.Mathlib.Omega.{arith}
use native.Mathlib.Nat.{zero-add}
use lib.ListN.{length, get_or, take, drop}
use Rattle.scope.specs.Kinds.{Atom, X, idle, entries, from, uses_at, gaps_after, gaps, group_at, counted_of}
use Rattle.scope.specs.Instance.{Instance}
use Rattle.scope.specs.Score.{trues, any, count, deviation, deviations, rules}
use Rattle.scope.specs.Idle.{idle_times, nothing_kept, idle_step, kept_after, yes, fitted, idle_step_of}
use Rattle.scope.specs.Demands.{used_at, kept_by_calls}
use Rattle.scope.specs.declared.Kept.{Kept}
use Rattle.theory.proofs.laws.Entries.{entry_true, trues-flat, entries_count}
use Rattle.theory.proofs.laws.Subevents.{one-charged}

-- how many of some members are idle, where s says whether one before them has X
unfoldable idle_from : Bool → List Bool → ℕ
idle_from s [] = 0
idle_from s (x ∷ xs) = cond (not x && s && any xs) 1 0 + idle_from (s || x) xs

abbrev idle_after : Bool → List Bool → ℕ → Bool
idle_after s xs k = not (get_or xs k false) && (s || any (take k xs)) && any (drop (suc k) xs)

map-later : (f g : ℕ → Bool) → ((k : ℕ) → f (suc k) ≡ g k) → (a n : ℕ) → map f (from (suc a) n) ≡ map g (from a n)
unfolding from
map-later f g e a zero = refl
map-later f g e a (suc n) = ap₂ (λ b bs. b ∷ bs) (e a) (map-later f g e (suc a) n)

idle-after : (s : Bool) (xs : List Bool) → trues (map (idle_after s xs) (from 0 (length xs))) ≡ idle_from s xs
unfolding from trues any idle_from
idle-after s [] = refl
idle-after s (x ∷ xs) =
    ap₂ ◌+◌
    (rw (or-false s))
    (ap trues (map-later (idle_after s (x ∷ xs)) (idle_after (s || x) xs) later 0 (length xs)) ∙ idle-after (s || x) xs)
  where
    later : (k : ℕ) → idle_after s (x ∷ xs) (suc k) ≡ idle_after (s || x) xs k
    later k = ap (λ b. not (get_or xs k false) && b && any (drop (suc k) xs)) (sym (or_assoc s x (any (take k xs))))

idle-times : (xs : List Bool) → idle_times xs ≡ idle_from false xs
unfolding idle_times
idle-times xs = idle-after false xs

-- what a walk comes to over some members: those since the last with X are idle if one of them has X
unfoldable walked : Kept → List Bool → ℕ
walked k xs = k.idle + cond (any xs) k.since 0 + idle_from k.seen xs

cond_same : (t : Bool) (n : ℕ) → cond t n n ≡ n
cond_same true n = refl
cond_same false n = refl

one_more : (t : Bool) (a b c : ℕ) → a + cond t (b + 1) 0 + c ≡ a + cond t b 0 + (cond t 1 0 + c)
one_more true a b c = omega arith
one_more false a b c = omega arith

walked_step : (x : Bool) (k : Kept) (xs : List Bool) → walked (idle_step k x) xs ≡ walked k (x ∷ xs)
unfolding walked idle_from any
walked_step x k xs = by x k.seen refl
  where
    by : (x s : Bool) → k.seen ≡ s → walked (idle_step k x) xs ≡ walked k (x ∷ xs)
    by true true e = rw (e, cond_same (any xs) 0) (omega arith)
    by true false e = rw (e, cond_same (any xs) 0) (omega arith)
    by false true e = rw e (one_more (any xs) k.idle k.since (idle_from true xs))
    by false false e = rw (e, zero-add)

walked-idle : (k : Kept) (xs : List Bool) → (foldl idle_step k xs).idle ≡ walked k xs
unfolding walked any idle_from
walked-idle k [] = omega arith
walked-idle k (x ∷ xs) = walked-idle (idle_step k x) xs ∙ walked_step x k xs

kept_from : (xs : List Bool) → (kept_after xs).idle ≡ idle_from false xs
unfolding kept_after walked
kept_from xs = walked-idle nothing_kept xs ∙ rw (cond_same (any xs) 0) (zero-add (idle_from false xs))

pub kept-idle : (xs : List Bool) → (kept_after xs).idle ≡ idle_times xs
kept-idle xs = kept_from xs ∙ sym (idle-times xs)

-- kind 8: the gaps of a list are its idle places
module _ (τ : Atom → Bool) where
  any_more : (xs : List Atom) (x : Atom) → any (map τ (xs ++ x ∷ [])) ≡ any (map τ xs) || τ x
  unfolding any
  any_more [] x = or-false (τ x)
  any_more (y ∷ xs) x = rw (any_more xs x) (sym (or_assoc (τ y) (any (map τ xs)) (τ x)))

  gaps-after : (before xs : List Atom) → trues (map (entry_true τ) (gaps_after before xs)) ≡ idle_from (any (map τ before)) (map τ xs)
  unfolding trues gaps_after idle_from entry_true any
  gaps-after before [] = refl
  gaps-after before (x ∷ []) = last (not (τ x)) (any (map τ before))
    where
      last : (a b : Bool) → ◌≡◌ {A = ℕ} 0 (cond (a && b && false) 1 0 + 0)
      last true true = refl
      last true false = refl
      last false b = refl
  gaps-after before (x ∷ y ∷ ys) = rw (gaps-after (before ++ x ∷ []) (y ∷ ys), any_more before x)

  gaps_from : (xs : List Atom) → trues (map (entry_true τ) (gaps xs)) ≡ idle_from false (map τ xs)
  unfolding trues gaps idle_from any
  gaps_from [] = refl
  gaps_from (x ∷ xs) = gaps-after (x ∷ []) xs ∙ first (τ x)
    where
      first : (t : Bool) → idle_from (t || false) (map τ xs) ≡ cond (not t && false && any (map τ xs)) 1 0 + idle_from (false || t) (map τ xs)
      first true = sym (zero-add (idle_from true (map τ xs)))
      first false = sym (zero-add (idle_from false (map τ xs)))

  gaps_kept : (xs : List Atom) → trues (map (entry_true τ) (gaps xs)) ≡ (kept_after (map τ xs)).idle
  gaps_kept xs = gaps_from xs ∙ sym (kept_from (map τ xs))

  used_cut : (r k : ℕ) (ts : List ℕ) → take k (used_at τ r ts) ≡ used_at τ r (take k ts)
  used_cut r zero ts = refl
  used_cut r (suc k) [] = refl
  used_cut r (suc k) (t ∷ ts) = ap (λ bs. τ (X r t) ∷ bs) (used_cut r k ts)

  pub kept_counted : (r k : ℕ) (ts : List ℕ) → (kept_after (take k (used_at τ r ts))).idle ≡ count τ (entries (gaps (uses_at r (take k ts))))
  kept_counted r k ts =
      ap (λ xs. (kept_after xs).idle) (used_cut r k ts)
      ∙ sym (entries_count τ (gaps (uses_at r (take k ts))) ∙ gaps_kept (uses_at r (take k ts)))

pub idle-charged : (i : Instance) (τ : Atom → Bool) (w r : ℕ) (hs : List ℕ) (lo hi : ℕ)
    → deviations τ (rules i (record { weight = w; kind = idle r hs lo hi }))
    ≡ deviation lo hi (sum ◌+◌ 0 (map (λ g. (kept_after (used_at τ r (group_at i.groups g))).idle) hs))
unfolding counted_of
idle-charged i τ w r hs lo hi =
    let at : ℕ → List Atom = λ g. uses_at r (group_at i.groups g) in
    let gs = flat_map (λ g. gaps (at g)) hs in
    one-charged τ lo hi (entries gs)
    ∙ ap (deviation lo hi)
    (entries_count τ gs ∙ trues-flat (entry_true τ) (λ g. gaps (at g)) hs ∙ ap (λ f. sum ◌+◌ 0 (map f hs)) (fun_ext (λ g. gaps_kept τ (at g))))

-- a step adds one at most
pub step_adds : (k : Kept) (x : Bool) → (idle_step k x).idle + (idle_step k x).since ≤ k.idle + k.since + 1
step_adds k true = omega arith
step_adds k false = by k.seen
  where
    by : (s : Bool) → (let j = cond s (record { idle = k.idle; since = k.since + 1; seen = true }) k in j.idle + j.since ≤ k.idle + k.since + 1)
    by true = omega arith
    by false = omega arith

-- so the numbers of fewer than 2^32 members fit
abbrev plain : Kept → ℕ × ℕ × ℕ
plain k = (k.idle, k.since, cond k.seen 1 0)

fitted-same : (n : ℕ) → n ≤ 4294967295 → fitted n ≡ n
fitted-same n h = omega arith

said-seen : (s : Bool) → yes (cond s 1 0) ≡ s
said-seen true = refl
said-seen false = refl

one-call : (k : Kept) (u : ℕ) → k.idle + k.since < 4294967295
    → idle_step_of k.idle k.since (cond k.seen 1 0) u ≡ plain (idle_step k (yes u))
one-call k u h =
    let s = idle_step k (yes u) in
    let m = step_adds k (yes u) in
    rw (said-seen k.seen, fitted-same s.idle (omega arith), fitted-same s.since (omega arith))

calls-kept : (k : Kept) (us : List ℕ) → k.idle + k.since + length us ≤ 4294967295
    → foldl {B = ℕ × ℕ × ℕ} (λ n u. idle_step_of n.0 n.1 n.2 u) (plain k) us ≡ plain (foldl idle_step k (map yes us))
calls-kept k [] h = refl
calls-kept k (u ∷ us) h =
    let m = step_adds k (yes u) in
    ap (λ n. foldl {B = ℕ × ℕ × ℕ} (λ n u. idle_step_of n.0 n.1 n.2 u) n us) (one-call k u (omega arith))
    ∙ calls-kept (idle_step k (yes u)) us (omega arith)

pub kept-by-calls : (us : List ℕ) → length us ≤ 4294967295 → (kept_by_calls us).0 ≡ (kept_after (map yes us)).idle
unfolding kept_after
kept-by-calls us h = ap (λ n. n.0) (calls-kept nothing_kept us (omega arith))
