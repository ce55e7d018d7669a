-- Kind 3's walk: what is stored so far, continued by what is left, is the whole list.
use Prim.Native.Nat.{ℕ, zero, suc, ◌+◌, ◌-◌, ◌*◌, ◌≤◌, ◌<◌}
use mathlib.Core.Path.{◌≡◌, refl, sym, ap, ◌∙◌}
use mathlib.Core.List.{List, [], ◌++◌, append_assoc, append-nil}
use mathlib.Core.Bool.{Bool, true, false, cond}
use native.Mathlib.Omega.{arith}
use native.Mathlib.Nat.{add-zero}
use native.Mathlib.Numerals.{add-one}
use lib.Dec.{eqb}
use lib.ListN.{length, get_or, take, drop, set, length-append}
use lib.Seq.{take-suc-set, take-set-le, length-take-le}
use Rattle.scope.specs.Kinds.{preferred, counted_of, Reach, member, reached, from, up_to}
use Rattle.tables.specs.Rows.{row_at}
use Rattle.constraint.specs.declared.kinds.Head.{Head}
use Rattle.constraint.specs.Valid.{OneOf}
use Rattle.literals.specs.Variables.{base_of}
use Rattle.literals.specs.Words.{Holds, Indicator, starts_with}
use Rattle.literals.proofs.laws.Passed.{Passed, passed_here}
use Rattle.literals.specs.NodeWords.{nodes_words}
use Rattle.literals.proofs.laws.NodeWords.{nodes-words-both}
use Rattle.literals.proofs.laws.Tables.{duration-at}
use Rattle.list_nodes.specs.Ground.{layout_of}
use Rattle.list_nodes.specs.Stored.{list_in, num_of, Stored}
use Rattle.list_nodes.proofs.GroupRows.{known-row}
use Rattle.chain_lists.specs.declared.carried.Walk.{Walk}
use Rattle.chain_lists.specs.Reach.{reaches_gates, last_variable, reaches_literals, reach_at, near_after}
use Rattle.chain_lists.specs.Walk.{Went}
use Rattle.chain_lists.proofs.laws.Reach.{gates_both, literals_both, reached-step, from_outside_gates, from_outside_literals}

-- one time adds at most one member and three gates, and its variable is small
few-members : (t near : ℕ) (inside : Bool) → length (reach_at near inside t) ≤ 1
unfolding reach_at
few-members t zero true = omega arith
few-members t zero false = omega arith
few-members t (suc n) true = omega arith
few-members t (suc n) false = omega arith

module _ (y s t o p : ℕ) where
  few_gates : (near : ℕ) (inside : Bool) → length (reaches_gates y s (reach_at near inside t) o p) ≤ 3
  unfolding reach_at reaches_gates
  few_gates zero true = omega arith
  few_gates zero false = omega arith
  few_gates (suc n) true = omega arith
  few_gates (suc n) false = omega arith

  small_last : (b near : ℕ) (inside : Bool) → s + t ≤ b → o + 2 ≤ b → p ≤ b → last_variable s (reach_at near inside t) o p ≤ b
  unfolding reach_at last_variable
  small_last b zero true h i j = j
  small_last b zero false h i j = h
  small_last b (suc n) true h i j = omega arith
  small_last b (suc n) false h i j = i

  -- its literal is stored after n others, and kept where it is a member
  literal_kept : (near : ℕ) (inside : Bool) (members : List ℕ) (n : ℕ) → n < length members
      → take (n + length (reach_at near inside t)) (set members n (2 * last_variable s (reach_at near inside t) o p))
      ≡ take n members ++ reaches_literals s (reach_at near inside t) o
  unfolding reach_at last_variable reaches_literals
  literal_kept zero true members n h = rw (add-zero n, take-set-le n members n (2 * p) (omega arith), append-nil)
  literal_kept zero false members n h = rw (add-one n, take-suc-set members n (2 * (s + t)) h)
  literal_kept (suc m) true members n h = rw (add-one n, take-suc-set members n (2 * (o + 1)) h)
  literal_kept (suc m) false members n h = rw (add-one n, take-suc-set members n (2 * (o + 2)) h)

-- after t times
pub record Bounded (v t : ℕ) (w : Walk) : Type 0 where
  pub first : v ≤ w.next
  pub next : w.next ≤ v + 3 * t
  pub last : w.last ≤ 9000000
  pub words : w.at ≤ 12 * t
  pub members : w.members ≤ t

pub bounded-start : (v : ℕ) → v ≤ 8000001 → Bounded v 0 (record { near = 0; next = v; last = v; at = 0; members = 0 })
bounded-start v h = record { first = omega arith; next = omega arith; last = omega arith; words = omega arith; members = omega arith }

pub bounded-more : {y s later v t : ℕ} {w r : Walk} {out stored : List ℕ} (inside : Bool)
    → Bounded v t w
    → v ≤ 8000001
    → t < 125
    → s < 524288
    → Went y s later (reach_at w.near inside (t + 1)) w out r stored
    → Bounded v (t + 1) r
bounded-more {y} {s} {t = t} {w = w} inside b h i j q =
    let f = few_gates y s (t + 1) w.next w.last w.near inside in
    record {
      first = omega (arith, b.first, q.next);
      next = omega (arith, b.next, q.next, f);
      last =
          rw q.last
          (small_last y s (t + 1) w.next w.last 9000000 w.near inside (omega arith) (omega (arith, b.next)) b.last);
      words = omega (arith, b.words, q.words, f);
      members = omega (arith, b.members, q.members, few-members (t + 1) w.near inside);
    }

-- what is stored, and the entries that are left
pub record Left (y s v : ℕ) (whole rest : List Reach) (w : Walk) (members out : List ℕ) : Type 0 where
  pub nodes : take w.at out ++ nodes_words w.next (reaches_gates y s rest w.next w.last) ≡ nodes_words v (reaches_gates y s whole v v)
  pub count : w.next + length (reaches_gates y s rest w.next w.last) ≡ v + length (reaches_gates y s whole v v)
  pub literals : take w.members members ++ reaches_literals s rest w.next ≡ reaches_literals s whole v

-- all is stored
record All (y s v : ℕ) (whole : List Reach) (w : Walk) (members out : List ℕ) : Type 0 where
  nodes : take w.at out ≡ nodes_words v (reaches_gates y s whole v v)
  place : w.at ≡ length (nodes_words v (reaches_gates y s whole v v))
  count : w.next ≡ v + length (reaches_gates y s whole v v)
  literals : take w.members members ≡ reaches_literals s whole v

module _ {y s v : ℕ} {whole rest : List Reach} {w : Walk} {members out : List ℕ} (l : Left y s v whole rest w members out) where
  -- some entries more
  left_more : {later : ℕ} {xs ys : List Reach} {r : Walk} {stored kept : List ℕ}
      → rest ≡ xs ++ ys
      → Went y s later xs w out r stored
      → take (w.members + length xs) kept ≡ take w.members members ++ reaches_literals s xs w.next
      → Left y s v whole ys r kept stored
  left_more {xs = xs} {ys = ys} e q k =
      let o = w.next in
      let p = w.last in
      let gs = reaches_gates y s xs o p in
      let hs = reaches_gates y s ys (o + length gs) (last_variable s xs o p) in
      let g : reaches_gates y s rest o p ≡ gs ++ hs = rw e (gates_both y s xs ys o p) in
      record {
        nodes =
            rw (q.holds.front, q.next, q.last)
            (append_assoc (take w.at out) (nodes_words o gs) (nodes_words (o + length gs) hs)
            ∙ ap (◌++◌ (take w.at out)) (sym (nodes-words-both gs hs o))
            ∙ rw g at l.nodes);
        count = rw (q.next, q.last) (omega (arith, rw g at l.count, length-append gs hs));
        literals =
            rw (q.members, k, q.next)
            (append_assoc (take w.members members) (reaches_literals s xs o) (reaches_literals s ys (o + length gs))
            ∙ ap (◌++◌ (take w.members members)) (sym (literals_both y s xs ys o p))
            ∙ rw e at l.literals);
      }

  -- nothing is left
  left_all : rest ≡ [] → w.at ≤ length out → All y s v whole w members out
  unfolding reaches_gates reaches_literals nodes_words
  left_all e k =
      let a : take w.at out ≡ nodes_words v (reaches_gates y s whole v v) = sym (append-nil (take w.at out)) ∙ rw e at l.nodes in
      record {
        nodes = a;
        place = sym (length-take-le w.at out k) ∙ ap length a;
        count = omega (arith, rw e at l.count);
        literals = sym (append-nil (take w.members members)) ∙ rw e at l.literals;
      }

-- the entries after t times of a group
abbrev pub rest_of : (T d : ℕ) (g : List ℕ) (near t : ℕ) → List Reach
rest_of T d g near t = reached d g near (from (t + 1) (T - t))

rest-step : (T d : ℕ) (g : List ℕ) (near t : ℕ) → t < T
    → rest_of T d g near t ≡ reach_at near (member (t + 1) g) (t + 1) ++ rest_of T d g (near_after (d - 1) near (member (t + 1) g)) (t + 1)
unfolding from
rest-step T d g near t h =
    let e : T - t ≡ suc (T - (t + 1)) = omega arith in
    let f : suc (t + 1) ≡ t + 1 + 1 = omega arith in
    rw (e, ← f) (reached-step d g near (t + 1) (from (suc (t + 1)) (T - (t + 1))))

pub left_start : (T d : ℕ) (g : List ℕ) (y s v : ℕ) (members out : List ℕ)
    → Left y s v (reached d g 0 (up_to T)) (rest_of T d g 0 0) (record { near = 0; next = v; last = v; at = 0; members = 0 }) members out
left_start T d g y s v members out =
    let e : T - 0 ≡ T = omega arith in
    rw e (record { nodes = refl; count = refl; literals = refl })

rest-none : (T d : ℕ) (g : List ℕ) (near : ℕ) → rest_of T d g near T ≡ []
unfolding from reached
rest-none T d g near = let e : T - T ≡ 0 = omega arith in rw e

-- whether time t + 1 is in the group is told by member k of its row
pub told : {n : ℕ} {row : List ℕ} {k t : ℕ} {b : Bool} → Passed n row k t → b ≡ starts_with (t + 1) (drop k row) → member (t + 1) row ≡ b
told p e = passed_here p ∙ sym e

-- time t + 1 is passed
pub left-next : (T d : ℕ) (g : List ℕ) (i : Bool) {y s v t after : ℕ} {w r : Walk} {members out stored : List ℕ}
    → Left y s v (reached d g 0 (up_to T)) (rest_of T d g w.near t) w members out
    → t < T
    → after ≡ d - 1
    → member (t + 1) g ≡ i
    → Went y s (near_after after w.near i) (reach_at w.near i (t + 1)) w out r stored
    → w.members < length members
    → Left y s v (reached d g 0 (up_to T)) (rest_of T d g r.near (t + 1)) r (set members w.members (2 * r.last)) stored
left-next T d g i {y} {s} {t = t} {w = w} {r = r} {members = members} l h a m q k =
    let e : rest_of T d g w.near t ≡ reach_at w.near i (t + 1) ++ rest_of T d g r.near (t + 1) =
    rw (q.near, a, ← m) (rest-step T d g w.near t h) in
    left_more l e q (rw (← q.last) at (literal_kept y s (t + 1) w.next w.last w.near i members w.members k))

-- the whole list
pub preferred-stored : (h : Head) (durations groups : List ℕ) (e g v : ℕ) → OneOf h.events e → OneOf h.groups g
    → {w : Walk} {members words out : List ℕ} {end : ℕ} (t : ℕ)
    → t ≡ h.times
    → Left (base_of 0 h.times e) (base_of (layout_of h).starts h.times e) v
    (reached (get_or durations (e - 1) 0) (row_at groups (g - 1)) 0 (up_to h.times))
    (rest_of h.times (get_or durations (e - 1) 0) (row_at groups (g - 1)) w.near t)
    w
    members
    words
    → w.at ≤ length words
    → Holds out end (take w.at words ++ take w.members members)
    → (nodes : ℕ)
    → nodes ≡ w.next - v
    → Stored (num_of h) (list_in durations (λ r. []) groups h (preferred e g) 1) v out (record { nodes = nodes; at = w.at; end = end })
unfolding counted_of
preferred-stored h durations groups e g v a b {w = w} t f l k q nodes n =
    let T = h.times in
    let d = get_or durations (e - 1) 0 in
    let row = row_at groups (g - 1) in
    let i = left_all l (ap (rest_of T d row w.near) f ∙ rest-none T d row w.near) k in
    let x = from_outside_gates T (layout_of h) e v d row in
    let z = from_outside_literals T (layout_of h) e v d row in
    rw (duration-at durations h.events e a.low a.high, known-row groups h g b)
    (record {
      holds = rw (x, z, ← i.nodes, ← i.literals) q;
      nodes = rw x (omega (arith, i.count));
      at = rw x i.place;
    })
