-- An accepted file with its groups spelled out is read as the same instance, wherever as many groups are allowed.
use Prim.Native.Nat.{ℕ, ◌+◌, ◌-◌, ◌≤◌, ◌<◌}
use mathlib.Core.Path.{◌≡◌, sym, ap, ◌∙◌}
use mathlib.Core.List.{List, [], ◌++◌, flat_map, append_assoc, append-nil}
use mathlib.Core.Option.{none}
use native.Mathlib.Omega.{arith}
use lib.ListN.{length, drop, length-append, length-drop}
use borrow.Author.Tests.{le-leb, ne_eqb}
use Rattle.scope.specs.Parsed.{Parsed, got, repeat}
use Rattle.scope.specs.Number.{limited, listed}
use Rattle.scope.specs.Kinds.{Event, Constraint}
use Rattle.scope.specs.Instance.{Instance, times_at, sizes_at, event_at, groups_at, all_groups_at, constraints_at, file_up_to}
use Rattle.scope.specs.SpelledOut.{spelt, spelt_list}
use Rattle.parsing.specs.Numbers.{Ascending}
use Rattle.parsing.specs.Each.{Each}
use Rattle.parsing.proofs.laws.Parsing.{repeat-length}
use Rattle.parsing.proofs.laws.Numbers.{limited-got}
use Rattle.spelled_out.proofs.laws.Reads.{Reads, drop_past, reads-and_then, reads-append, reads-limited}
use Rattle.spelled_out.proofs.laws.SpeltLists.{reads-spelt, reads-lists}
use Rattle.parsing.proofs.laws.Calendar.{times-got, windows-after}
use Rattle.spelled_out.proofs.laws.Pieces.{Pieces}

-- where the next bytes of a file are known, they are read, and those after them are known
next : {A Q : Type 0} {f : List ℕ → ℕ → Parsed A} {w : List ℕ} {v : A} → Reads f w v → (s : List ℕ) (at : ℕ) (q : List ℕ) → at ≤ length s
    → drop at s ≡ w ++ q → ((end : ℕ) → end ≤ length s → f s at ≡ got v end → drop end s ≡ q → Q) → Q
next {w = w} h s at q l e k =
    k (at + length w) (omega (arith, simp (length-drop, length-append) at (ap length e))) (h.here s at q e) (drop_past s at w q e)

-- T in place of a calendar
times-spelt : (T : ℕ) → T ≤ 125 → Reads (limited 0 125) (spelt T) T
times-spelt T high = reads-limited 0 125 (omega arith) high (reads-spelt T (omega arith))

times-read : (T : ℕ) (s : List ℕ) (end : ℕ) → 1 ≤ T → limited 0 125 s 0 ≡ got T end → times_at s ≡ got (record { count = T; days = none }) end
unfolding times_at
times-read T s end low e = rw (e, ne_eqb T 0 (λ z. omega arith))

-- bytes that are read as the sizes, the events, the groups and the constraints, with T and some windows spelled out between them
module _ (most T : ℕ) (n : ℕ × ℕ) (es : List Event) (gs ws : List (List ℕ)) (cs : List Constraint) (sizes events groups constraints : List ℕ)
    (low : 1 ≤ T) (high : T ≤ 125) (few : length gs + length ws ≤ most) (short : length gs + length ws < 16384)
    (sizes-read : Reads sizes_at sizes n)
    (events-read : Reads (λ s at. repeat n.0 (event_at T n.1 s) at) events es)
    (groups-read : Reads (λ s at. repeat (length gs) (listed T s) at) groups gs)
    (ascending : Each (Ascending T 0) ws)
    (constraints-read : Reads (constraints_at T n.1 es (gs ++ ws)) constraints cs) where
  -- the count takes in the windows, which follow the groups
  abbrev all_groups : List ℕ
  all_groups = spelt (length gs + length ws) ++ (groups ++ flat_map spelt_list ws)

  groups_spelt : Reads (groups_at most T) all_groups (gs ++ ws)
  unfolding groups_at
  groups_spelt =
      reads-and_then (limited 0 most) (λ count s next. repeat count (listed T s) next)
      (reads-limited 0 most (omega arith) few (reads-spelt (length gs + length ws) short))
      (reads-append (listed T) (length gs) (length ws) groups-read (reads-lists T ws (omega arith) ascending))

  -- with no calendar there are no windows after them
  all_read : Reads (all_groups_at most (record { count = T; days = none })) all_groups (gs ++ ws)
  unfolding all_groups_at
  all_read = record { here = λ s at q e. rw (groups_spelt.here s at q e, append-nil (gs ++ ws)) }

  regroup : spelt (length gs + length ws) ++ (groups ++ (flat_map spelt_list ws ++ constraints)) ≡ all_groups ++ constraints
  regroup = rw (append_assoc (spelt (length gs + length ws)) (groups ++ flat_map spelt_list ws) constraints, append_assoc groups (flat_map spelt_list ws) constraints)

  -- they make a file that is read as the instance
  pub made_read : (s : List ℕ)
      → s ≡ spelt T ++ ((sizes ++ events) ++ (spelt (length gs + length ws) ++ (groups ++ (flat_map spelt_list ws ++ constraints))))
      → file_up_to most s ≡ got (record { times = T; resources = n.1; events = es; groups = gs ++ ws; constraints = cs }) (length s)
  unfolding file_up_to
  made_read s e =
      next (times-spelt T high) s 0 _ (omega arith) e
      (λ a la times e.
      next sizes-read s a _ la (e ∙ append_assoc sizes events _)
      (λ b lb size e.
      next events-read s b _ lb e
      (λ c lc event e.
      next all_read s c constraints lc (e ∙ regroup)
      (λ d ld group e.
      next constraints-read s d [] ld (e ∙ sym (append-nil constraints))
      (λ end le constraint e.
      let none : length s - end ≡ 0 = sym (length-drop end s) ∙ ap length e in
      let through : end ≡ length s = omega arith in
      rw (times-read T s a low times, size, event, group, constraint, le-leb (length s) end (omega arith), through))))))

-- up to 1,024 time groups, and as many windows
pub all-groups : (file : List ℕ) (i : Instance) (p : Pieces 1024 file i) → length i.groups ≡ length p.gs + length p.ws
all-groups file i p = ap (λ (i : Instance). length i.groups) (sym p.whole) ∙ length-append p.gs p.ws

pub few-groups : (file : List ℕ) (i : Instance) (p : Pieces 1024 file i) → length i.groups ≤ 2048
few-groups file i p =
    let t = times-got file p.times in
    omega (
      arith,
      all-groups file i p,
      repeat-length p.G (listed p.t.count file) p.d p.groups,
      (limited-got 0 1024 file p.c p.count).high,
      (windows-after p.t.days p.t.count file p.e t.periods p.windows).count,
    )
