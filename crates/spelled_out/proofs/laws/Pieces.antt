-- The pieces of an accepted file, one after another, and where they stand; the file with its groups spelled out is made of them.
use Prim.Native.Nat.{ℕ, ◌+◌, ◌≤◌}
use mathlib.Core.Path.{◌≡◌, sym, ap, ◌∙◌}
use mathlib.Core.List.{List, ◌++◌, flat_map}
use lib.Dec.{leb}
use lib.ListN.{length, drop}
use borrow.Author.Tests.{leb-true}
use Rattle.scope.specs.Parsed.{Parsed, got, and_then, repeat}
use Rattle.scope.specs.Number.{limited, listed}
use Rattle.scope.specs.Kinds.{Event, Constraint}
use Rattle.scope.specs.Calendar.{windows_after}
use Rattle.scope.specs.Instance.{Instance, Times, times_at, sizes_at, event_at, groups_at, all_groups_at, constraints_at, file_up_to}
use Rattle.scope.specs.SpelledOut.{spelt, spelt_list, bytes_from, spelled_out}
use Rattle.parsing.proofs.laws.Parsing.{and_then-got, unless-got, got-value}

-- one value, one end
got-end : {A : Type 0} {a b : A} {m n : ℕ} → got a m ≡ got b n → m ≡ n
got-end e = cc

-- the pieces of a file that was read as i, with up to so many groups: the values, the offsets after them, and their readings
pub record Pieces (most : ℕ) (file : List ℕ) (i : Instance) : Type 0 where
  pub t : Times
  pub n : ℕ × ℕ
  pub es : List Event
  pub G : ℕ
  pub gs : List (List ℕ)
  pub ws : List (List ℕ)
  pub cs : List Constraint
  pub a : ℕ
  pub b : ℕ
  pub c : ℕ
  pub d : ℕ
  pub e : ℕ
  pub f : ℕ
  pub last : ℕ
  pub times : times_at file ≡ got t a
  pub sizes : sizes_at file a ≡ got n b
  pub events : repeat n.0 (event_at t.count n.1 file) b ≡ got es c
  pub count : limited 0 most file c ≡ got G d
  pub groups : repeat G (listed t.count file) d ≡ got gs e
  pub windows : windows_after t.days file e ≡ got ws f
  pub constraints : constraints_at t.count n.1 es (gs ++ ws) file f ≡ got cs last
  pub through : length file ≤ last
  pub whole : record { times = t.count; resources = n.1; events = es; groups = gs ++ ws; constraints = cs } ≡ i

-- what follows from a reading after another, by the value and the end of the first
after-got : {A B Q : Type 0} (p : Parsed A) (f : A → ℕ → Parsed B) {b : B} {end : ℕ} → and_then p f ≡ got b end
    → ((a : A) (next : ℕ) → p ≡ got a next → f a next ≡ got b end → Q) → Q
after-got p f e k = let t = and_then-got p f e in k t.value t.next t.first t.rest

pub pieces : (most : ℕ) (file : List ℕ) {i : Instance} {end : ℕ} → file_up_to most file ≡ got i end → Pieces most file i
unfolding file_up_to all_groups_at groups_at
pieces most file h =
    after-got (times_at file) _ h
    (λ t a times h.
    after-got (sizes_at file a) _ h
    (λ n b sizes h.
    after-got (repeat n.0 (event_at t.count n.1 file) b) _ h
    (λ es c events h.
    after-got (all_groups_at most t file c) _ h
    (λ all f grouped h.
    after-got (constraints_at t.count n.1 es all file f) _ h
    (λ cs last constraints h.
    after-got (groups_at most t.count file c) _ grouped
    (λ gs e counted grouped.
    after-got (limited 0 most file c) _ counted
    (λ G d count groups.
    after-got (windows_after t.days file e) _ grouped
    (λ ws f' windows grouped.
    let both : all ≡ gs ++ ws = sym (got-value grouped) in
    let end = unless-got (leb (length file) last) 6 last _ h in
    record {
      t = t;
      n = n;
      es = es;
      G = G;
      gs = gs;
      ws = ws;
      cs = cs;
      a = a;
      b = b;
      c = c;
      d = d;
      e = e;
      f = f;
      last = last;
      times = times;
      sizes = sizes;
      events = events;
      count = count;
      groups = groups;
      windows = windows ∙ ap (got ws) (got-end grouped);
      constraints = rw both at constraints;
      through = leb-true (length file) last end.test;
      whole = rw both at (got-value end.rest);
    }))))))))

-- the file that its pieces make with the groups spelled out
abbrev pub made_of : {file : List ℕ} {i : Instance} → Pieces 1024 file i → List ℕ
made_of {file} p =
    spelt p.t.count
    ++ (bytes_from p.a p.c file
    ++ (spelt (length p.gs + length p.ws) ++ (bytes_from p.d p.e file ++ (flat_map spelt_list p.ws ++ drop p.f file))))

-- that is the file spelled out
pub spelled : (file : List ℕ) {i : Instance} (p : Pieces 1024 file i) → spelled_out file ≡ got (made_of p) p.f
unfolding spelled_out
spelled file p = rw (p.times, p.sizes, p.events, p.count, p.groups, p.windows)
