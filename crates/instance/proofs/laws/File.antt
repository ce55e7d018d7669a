-- The file in two parts: the tables, and the constraints up to the end: laws.
use Prim.Native.Nat.{ℕ}
use mathlib.Core.Path.{◌≡◌, refl, ◌∙◌}
use mathlib.Core.Bool.{Bool, true, false}
use mathlib.Core.List.{List}
use lib.Dec.{leb}
use lib.ListN.{length}
use Rattle.scope.specs.Parsed.{Parsed, got, refused, and_then, unless, repeat}
use Rattle.scope.specs.Number.{limited}
use Rattle.scope.specs.Kinds.{Event, Constraint}
use Rattle.scope.specs.Instance.{Instance, Times, times_at, event_at, sizes_at, all_groups_at, constraints_at, file_up_to, parse}
use Rattle.calendar.specs.Answers.{times_counted}
use Rattle.windows.specs.Times.{times_of, times_in}
use Rattle.constraint_end.specs.Ends.{whole_at}
use Rattle.instance.specs.File.{Start, sizes_in, tables_at, with_constraints, constraint_in}

-- the constraints up to the end of the file
unfoldable pub rest_at : List ℕ → Start → ℕ → Parsed Instance
rest_at s t at =
    and_then (limited 0 4096 s at)
    (λ count next. and_then (whole_at s count (constraint_in t s) next) (λ cs end. got (with_constraints t cs) end))

-- the checks for the end may come before or after the instance is made
rest-test : (b : Bool) (t : Start) (cs : List Constraint) (end : ℕ)
    → unless b 6 end (got (with_constraints t cs) end)
    ≡ and_then (unless b 6 end (got cs end)) (λ cs end. got (with_constraints t cs) end)
rest-test true t cs end = refl
rest-test false t cs end = refl

rest-list : (s : List ℕ) (t : Start) (p : Parsed (List Constraint))
    → and_then p (λ cs end. unless (leb (length s) end) 6 end (got (with_constraints t cs) end))
    ≡ and_then (and_then p (λ cs end. unless (leb (length s) end) 6 end (got cs end))) (λ cs end. got (with_constraints t cs) end)
rest-list s t (got cs end) = rest-test (leb (length s) end) t cs end
rest-list s t (refused k v) = refl

rest-count : (s : List ℕ) (t : Start) (p : Parsed ℕ) (q : ℕ → ℕ → Parsed (List Constraint))
    → and_then (and_then p q) (λ cs end. unless (leb (length s) end) 6 end (got (with_constraints t cs) end))
    ≡ and_then p
    (λ count next.
    and_then (and_then (q count next) (λ cs end. unless (leb (length s) end) 6 end (got cs end)))
    (λ cs end. got (with_constraints t cs) end))
rest-count s t (got count next) q = rest-list s t (q count next)
rest-count s t (refused k v) q = refl

rest-of : (s : List ℕ) (t : Start) (at : ℕ)
    → and_then (constraints_at t.times t.resources t.events t.groups s at)
    (λ cs end. unless (leb (length s) end) 6 end (got (with_constraints t cs) end))
    ≡ rest_at s t at
unfolding constraints_at rest_at whole_at
rest-of s t at = rest-count s t (limited 0 4096 s at) (λ count next. repeat count (constraint_in t s) next)

-- the rest may come after the tables are made
module _ {A B C D E : Type 0} (f : A → ℕ → Parsed B) (g : A → B → ℕ → Parsed C) (h : A → B → C → D) (r : D → ℕ → Parsed E) where
  third : (a : A) (b : B) (p : Parsed C) → and_then p (λ c z. r (h a b c) z) ≡ and_then (and_then p (λ c z. got (h a b c) z)) r
  third a b (got c z) = refl
  third a b (refused k v) = refl

  second : (a : A) (p : Parsed B)
      → and_then p (λ b y. and_then (g a b y) (λ c z. r (h a b c) z))
      ≡ and_then (and_then p (λ b y. and_then (g a b y) (λ c z. got (h a b c) z))) r
  second a (got b y) = third a b (g a b y)
  second a (refused k v) = refl

  first : (p : Parsed A)
      → and_then p (λ a x. and_then (f a x) (λ b y. and_then (g a b y) (λ c z. r (h a b c) z)))
      ≡ and_then (and_then p (λ a x. and_then (f a x) (λ b y. and_then (g a b y) (λ c z. got (h a b c) z)))) r
  first (got a x) = second a (f a x)
  first (refused k v) = refl

-- the sizes may be read before what depends on the days of a calendar
abbrev two : ℕ → Parsed ℕ → Parsed (ℕ × ℕ)
two E p = and_then p (λ R c. got (E, R) c)

abbrev three : ℕ → ℕ → Parsed ℕ → Parsed (ℕ × ℕ × ℕ)
three T E p = and_then p (λ R c. got (T, E, R) c)

module _ {A : Type 0} (G : ℕ × ℕ × ℕ → Times → ℕ → Parsed A) where
  abbrev then_two : Times → ℕ × ℕ → ℕ → Parsed A
  then_two t n b = G (t.count, n.0, n.1) t b

  sizes_third : (t : Times) (E : ℕ) (p : Parsed ℕ) → and_then (two E p) (then_two t) ≡ and_then (three t.count E p) (λ m b. G m t b)
  sizes_third t E (got R c) = refl
  sizes_third t E (refused k v) = refl

  sizes_second : (t : Times) (p : Parsed ℕ) (q : ℕ → Parsed ℕ)
      → and_then (and_then p (λ E b. two E (q b))) (then_two t) ≡ and_then (and_then p (λ E b. three t.count E (q b))) (λ m b. G m t b)
  sizes_second t (got E b) q = sizes_third t E (q b)
  sizes_second t (refused k v) q = refl

  sizes_first : (p : Parsed Times) (q r : ℕ → Parsed ℕ)
      → and_then p (λ t a. and_then (and_then (q a) (λ E b. two E (r b))) (then_two t))
      ≡ and_then (and_then (times_counted p) (λ T a. and_then (q a) (λ E b. three T E (r b)))) (λ m b. G m (times_of p) b)
  unfolding times_counted
  sizes_first (got t a) q r = sizes_second t (q a) r
  sizes_first (refused k v) q r = refl

-- what comes after the sizes
rest_of : List ℕ → ℕ × ℕ × ℕ → Times → ℕ → Parsed Instance
rest_of s n t a =
    and_then (repeat n.1 (event_at n.0 n.2 s) a)
    (λ es b.
    and_then (all_groups_at 1024 t s b)
    (λ gs c.
    and_then (constraints_at n.0 n.2 es gs s c)
    (λ cs end.
    unless (leb (length s) end) 6 end
    (got (record { times = n.0; resources = n.2; events = es; groups = gs; constraints = cs }) end))))

parse-sizes : (s : List ℕ) → parse s ≡ and_then (sizes_in s) (λ n a. rest_of s n (times_in s) a)
unfolding parse file_up_to sizes_at sizes_in rest_of
parse-sizes s = sizes_first (rest_of s) (times_at s) (limited 1 1024 s) (limited 0 99 s)

-- the file is the tables and then the constraints
pub parse-parts : (s : List ℕ) → parse s ≡ and_then (tables_at s) (rest_at s)
unfolding tables_at rest_of
parse-parts s =
    parse-sizes s
    ∙ simp rest_of'
    (first (λ n a. repeat n.1 (event_at n.0 n.2 s) a) (λ n es b. all_groups_at 1024 (times_in s) s b)
    (λ n es gs. record { times = n.0; resources = n.2; events = es; groups = gs })
    (rest_at s)
    (sizes_in s))
  where
    rest_of' : (T R : ℕ) (es : List Event) (gs : List (List ℕ)) (at : ℕ)
        → and_then (constraints_at T R es gs s at)
        (λ cs end.
        unless (leb (length s) end) 6 end
        (got (record { times = T; resources = R; events = es; groups = gs; constraints = cs }) end))
        ≡ rest_at s (record { times = T; resources = R; events = es; groups = gs }) at
    rest_of' T R es gs at = rest-of s (record { times = T; resources = R; events = es; groups = gs }) at
