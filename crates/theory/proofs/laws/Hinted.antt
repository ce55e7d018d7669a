-- A clause follows by its hints exactly where the words of document 01 say so.
use mathlib.Core.Path.{◌≡◌, refl, sym, ap, ◌∙◌}
use mathlib.Core.Logic.{◌↔◌, ⊎_elim}
use mathlib.Core.Bool.{Bool, true, false, cond, ◌||◌}
use mathlib.Core.List.{List, [], ◌∷◌, ◌++◌, map}
use mathlib.Core.List.Memᴰ
use mathlib.Core.List.{Memᴰ}
use mathlib.Core.Option.{Option, none, some}
use Prim.Native.Nat.{ℕ, ◌-◌, ◌%◌}
use native.Mathlib.Omega.{arith}
use lib.Dec.{eqb}
use borrow.Author.Tests.{eq-eqb, eqb-true}
use Rattle.scope.specs.Kinds.{member, outside}
use Rattle.scope.specs.Cnf.{opp}
use Rattle.scope.specs.Steps.{Live, either, follows, not_live, breaks, by_rest, hints_show}
use Rattle.scope.specs.Refutation.{AllFalse, Open, Hinted, conflict, implied, Follows}
use Rattle.laws.specs.Booleans.{impossible, never_true}

pub opp-opp : (l : ℕ) → opp (opp l) ≡ l
opp-opp l = let e : opp l % 2 ≡ 1 - l % 2 = omega arith in omega arith

opp-same : (l k : ℕ) → opp l ≡ opp k → l ≡ k
opp-same l k e = sym (opp-opp l) ∙ ap (λ j. opp j) e ∙ opp-opp k

-- the literals φ are set false and τ true: each the opposites of the other
record Opposites (φ τ : List ℕ) : Type 0 where
  false_true : (l : ℕ) → member l φ ≡ true → Memᴰ (opp l) τ
  true_false : (l : ℕ) → Memᴰ (opp l) τ → member l φ ≡ true

or_also : {b : Bool} (a : Bool) → b ≡ true → (a || b) ≡ true
or_also true e = refl
or_also false e = e

-- of a new clause
clause_opposites : (c : List ℕ) (l : ℕ) → member l c ≡ true → Memᴰ (opp l) (map opp c)
unfolding member
clause_opposites [] l h = never_true h
clause_opposites (k ∷ ks) l h = go (clause_opposites ks l) (eqb l k) refl h
  where
    go : (member l ks ≡ true → Memᴰ (opp l) (map opp ks)) → (b : Bool) → eqb l k ≡ b → (b || member l ks) ≡ true
        → Memᴰ (opp l) (map opp (k ∷ ks))
    go ih true t h = Memᴰ.head (ap (λ j. opp j) (eqb-true l k t))
    go ih false t h = Memᴰ.tail (ih h)

opposites-clause : (c : List ℕ) (l : ℕ) → Memᴰ (opp l) (map opp c) → member l c ≡ true
unfolding member
opposites-clause [] l i = absurd (Memᴰ.not-nil i)
opposites-clause (k ∷ ks) l (Memᴰ.head e) = rw (eq-eqb l k (opp-same l k e))
opposites-clause (k ∷ ks) l (Memᴰ.tail i) = or_also (eqb l k) (opposites-clause ks l i)

-- with one more literal set true
opposites-more : {φ τ : List ℕ} → Opposites φ τ → (k : ℕ) → Opposites (opp k ∷ φ) (k ∷ τ)
unfolding member
opposites-more {φ} {τ} d k = record { false_true = λ l. to l (eqb l (opp k)) refl; true_false = from }
  where
    to : (l : ℕ) (b : Bool) → eqb l (opp k) ≡ b → (b || member l φ) ≡ true → Memᴰ (opp l) (k ∷ τ)
    to l true t h = Memᴰ.head (ap (λ j. opp j) (eqb-true l (opp k) t) ∙ opp-opp k)
    to l false t h = Memᴰ.tail (d.false_true l h)

    from : (l : ℕ) → Memᴰ (opp l) (k ∷ τ) → (eqb l (opp k) || member l φ) ≡ true
    from l (Memᴰ.head e) = rw (eq-eqb l (opp k) (sym (opp-opp l) ∙ ap (λ j. opp j) e))
    from l (Memᴰ.tail i) = or_also (eqb l (opp k)) (d.true_false l i)

-- A clause by its literals that are not false: none of them,
abbrev All : List ℕ → List ℕ → Type 0
All φ c = (l : ℕ) → Memᴰ l c → member l φ ≡ true

all_cons : (φ : List ℕ) (l : ℕ) (ls : List ℕ) → member l φ ≡ true → All φ ls → All φ (l ∷ ls)
all_cons φ l ls t h k i = ⊎_elim (λ e. ap (λ j. member j φ) e ∙ t) (h k) (Memᴰ.cases_cons i)

none_left : (φ c : List ℕ) → outside φ c ≡ [] → All φ c
unfolding outside
none_left φ [] e = λ l i. absurd (Memᴰ.not-nil i)
none_left φ (k ∷ ks) e = go (none_left φ ks) (member k φ) refl e
  where
    go : (outside φ ks ≡ [] → All φ ks) → (b : Bool) → member k φ ≡ b → cond b (outside φ ks) (k ∷ outside φ ks) ≡ [] → All φ (k ∷ ks)
    go ih true t e = all_cons φ k ks t (ih e)
    go ih false t e = impossible (cc)

left-none : (φ c : List ℕ) → All φ c → outside φ c ≡ []
unfolding outside
left-none φ [] h = refl
left-none φ (k ∷ ks) h = rw (h k (Memᴰ.head refl)) (left-none φ ks (λ l i. h l (Memᴰ.tail i)))

-- and exactly one
pub record OneLeft (φ c : List ℕ) (l : ℕ) : Type 0 where
  pub before : List ℕ
  pub behind : List ℕ
  pub split : c ≡ before ++ l ∷ behind
  pub left : member l φ ≡ false
  pub false_before : All φ before
  pub false_behind : All φ behind

pub one_left : (φ c : List ℕ) (l : ℕ) → outside φ c ≡ l ∷ [] → OneLeft φ c l
unfolding outside
one_left φ [] l e = impossible (cc)
one_left φ (k ∷ ks) l e = go (one_left φ ks l) (member k φ) refl e
  where
    go : (outside φ ks ≡ l ∷ [] → OneLeft φ ks l) → (b : Bool) → member k φ ≡ b
        → cond b (outside φ ks) (k ∷ outside φ ks) ≡ l ∷ [] → OneLeft φ (k ∷ ks) l
    go ih true t e =
        let h = ih e in
        record {
          before = k ∷ h.before;
          behind = h.behind;
          split = ap (◌∷◌ k) h.split;
          left = h.left;
          false_before = all_cons φ k h.before t h.false_before;
          false_behind = h.false_behind;
        }
    go ih false t e =
        let p : k ≡ l = cc in
        let q : outside φ ks ≡ [] = cc in
        record {
          before = [];
          behind = ks;
          split = ap (λ j. j ∷ ks) p;
          left = rw p at t;
          false_before = λ j i. absurd (Memᴰ.not-nil i);
          false_behind = none_left φ ks q;
        }

left_one : (φ xs : List ℕ) (k : ℕ) (ys : List ℕ) → All φ xs → member k φ ≡ false → All φ ys → outside φ (xs ++ k ∷ ys) ≡ k ∷ []
unfolding outside
left_one φ [] k ys h o g = rw o (ap (◌∷◌ k) (left-none φ ys g))
left_one φ (x ∷ xs) k ys h o g =
    rw (h x (Memᴰ.head refl)) (left_one φ xs k ys (λ l i. h l (Memᴰ.tail i)) o g)

module _ {φ τ : List ℕ} (d : Opposites φ τ) where
  all-false : (c : List ℕ) → All φ c → AllFalse τ c
  all-false c h l i = d.false_true l (h l i)

  false_all : (c : List ℕ) → AllFalse τ c → All φ c
  false_all c h l i = d.true_false l (h l i)

  -- open is what is neither false nor true
  is_open_lem : (k : ℕ) → member k φ ≡ false → member (opp k) φ ≡ false → Open τ k
  is_open_lem k e f = (
    λ i. never_true (sym f ∙ d.true_false (opp k) (rw (opp-opp k) i)),
    λ i. never_true (sym e ∙ d.true_false k i),
  )

  open_is : (k : ℕ) → Open τ k → (member k φ ≡ false) × (member (opp k) φ ≡ false)
  open_is k o = (
    go (member k φ) (λ t. o.1 (d.false_true k t)),
    go (member (opp k) φ) (λ t. o.0 (rw (opp-opp k) at (d.false_true (opp k) t))),
  )
    where
      go : (b : Bool) → (b ≡ true → ⊥) → b ≡ false
      go true h = absurd (h refl)
      go false h = refl

-- where the hints show it, it follows
hinted : {φ τ : List ℕ} (L : Live) → Opposites φ τ → (hs : List ℕ) → hints_show L φ hs ≡ follows → Hinted L τ hs
unfolding hints_show
hinted L d [] e = impossible (cc)
hinted {φ} {τ} L d (h ∷ hs) e = by_live (λ k. hinted {φ = opp k ∷ φ} {τ = k ∷ τ} L (opposites-more d k) hs) (L h) refl e
  where
    Ih : Type 0
    Ih = (k : ℕ) → hints_show L (opp k ∷ φ) hs ≡ follows → Hinted L (k ∷ τ) hs

    ending : (c : List ℕ) → L h ≡ some c → All φ c → (hs : List ℕ) → by_rest φ [] hs (λ φ'. hints_show L φ' hs) ≡ follows
        → Hinted L τ (h ∷ hs)
    ending c t f [] e = conflict t (all-false d c f)
    ending c t f (_ ∷ _) e = impossible (cc)

    one : Ih → (c : List ℕ) → L h ≡ some c → (k : ℕ) → OneLeft φ c k → (b : Bool) → member (opp k) φ ≡ b
        → cond b breaks (hints_show L (opp k ∷ φ) hs) ≡ follows → Hinted L τ (h ∷ hs)
    one ih c t k o true m e = impossible (cc)
    one ih c t k o false m e =
        implied (t ∙ ap some o.split) (all-false d o.before o.false_before) (is_open_lem d k o.left m)
        (all-false d o.behind o.false_behind) (ih k e)

    rest : Ih → (c : List ℕ) → L h ≡ some c → (r : List ℕ) → outside φ c ≡ r
        → by_rest φ r hs (λ φ'. hints_show L φ' hs) ≡ follows → Hinted L τ (h ∷ hs)
    rest ih c t [] q e = ending c t (none_left φ c q) hs e
    rest ih c t (k ∷ []) q e = one ih c t k (one_left φ c k q) (member (opp k) φ) refl e
    rest ih c t (k ∷ j ∷ ls) q e = impossible (cc)

    by_live : Ih → (o : Option (List ℕ)) → L h ≡ o
        → either o not_live (λ c. by_rest φ (outside φ c) hs (λ φ'. hints_show L φ' hs)) ≡ follows → Hinted L τ (h ∷ hs)
    by_live ih none t e = impossible (cc)
    by_live ih (some c) t e = rest ih c t (outside φ c) refl e

-- and where it follows, the hints show it
hinting : (L : Live) {φ τ : List ℕ} → Opposites φ τ → {hs : List ℕ} → Hinted L τ hs → hints_show L φ hs ≡ follows
unfolding hints_show
hinting L {φ} d (conflict {c = c} t f) = rw (t, left-none φ c (false_all d c f))
hinting L {φ} d (implied {xs = xs} {ys = ys} {k = k} t f o g n) =
    let p = open_is d k o in
    rw (t, left_one φ xs k ys (false_all d xs f) p.0 (false_all d ys g), p.1) (hinting L {φ = opp k ∷ φ} (opposites-more d k) n)

-- the hints show that a clause follows exactly where it does
pub hints-exact : (L : Live) (c hs : List ℕ) → (hints_show L c hs ≡ follows) ↔ Follows L c hs
hints-exact L c hs = (hinted L d hs, hinting L d)
  where
    d : Opposites c (map opp c)
    d = record { false_true = clause_opposites c; true_false = opposites-clause c }
