-- Every item of a formula reads earlier variables only: what that says, and its laws.
use mathlib.Core.List.{List, [], ◌∷◌, ◌++◌, map}
use Prim.Native.Nat.{ℕ, suc, ◌+◌, ◌*◌, ◌<◌, ◌≤◌}
use native.Mathlib.Nat.{add-zero, suc-add, add-suc}
use native.Mathlib.Omega.{arith}
use lib.ListN.{length}
use Rattle.laws.specs.Lists.{All, All-weaken}
use Rattle.scope.specs.Cnf.{opp, Gate, or, and, cell, Item, gate, hard, soft, gates}
use Rattle.theory.proofs.laws.Circuit.{gates-map}

-- a literal, and no constant, of a variable before n
pub record Proper (n l : ℕ) : Type 0 where
  pub literal : 2 ≤ l
  pub before : l < 2 * n

-- a gate's inputs are literals of variables before n; a cell's a and b may be constants
abbrev pub Reads : ℕ → Gate → Type 0
Reads n (or ls) = All (Proper n) ls
Reads n (and ls) = All (Proper n) ls
Reads n (cell x a b) = Proper n x × (a < 2 * n) × (b < 2 * n)

-- the literals of an item are of variables before n
abbrev pub ItemReads : ℕ → Item → Type 0
ItemReads n (gate g) = Reads n g
ItemReads n (hard c) = All (Proper n) c
ItemReads n (soft w l) = Proper n l

-- each item reads literals of earlier variables, where n is the variable of the first gate's output
abbrev pub Ordered : ℕ → List Item → Type 0
Ordered n [] = Unit {0}
Ordered n (gate g ∷ is) = Reads n g × Ordered (suc n) is
Ordered n (hard c ∷ is) = All (Proper n) c × Ordered n is
Ordered n (soft w l ∷ is) = Proper n l × Ordered n is

-- items one after the other; gates, then other items
pub Ordered-append : (n : ℕ) (is js : List Item) → Ordered n is → Ordered (n + gates is) js → Ordered n (is ++ js)
Ordered-append n [] js a b = rw add-zero at b
Ordered-append n (gate g ∷ is) js a b = (a.0, Ordered-append (suc n) is js a.1 (rw (add-suc, ← suc-add) at b))
Ordered-append n (hard c ∷ is) js a b = (a.0, Ordered-append n is js a.1 b)
Ordered-append n (soft w l ∷ is) js a b = (a.0, Ordered-append n is js a.1 b)

pub Ordered-gates : (n : ℕ) (gs : List Gate) (is : List Item) → Ordered n (map gate gs) → Ordered (n + length gs) is
    → Ordered n (map gate gs ++ is)
Ordered-gates n gs is a b = Ordered-append n (map gate gs) is a (rw gates-map b)

-- the opposite of a literal is one of the same variable
pub opp-proper : (n l : ℕ) → Proper n l → Proper n (opp l)
opp-proper n l p = record { literal = omega (arith, p.literal); before = omega (arith, p.before) }

-- what reads variables before n reads variables before m, for n ≤ m
pub proper-up : (n m l : ℕ) → n ≤ m → Proper n l → Proper m l
proper-up n m l h p = record { literal = p.literal; before = omega (arith, p.before) }

pub all-proper-up : (n m : ℕ) (ls : List ℕ) → n ≤ m → All (Proper n) ls → All (Proper m) ls
all-proper-up n m ls h = All-weaken (Proper n) (Proper m) (λ l. proper-up n m l h) ls

reads_up : (n m : ℕ) (g : Gate) → n ≤ m → Reads n g → Reads m g
reads_up n m (or ls) h r = all-proper-up n m ls h r
reads_up n m (and ls) h r = all-proper-up n m ls h r
reads_up n m (cell x a b) h r = (proper-up n m x h r.0, omega (arith, r.1), omega (arith, r.2))

-- items that all read variables before the first of them
pub Ordered-all : (n m : ℕ) (is : List Item) → n ≤ m → All (ItemReads n) is → Ordered m is
Ordered-all n m [] h a = tt
Ordered-all n m (gate g ∷ is) h a = (reads_up n m g h a.0, Ordered-all n (suc m) is (omega arith) a.1)
Ordered-all n m (hard c ∷ is) h a = (all-proper-up n m c h a.0, Ordered-all n m is h a.1)
Ordered-all n m (soft w l ∷ is) h a = (proper-up n m l h a.0, Ordered-all n m is h a.1)
