-- The gathered literals are literals of variables, and fit a word with a bit to spare: laws.
use Prim.Native.Nat.{ℕ, zero, suc, ◌+◌, ◌*◌, ◌≤◌, ◌<◌}
use mathlib.Core.List.{List, ◌++◌, map, flat_map}
use native.Mathlib.Omega.{arith}
use Rattle.scope.specs.Kinds.{from, up_to}
use Rattle.parsing.specs.Each.{Each, each_none, each_more}
use Rattle.parsing.specs.Numbers.{Ascending, none, more}
use Rattle.literals.specs.Variables.{base_of, literal_at, y_at, Within}
use Rattle.literals.proofs.laws.Variables.{row_small}
use Rattle.literals.specs.Outputs.{every}
use Rattle.literals.specs.Proper.{Proper}

-- of each of two lists, one after the other
pub each_both : {A : Type 0} {P : A → Type 0} {xs ys : List A} → Each P xs → Each P ys → Each P (xs ++ ys)
each_both each_none q = q
each_both (each_more p ps) q = each_more p (each_both ps q)

-- of row k of a block, at time t
pub literal-proper : (before T k t : ℕ) → before ≤ 256000 → T ≤ 125 → Within 1024 k → Within 125 t → Proper (literal_at (base_of before T k) t)
unfolding literal_at base_of
literal-proper before T k t h l a b =
    let s = row_small T k l a.high in
    record { low = omega arith; high = omega arith }

-- at some times, and of some events at a time
pub times-proper : (before T k : ℕ) {ts : List ℕ} → before ≤ 256000 → T ≤ 125 → Within 1024 k → Each (Within 125) ts
    → Each Proper (map (literal_at (base_of before T k)) ts)
times-proper before T k h l a each_none = each_none
times-proper before T k h l a (each_more {x = t} b bs) = each_more (literal-proper before T k t h l a b) (times-proper before T k h l a bs)

pub events-proper : (T t : ℕ) {es : List ℕ} → T ≤ 125 → Within 125 t → Each (Within 1024) es → Each Proper (map (λ e. y_at T e t) es)
events-proper T t l b each_none = each_none
events-proper T t l b (each_more {x = e} a r) = each_more (literal-proper 0 T e t (omega arith) l a b) (events-proper T t l b r)

pub spread-proper : (before T : ℕ) {es ts : List ℕ} → before ≤ 256000 → T ≤ 125 → Each (Within 1024) es → Each (Within 125) ts
    → Each Proper (flat_map (λ e. map (literal_at (base_of before T e)) ts) es)
unfolding flat_map
spread-proper before T h l each_none bs = each_none
spread-proper before T h l (each_more {x = e} a r) bs = each_both (times-proper before T e h l a bs) (spread-proper before T h l r bs)

-- of gates' outputs
pub every-proper : (step v n : ℕ) → 1 ≤ v → v + step * n < 1073741824 → Each Proper (every step v n)
unfolding every
every-proper step v zero h l = each_none
every-proper step v (suc n) h l =
    each_more {x = 2 * v} (record { low = omega arith; high = omega arith }) (every-proper step (v + step) n (omega arith) (omega arith))

-- the numbers up to n, and those of an ascending list
from-within : (n k v : ℕ) → 1 ≤ v → v + k ≤ n + 1 → Each (Within n) (from v k)
unfolding from
from-within n zero v h l = each_none
from-within n (suc k) v h l = each_more {x = v} (record { low = h; high = omega arith }) (from-within n k (suc v) (omega arith) (omega arith))

pub up_to-within : (n k : ℕ) → k ≤ n → Each (Within n) (up_to k)
up_to-within n k h = from-within n k 1 (omega arith) (omega arith)

pub ascending-within : {n before : ℕ} {l : List ℕ} (m : ℕ) → n ≤ m → Ascending n before l → Each (Within m) l
ascending-within m h none = each_none
ascending-within m h (more {x = x} a b r) = each_more {x = x} (record { low = omega arith; high = omega arith }) (ascending-within m h r)
