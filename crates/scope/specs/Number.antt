-- "Every number is in groups of seven bits, lowest first, the top bit set on all bytes but the last, in its shortest form,
-- at most 4,294,967,295."
use Rattle.std.specs.Prelude.{ℕ, zero, suc, ◌+◌, ◌*◌, ◌%◌, List, [], ◌∷◌, cond, drop, ltb, leb, eqb}
use Rattle.scope.specs.Parsed.{Parsed, got, refused, and_then, unless, cons}

-- the number at the front of some bytes: its value and how many bytes it takes; broken where it is cut short or overlong
pub data Front : Type 0 where
  broken : Front
  whole : (value bytes : ℕ) → Front

-- a byte with its top bit set, before the other groups, which in the shortest form are not 0
unfoldable pub group : ℕ → Front → Front
group b broken = broken
group b (whole v n) = cond (eqb v 0) broken (whole (b % 128 + 128 * v) (suc n))

unfoldable pub front : List ℕ → Front
front [] = broken
front (b ∷ bs) = cond (ltb b 128) (whole b 1) (group b (front bs))

-- the largest number
abbrev pub most : ℕ
most = 4294967295

-- broken too where it is too large
unfoldable pub within : Front → Front
within broken = broken
within (whole v n) = cond (leb v most) (whole v n) broken

abbrev pub number_from : ℕ → Front → Parsed ℕ
number_from at broken = refused 1 at
number_from at (whole v n) = got v (at + n)

-- the number at an offset: 1 where it is cut short, overlong or too large
unfoldable pub number : List ℕ → ℕ → Parsed ℕ
number s at = number_from at (within (front (drop at s)))

-- a number within its limits, else 2
unfoldable pub limited : ℕ → ℕ → List ℕ → ℕ → Parsed ℕ
limited lo hi s at = and_then (number s at) (λ v next. unless (leb lo v) 2 at (unless (leb v hi) 2 at (got v next)))

-- a reference to one of n things, above the one before it, else 3
unfoldable pub reference : ℕ → ℕ → List ℕ → ℕ → Parsed ℕ
reference before n s at =
    and_then (number s at) (λ v next. unless (ltb before v) 3 at (unless (leb v n) 3 at (got v next)))

-- so many references, strictly ascending
unfoldable pub references : ℕ → ℕ → ℕ → List ℕ → ℕ → Parsed (List ℕ)
references zero before n s at = got [] at
references (suc k) before n s at = and_then (reference before n s at) (λ v next. cons v (references k v n s next))

-- a list: its count, 0 up to the number of things that exist, and its members
unfoldable pub listed : ℕ → List ℕ → ℕ → Parsed (List ℕ)
listed n s at = and_then (limited 0 n s at) (λ count next. references count 0 n s next)
