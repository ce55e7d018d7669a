-- Where every item reads earlier variables only, bytes 0 and 1 for the variables before the gates extend to exactly one list
-- of bytes at which each gate's output has its value.
use mathlib.Core.Path.{◌≡◌, refl, sym, ap, ◌∙◌}
use mathlib.Core.Bool.{Bool, true, false}
use mathlib.Core.List.{List, [], ◌∷◌, ◌++◌}
use Prim.Native.Nat.{ℕ, zero, suc, ◌+◌, ◌*◌, ◌/◌, ◌<◌, ◌≤◌}
use native.Mathlib.Omega.{arith}
use lib.Dec.{eqb}
use lib.ListN.{length, take, drop, length-append, length-drop, take-append-drop, get_or-append}
use lib.Seq.{append_snoc, get_or-append_seam, length-take-le}
use Rattle.laws.specs.Lists.{All, All-append, All-drop}
use Rattle.scope.specs.Cnf.{Assignment, bit, lit, clause, Gate, or, and, cell, Item, gate, hard, soft, gates}
use Rattle.theory.proofs.laws.Outputs.{byte, cube, value, outputs}
use Rattle.theory.proofs.laws.Circuit.{Holds}
use Rattle.theory.proofs.laws.Order.{Proper, Reads, Ordered}

-- what a gate says depends on the variables that it reads
module _ (ν μ : Assignment) (n : ℕ) (agree : (v : ℕ) → v < n → ν v ≡ μ v) where
  lit_agrees : (l : ℕ) → l < 2 * n → lit ν l ≡ lit μ l
  unfolding lit
  lit_agrees l h = rw (agree (l / 2) (omega arith))

  clause_agrees : (c : List ℕ) → All (Proper n) c → clause ν c ≡ clause μ c
  unfolding clause
  clause_agrees [] h = refl
  clause_agrees (l ∷ c) h = rw (lit_agrees l h.0.before, clause_agrees c h.1)

  cube_agrees : (c : List ℕ) → All (Proper n) c → cube ν c ≡ cube μ c
  unfolding cube
  cube_agrees [] h = refl
  cube_agrees (l ∷ c) h = rw (lit_agrees l h.0.before, cube_agrees c h.1)

  value_agrees : (g : Gate) → Reads n g → value ν g ≡ value μ g
  unfolding value
  value_agrees (or ls) h = clause_agrees ls h
  value_agrees (and ls) h = cube_agrees ls h
  value_agrees (cell x a b) h = rw (lit_agrees x h.0.before, lit_agrees a h.1, lit_agrees b h.2)

-- the variables of bytes m, with more bytes after them; the variable of the first byte after them
pub bit-append : (m r : List ℕ) (v : ℕ) → v ≤ length m → bit m v ≡ bit (m ++ r) v
unfolding bit
bit-append m r zero h = refl
bit-append m r (suc k) h = rw (get_or-append m r 0 k (omega arith))

bit-next : (m : List ℕ) (b : ℕ) (r : List ℕ) (v : ℕ) → suc (length m) ≡ v → bit (m ++ b ∷ r) v ≡ eqb b 1
unfolding bit
bit-next m b r v e = rw (← e) (rw get_or-append_seam)

eqb-byte : (b : Bool) → eqb (byte b) 1 ≡ b
eqb-byte true = refl
eqb-byte false = refl

byte-eqb : (b : ℕ) → b ≤ 1 → b ≡ byte (eqb b 1)
byte-eqb zero h = refl
byte-eqb (suc zero) h = refl
byte-eqb (suc (suc b)) h = let f : ⊥ = omega arith in absurd f

byte_small : (b : Bool) → byte b ≤ 1
byte_small true = omega arith
byte_small false = omega arith

length-snoc : (m : List ℕ) (b : ℕ) → length (m ++ b ∷ []) ≡ suc (length m)
length-snoc m b = simp length-append (omega arith)

-- the extension of bytes m by the gates' outputs
abbrev pub extended : List Item → List ℕ → List ℕ
extended is m = m ++ outputs is m

-- at the extension each gate holds
pub extended-holds : (is : List Item) (m : List ℕ) (v : ℕ) → suc (length m) ≡ v → Ordered v is → Holds (bit (extended is m)) v is
unfolding outputs
extended-holds [] m v e w = tt
extended-holds (gate g ∷ is) m v e w =
    let b = byte (value (bit m) g) in
    let r = outputs is (m ++ b ∷ []) in
    let s = value_agrees (bit m) (bit (m ++ b ∷ r)) v (λ u l. bit-append m (b ∷ r) u (omega arith)) g w.0 in (
      bit-next m b r v e ∙ eqb-byte (value (bit m) g) ∙ s,
      rw append_snoc at (extended-holds is (m ++ b ∷ []) (suc v) (omega (arith, length-snoc m b)) w.1),
    )
extended-holds (hard c ∷ is) m v e w = extended-holds is m v e w.1
extended-holds (soft x l ∷ is) m v e w = extended-holds is m v e w.1

outputs-only : (is : List Item) (m r : List ℕ) (v : ℕ) → suc (length m) ≡ v → Ordered v is → length r ≡ gates is
    → All (λ b. b ≤ 1) r → Holds (bit (m ++ r)) v is → r ≡ outputs is m
unfolding outputs
outputs-only [] m [] v e w n a h = refl
outputs-only [] m (b ∷ r) v e w n a h = let f : ⊥ = omega arith in absurd f
outputs-only (gate g ∷ is) m [] v e w n a h = let f : ⊥ = omega arith in absurd f
outputs-only (gate g ∷ is) m (b ∷ r) v e w n a h =
    let s = value_agrees (bit m) (bit (m ++ b ∷ r)) v (λ u l. bit-append m (b ∷ r) u (omega arith)) g w.0 in
    let c : b ≡ byte (value (bit m) g) = byte-eqb b a.0 ∙ ap byte (sym (bit-next m b r v e) ∙ h.0 ∙ sym s) in
    let l : suc (length (m ++ b ∷ [])) ≡ suc v = omega (arith, length-snoc m b) in
    let ih = outputs-only is (m ++ b ∷ []) r (suc v) l w.1 (omega arith) a.1 (rw append_snoc h.1) in
    cc (c, ih)
outputs-only (hard c ∷ is) m r v e w n a h = outputs-only is m r v e w.1 n a h
outputs-only (soft x l ∷ is) m r v e w n a h = outputs-only is m r v e w.1 n a h

-- bytes at which the gates hold are the extension of their first n
pub extended-only : (is : List Item) (m : List ℕ) (n : ℕ) → Ordered (n + 1) is → length m ≡ n + gates is → All (λ b. b ≤ 1) m
    → Holds (bit m) (n + 1) is → m ≡ extended is (take n m)
extended-only is m n w l a h =
    let s = take-append-drop n m in
    let t = length-take-le n m (omega arith) in
    let d : length (drop n m) ≡ gates is = simp length-drop (omega arith) in
    let o = outputs-only is (take n m) (drop n m) (n + 1) (omega (arith, t)) w d (All-drop (λ b. b ≤ 1) n m a) (rw s h) in
    cc (s, o)

length-outputs : (is : List Item) (m : List ℕ) → length (outputs is m) ≡ gates is
unfolding outputs
length-outputs [] m = refl
length-outputs (gate g ∷ is) m = ap suc (length-outputs is (m ++ byte (value (bit m) g) ∷ []))
length-outputs (hard c ∷ is) m = length-outputs is m
length-outputs (soft v l ∷ is) m = length-outputs is m

-- its length, and its bytes
pub length-extended : (is : List Item) (m : List ℕ) → length (extended is m) ≡ length m + gates is
length-extended is m = length-append m (outputs is m) ∙ ap (λ n. length m + n) (length-outputs is m)

outputs-bytes : (is : List Item) (m : List ℕ) → All (λ b. b ≤ 1) (outputs is m)
unfolding outputs
outputs-bytes [] m = tt
outputs-bytes (gate g ∷ is) m = (byte_small (value (bit m) g), outputs-bytes is (m ++ byte (value (bit m) g) ∷ []))
outputs-bytes (hard c ∷ is) m = outputs-bytes is m
outputs-bytes (soft v l ∷ is) m = outputs-bytes is m

pub extended-bytes : (is : List Item) (m : List ℕ) → All (λ b. b ≤ 1) m → All (λ b. b ≤ 1) (extended is m)
extended-bytes is m a = All-append (λ b. b ≤ 1) m (outputs is m) a (outputs-bytes is m)
