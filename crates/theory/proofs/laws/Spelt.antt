-- What is read is exactly what the relations of Demands spell: numbers, lists up to a 0, steps, whole proofs.
use mathlib.Core.Path.{◌≡◌, refl, sym, ap, ◌∙◌}
use mathlib.Core.Logic.{◌↔◌}
use mathlib.Core.Bool.{Bool, true, false, cond}
use mathlib.Core.List.{List, [], ◌∷◌, ◌++◌, append_assoc}
use Prim.Native.Nat.{ℕ, zero, suc, ◌-◌, ◌≤◌, ◌<◌}
use native.Mathlib.Omega.{arith}
use lib.Dec.{leb, eqb}
use lib.ListN.{length, drop, length-append}
use lib.Seq.{drop-append_seam, drop_at}
use borrow.Author.Tests.{le-leb, leb-true, eqb-true}
use Rattle.scope.specs.Number.{Front, broken, whole, front, most, within}
use Rattle.scope.specs.Steps.{Step, add, delete}
use Rattle.theory.proofs.laws.StepTokens.{Tokens, stop, bad, num, by_front, tokens_after, tokens}
use Rattle.theory.proofs.laws.StepTokens.{Numbers, up_to0, cut, before, numbers}
use Rattle.theory.proofs.laws.StepTokens.{StepRead, read, misread, read_hints, read_literals, read_add, read_delete, read_step}
use Rattle.scope.specs.Spelling.{Spells, last, more, SpellsList, closing, item, SpellsStep, adds, deletes}
use Rattle.scope.specs.Spelling.{SpellsProof, nothing, step}
use Rattle.laws.specs.Booleans.{impossible}
use Rattle.theory.proofs.laws.Tokens.{tokens-whole, tokens-broken}
use Rattle.theory.proofs.laws.Front.{Spelt, front-spelt, spelt-front}

-- bytes of which these are the tokens
record Source (ts : Tokens) : Type 0 where
  bytes : List ℕ
  same : tokens bytes ≡ ts

-- the bytes begin with ones that satisfy S, and ts are the tokens of the others
record Reading (S : List ℕ → Type 0) (bs : List ℕ) (ts : Tokens) : Type 0 where
  taken : List ℕ
  left : Source ts
  split : bs ≡ taken ++ left.bytes
  spelt : S taken

-- what was read, said in another way
read_as : {S Q : List ℕ → Type 0} {bs : List ℕ} {ts : Tokens} → Reading S bs ts → ((p : List ℕ) → S p → Q p) → Reading Q bs ts
read_as k f = record { taken = k.taken; left = k.left; split = k.split; spelt = f k.taken k.spelt }

-- one reading after another
then-read : {S R Q : List ℕ → Type 0} {bs : List ℕ} {ts us : Tokens} (k : Reading S bs ts) → Reading R k.left.bytes us
    → ((q : List ℕ) → R q → Q (k.taken ++ q)) → Reading Q bs us
then-read k j f =
    record {
      taken = k.taken ++ j.taken;
      left = j.left;
      split = k.split ∙ ap (◌++◌ k.taken) j.split ∙ sym (append_assoc k.taken j.taken j.left.bytes);
      spelt = f j.taken j.spelt;
    }

-- A number.
-- one that is not too large
within-whole : (f : Front) (v n : ℕ) → within f ≡ whole v n → (f ≡ whole v n) × (v ≤ most)
unfolding within
within-whole broken v n e = impossible (cc)
within-whole (whole w m) v n e = go (leb w most) refl e
  where
    go : (t : Bool) → leb w most ≡ t → cond t (whole w m) broken ≡ whole v n → (whole w m ≡ whole v n) × (v ≤ most)
    go true t e = let p : w ≡ v = cc in (e, rw p at (leb-true w most t))
    go false t e = impossible (cc)

-- bytes that spell a number, as a reading
of-spelt : (bs : List ℕ) (v n : ℕ) (ts : Tokens) → ts ≡ tokens (drop n bs) → Spelt bs v n
    → Reading (Spells v) bs ts
of-spelt bs v n ts e k =
    record {
      taken = k.0;
      left =
          record {
            bytes = k.1;
            same = sym (e ∙ ap tokens (ap (drop n) k.2 ∙ drop_at k.0 k.1 n k.4));
          };
      split = k.2;
      spelt = k.3;
    }

-- a number that is read was spelt
read_number : (bs : List ℕ) (v : ℕ) (ts : Tokens) → tokens bs ≡ num v ts → (v ≤ most) × Reading (Spells v) bs ts
unfolding tokens_after
read_number [] v ts e = impossible (cc)
read_number (b ∷ bs) v ts e = go (within (front (b ∷ bs))) refl
  where
    go : (f : Front) → within (front (b ∷ bs)) ≡ f → (v ≤ most) × Reading (Spells v) (b ∷ bs) ts
    go broken t = let z = tokens-broken (b ∷ bs) (omega arith) t in impossible (cc)
    go (whole w n) t =
        let z = tokens-whole (b ∷ bs) w n t in
        let p : w ≡ v = cc in
        let q : ts ≡ tokens (drop n (b ∷ bs)) = cc in
        let h = within-whole (front (b ∷ bs)) v n (rw p at t) in
        (h.1, of-spelt (b ∷ bs) v n ts q (front-spelt (b ∷ bs) v n h.0))

number_read : {v : ℕ} {ts : Tokens} (c : Source (num v ts)) → (v ≤ most) × Reading (Spells v) c.bytes ts
number_read {v} {ts} c = read_number c.bytes v ts c.same

-- and a number that is spelt is read
spelt-number : {v : ℕ} {p : List ℕ} → v ≤ most → Spells v p → (r : List ℕ) → tokens (p ++ r) ≡ num v (tokens r)
unfolding within
spelt-number {v} {p} h s r =
    let e : within (front (p ++ r)) ≡ whole v (length p) = rw (spelt-front s r, le-leb v most h) in
    tokens-whole (p ++ r) v (length p) e ∙ ap (λ q. num v (tokens q)) (drop-append_seam p r)

-- a number below 128 is its byte
spells-small : {v : ℕ} {p : List ℕ} → Spells v p → v < 128 → p ≡ v ∷ []
spells-small (last h) l = refl
spells-small (more h k s) l = absurd (omega arith)

-- and such a byte is read as itself
spelt-byte : (b : ℕ) → b < 128 → (r : List ℕ) → tokens (b ∷ r) ≡ num b (tokens r)
spelt-byte b h r = spelt-number {v = b} (omega arith) (last h) r

-- Numbers up to a 0.
numbers-read : (us : Tokens) (c : Source us) (ns : List ℕ) (ts : Tokens) → numbers us ≡ up_to0 ns ts
    → Reading (SpellsList ns) c.bytes ts
unfolding numbers
numbers-read stop c ns ts e = impossible (cc)
numbers-read bad c ns ts e = impossible (cc)
numbers-read (num zero vs) c ns ts e =
    let p : [] ≡ ns = cc in
    let q : vs ≡ ts = cc in
    rw (← p, ← q) (read_as (number_read c).1 (λ p s. rw (spells-small s (omega arith)) closing))
numbers-read (num (suc n) vs) c ns ts e = go (numbers-read vs) (numbers vs) refl e
  where
    Ih : Type 0
    Ih = (d : Source vs) (ms : List ℕ) (us : Tokens) → numbers vs ≡ up_to0 ms us → Reading (SpellsList ms) d.bytes us

    go : Ih → (r : Numbers) → numbers vs ≡ r → before (suc n) r ≡ up_to0 ns ts → Reading (SpellsList ns) c.bytes ts
    go ih cut f e = impossible (cc)
    go ih (up_to0 ms us) f e =
        let p : suc n ∷ ms ≡ ns = cc in
        let q : us ≡ ts = cc in
        let h = number_read c in
        let k = h.1 in
        rw (← p, ← q) (then-read k (ih k.left ms us f) (λ q l. item (omega arith) h.0 k.spelt l))

spelt-numbers : {ns p : List ℕ} → SpellsList ns p → (r : List ℕ) → numbers (tokens (p ++ r)) ≡ up_to0 ns (tokens r)
unfolding numbers
spelt-numbers closing r = rw (spelt-byte 0 (omega arith) r)
spelt-numbers (item {n} {ns} {bs} {cs} h l s q) r =
    rw (append_assoc bs cs r, spelt-number l s (cs ++ r)) (go n h (spelt-numbers q r))
  where
    go : (n : ℕ) → 1 ≤ n → numbers (tokens (cs ++ r)) ≡ up_to0 ns (tokens r)
        → numbers (num n (tokens (cs ++ r))) ≡ up_to0 (n ∷ ns) (tokens r)
    go zero h e = absurd (omega arith)
    go (suc n) h e = rw e

-- A step.
module _ (s : Step) (ts : Tokens) where
  -- numbers up to a 0, and then what g makes of them
  by_numbers : {Q : List ℕ → Type 0} (vs : Tokens) (c : Source vs) (g : Numbers → StepRead) → g cut ≡ misread
      → ((ns : List ℕ) (ws : Tokens) → Reading (SpellsList ns) c.bytes ws → g (up_to0 ns ws) ≡ read s ts
      → Reading Q c.bytes ts)
      → g (numbers vs) ≡ read s ts → Reading Q c.bytes ts
  by_numbers {Q} vs c g h f = go (numbers vs) refl
    where
      go : (r : Numbers) → numbers vs ≡ r → g r ≡ read s ts → Reading Q c.bytes ts
      go cut t e = impossible (cc)
      go (up_to0 ns ws) t e = f ns ws (numbers-read vs c ns ws t) e

  hints_read : (id : ℕ) (ls us bs : List ℕ) → id ≤ most → Spells id us → SpellsList ls bs → (vs : Tokens) (c : Source vs)
      → read_hints id ls (numbers vs) ≡ read s ts → Reading (λ p. SpellsStep s (97 ∷ (us ++ (bs ++ p)))) c.bytes ts
  hints_read id ls us bs h i l vs c =
      by_numbers vs c (read_hints id ls) refl
      (λ hs ws k e.
      let a : add id ls hs ≡ s = cc in
      let b : ws ≡ ts = cc in
      rw (← a, ← b) (read_as k (λ p q. adds h i l q)))

  literals_read : (id : ℕ) (us : List ℕ) → id ≤ most → Spells id us → (vs : Tokens) (c : Source vs)
      → read_literals id (numbers vs) ≡ read s ts → Reading (λ p. SpellsStep s (97 ∷ (us ++ p))) c.bytes ts
  literals_read id us h i vs c =
      by_numbers vs c (read_literals id) refl
      (λ ls ws k e. then-read k (hints_read id ls us k.taken h i k.spelt ws k.left e) (λ q x. x))

  add_read : (vs : Tokens) (c : Source vs) → read_add vs ≡ read s ts → Reading (λ p. SpellsStep s (97 ∷ p)) c.bytes ts
  add_read stop c e = impossible (cc)
  add_read bad c e = impossible (cc)
  add_read (num id ws) c e =
      let h = number_read c in
      let k = h.1 in
      then-read k (literals_read id k.taken h.0 k.spelt ws k.left e) (λ q x. x)

  delete_read : (vs : Tokens) (c : Source vs) → read_delete (numbers vs) ≡ read s ts
      → Reading (λ p. SpellsStep s (100 ∷ p)) c.bytes ts
  delete_read vs c =
      by_numbers vs c read_delete refl
      (λ ids ws k e.
      let a : delete ids ≡ s = cc in
      let b : ws ≡ ts = cc in
      rw (← a, ← b) (read_as k (λ p q. deletes q)))

  step-read : (us : Tokens) (c : Source us) → read_step us ≡ read s ts → Reading (SpellsStep s) c.bytes ts
  unfolding read_step
  step-read stop c e = impossible (cc)
  step-read bad c e = impossible (cc)
  step-read (num k vs) c e = go (eqb k 97) refl (eqb k 100) refl e
    where
      j : Reading (Spells k) c.bytes vs
      j = (number_read c).1

      -- the first byte
      after : (b : ℕ) → b < 128 → k ≡ b → Reading (λ p. SpellsStep s (b ∷ p)) j.left.bytes ts
          → Reading (SpellsStep s) c.bytes ts
      after b h e r =
          let p : j.taken ≡ b ∷ [] = spells-small j.spelt (omega arith) ∙ ap (λ z. z ∷ []) e in
          then-read j r (λ q x. rw p x)

      go : (a : Bool) → eqb k 97 ≡ a → (d : Bool) → eqb k 100 ≡ d
          → cond a (read_add vs) (cond d (read_delete (numbers vs)) misread) ≡ read s ts → Reading (SpellsStep s) c.bytes ts
      go true a d f e = after 97 (omega arith) (eqb-true k 97 a) (add_read vs j.left e)
      go false a true f e = after 100 (omega arith) (eqb-true k 100 f) (delete_read vs j.left e)
      go false a false f e = impossible (cc)

spelt-step : {s : Step} {p : List ℕ} → SpellsStep s p → (r : List ℕ) → read_step (tokens (p ++ r)) ≡ read s (tokens r)
unfolding read_step
spelt-step (adds {id} {ls} {hs} {us} {bs} {cs} h i l q) r =
    rw (
      append_assoc us (bs ++ cs) r,
      append_assoc bs cs r,
      spelt-byte 97 (omega arith) (us ++ (bs ++ (cs ++ r))),
      spelt-number h i (bs ++ (cs ++ r)),
      spelt-numbers l (cs ++ r),
      spelt-numbers q r,
    )
spelt-step (deletes {ids} {us} l) r = rw (spelt-byte 100 (omega arith) (us ++ r), spelt-numbers l r)

-- A whole proof: what is left to read is this list of steps and nothing more.
pub data ReadAs : Tokens → List Step → Type 0 where
  done : ReadAs stop []
  first : {ts ts' : Tokens} {s : Step} {ss : List Step} → read_step ts ≡ read s ts' → ReadAs ts' ss → ReadAs ts (s ∷ ss)

-- only no bytes have no tokens
no_bytes : (bs : List ℕ) → tokens bs ≡ stop → bs ≡ []
unfolding tokens_after
no_bytes [] e = refl
no_bytes (b ∷ bs) e = go (within (front (b ∷ bs))) e
  where
    go : (f : Front) → by_front f (λ n. tokens_after (n - 1) bs) ≡ stop → b ∷ bs ≡ []
    go broken e = impossible (cc)
    go (whole v n) e = impossible (cc)

proof-read : {us : Tokens} {ss : List Step} → ReadAs us ss → (c : Source us) → SpellsProof ss c.bytes
proof-read done c = rw (no_bytes c.bytes c.same) nothing
proof-read (first {ts} {ts'} {s} {ss} r q) c =
    let k = step-read s ts' ts c r in
    rw k.split (step k.spelt (proof-read q k.left))

spelt-proof : {ss : List Step} {bs : List ℕ} → SpellsProof ss bs → ReadAs (tokens bs) ss
unfolding tokens_after
spelt-proof nothing = done
spelt-proof (step {s} {ss} {bs} {cs} q k) = first (spelt-step q cs) (spelt-proof k)

-- bytes are read as a list of steps and nothing more exactly where they spell it
pub proof-exact : (bs : List ℕ) (ss : List Step) → ReadAs (tokens bs) ss ↔ SpellsProof ss bs
proof-exact bs ss = (λ k. proof-read k (record { bytes = bs; same = refl }), spelt-proof)

-- each step takes a byte at least
step-bytes : {s : Step} {p : List ℕ} → SpellsStep s p → 1 ≤ length p
step-bytes (adds h i l q) = omega arith
step-bytes (deletes l) = omega arith

pub few-steps : {ss : List Step} {bs : List ℕ} → SpellsProof ss bs → length ss ≤ length bs
few-steps nothing = omega arith
few-steps (step {bs = bs} {cs = cs} q k) = rw (length-append bs cs) (omega (arith, step-bytes q, few-steps k))
