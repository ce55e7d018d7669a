-- A run over outputs that are lent from a position on is the run over the whole outputs: laws.
use mathlib.Core.Path.{◌≡◌, refl, ap, ap₂, ◌∙◌, sym}
use mathlib.Core.Bool.{Bool, true, false, cond}
use mathlib.Core.List.{List, [], ◌∷◌, ◌++◌, flat_map, append-nil}
use Prim.Native.Nat.{ℕ, ◌+◌, ◌-◌, ◌≤◌, ◌<◌, min}
use native.Mathlib.Nat.{zero-add, suc-add}
use native.Mathlib.Omega.{arith}
use lib.ListN.{length, take, drop, set, length-set, length-append, length-take, length-drop, take-append-drop, drop_of_length-le}
use lib.Seq.{set_out, take_all, take_at, length-take-le}
use lib.Dec.{ltb}
use borrow.Author.Tests.{ltb-true, ltb-false}
use Rattle.scope.specs.Cnf.{bit, clause}
use Rattle.scope.specs.Text.{line}
use Rattle.sink.specs.Run.{run, Ran, Out, out, put, further}
use Rattle.sink.specs.Lines.{Line, clause_line, soft_line}
use Rattle.sink.specs.Block.{mark}
use Rattle.sink.specs.World.{World, world, sink_at, placed, moved, in_text, in_words, put_text, put_words, judged, rows_fit, row_clauses, next_row, tail_row, clause_step, soft_step, step}
use Rattle.sink.specs.declared.Sink.{Sink}
use Rattle.sink.specs.declared.Job.{Job}
use Rattle.sink.specs.declared.Mode.{Mode}
use Rattle.sink.specs.declared.Mode.TheVariants.{Measure, Text, SoftText, Words, Evaluate, Tail}
use Rattle.sink.specs.Lend.{part_base, Before}

-- a store in the second of two lists
set-right : (xs ys : List ℕ) (i x : ℕ) → set (xs ++ ys) (length xs + i) x ≡ xs ++ set ys i x
set-right [] ys i x = rw zero-add
set-right (y ∷ xs) ys i x = rw suc-add (ap (◌∷◌ y) (set-right xs ys i x))

-- an output seen from the whole: its part that is lent starts at p of t
abbrev lift_out : ℕ → List ℕ → Out → Out
lift_out p t o = out (further p o.at) (take (min p (length t)) t ++ o.buf)

-- the lent part: its position is in range, and its length is what is left of t
record Inside (p : ℕ) (t : List ℕ) (o : Out) : Type 0 where
  at : o.at ≤ 9223372036854775807
  long : length o.buf ≡ length t - p

module _ (p : ℕ) (t : List ℕ) (small : length t ≤ 9223372036854775807) (from : p ≤ 9223372036854775807) where
  lift_buf : (b : List ℕ) (a x : ℕ) → length b ≡ length t - p → a ≤ 9223372036854775807
      → take (min p (length t)) t ++ set b a x ≡ set (take (min p (length t)) t ++ b) (further p a) x
  lift_buf b a x e h = go (ltb a (length b)) refl
    where
      lt : length (take (min p (length t)) t) ≡ min p (length t)
      lt = let e : min (min p (length t)) (length t) ≡ min p (length t) = omega arith in length-take _ t ∙ e

      go : (y : Bool) → ltb a (length b) ≡ y → take (min p (length t)) t ++ set b a x ≡ set (take (min p (length t)) t ++ b) (further p a) x
      go true q =
          let l : a < length b = ltb-true _ _ q in
          let i : further p a ≡ length (take (min p (length t)) t) + a = omega (arith, lt) in
          sym (ap (λ (n : ℕ). set (take (min p (length t)) t ++ b) n x) i ∙ set-right (take (min p (length t)) t) b a x)
      go false q =
          let g : length b ≤ a = ltb-false _ _ q in
          let o : length (take (min p (length t)) t ++ b) ≤ further p a = omega (arith, lt, length-append (take (min p (length t)) t) b) in
          ap (◌++◌ (take (min p (length t)) t)) (set_out b a x g) ∙ sym (set_out (take (min p (length t)) t ++ b) (further p a) x o)

  lift_put : (x : ℕ) (o : Out) → Inside p t o → lift_out p t (put x o) ≡ put x (lift_out p t o)
  lift_put x o i = ap₂ out (omega (arith, i.at)) (lift_buf o.buf o.at x i.long i.at)

  inside_put : (x : ℕ) (o : Out) → Inside p t o → Inside p t (put x o)
  inside_put x o i = record { at = omega arith; long = length-set o.buf o.at x ∙ i.long }

  lift_puts : (xs : List ℕ) (o : Out) → Inside p t o → lift_out p t (run put xs o) ≡ run put xs (lift_out p t o)
  lift_puts [] o i = refl
  lift_puts (x ∷ xs) o i = lift_puts xs (put x o) (inside_put x o i) ∙ ap (run put xs) (lift_put x o i)

  inside_puts : (xs : List ℕ) (o : Out) → Inside p t o → Inside p t (run put xs o)
  inside_puts [] o i = i
  inside_puts (x ∷ xs) o i = inside_puts xs (put x o) (inside_put x o i)

-- a world seen from the whole, whose text and words were lent from p on
abbrev lift : ℕ → List ℕ → List ℕ → World → World
lift p t w x =
    record {
      at = further p x.at;
      text = take (min p (length t)) t ++ x.text;
      words = take (min p (length w)) w ++ x.words;
      bad = x.bad;
      lost = x.lost;
      prev = x.prev;
      row = x.row;
    }

record Part (p : ℕ) (t w : List ℕ) (x : World) : Type 0 where
  at : x.at ≤ 9223372036854775807
  text : length x.text ≡ length t - p
  words : length x.words ≡ length w - p

module _ (p : ℕ) (t w : List ℕ) (st : length t ≤ 9223372036854775807) (sw : length w ≤ 9223372036854775807) (from : p ≤ 9223372036854775807) where
  in-text : (x : World) → Part p t w x → Inside p t (out x.at x.text)
  in-text x i = record { at = i.at; long = i.text }

  in-words : (x : World) → Part p t w x → Inside p w (out x.at x.words)
  in-words x i = record { at = i.at; long = i.words }

  lift_text : (xs : List ℕ) (x : World) → Part p t w x → lift p t w (put_text xs x) ≡ put_text xs (lift p t w x)
  lift_text xs x i =
      ap (λ (o : Out). in_text o (lift p t w x)) (lift_puts p t st from xs (out x.at x.text) (in-text x i))

  part_text : (xs : List ℕ) (x : World) → Part p t w x → Part p t w (put_text xs x)
  part_text xs x i =
      let q : Inside p t (run put xs (out x.at x.text)) = inside_puts p t st from xs (out x.at x.text) (in-text x i) in
      record { at = q.at; text = q.long; words = i.words }

  lift_words : (xs : List ℕ) (x : World) → Part p t w x → lift p t w (put_words xs x) ≡ put_words xs (lift p t w x)
  lift_words xs x i =
      ap (λ (o : Out). in_words o (lift p t w x)) (lift_puts p w sw from xs (out x.at x.words) (in-words x i))

  part_words : (xs : List ℕ) (x : World) → Part p t w x → Part p t w (put_words xs x)
  part_words xs x i =
      let q : Inside p w (run put xs (out x.at x.words)) = inside_puts p w sw from xs (out x.at x.words) (in-words x i) in
      record { at = q.at; text = i.text; words = q.long }

  lift_moved : (n : ℕ) (x : World) → lift p t w (moved n x) ≡ moved n (lift p t w x)
  lift_moved n x = ap (λ (a : ℕ). placed a (lift p t w x)) (omega arith)

  lift_judged : (b : Bool) (x : World) → p ≡ 0 → x.at ≤ 9223372036854775807 → lift p t w (judged b x) ≡ judged b (lift p t w x)
  lift_judged b x z h =
      let e : further p x.at ≡ x.at = omega arith in
      let f : further p (further x.at 1) ≡ further x.at 1 = omega arith in
      rw (e, f)

  lift_tail : (cols n l : ℕ) (x : World) → Part p t w x → lift p t w (tail_row cols n l x) ≡ tail_row cols n l (lift p t w x)
  unfolding tail_row
  lift_tail cols n l x i = go (rows_fit cols x)
    where
      go : (b : Bool) → lift p t w (cond b (next_row cols (put_words (flat_map mark (row_clauses cols x.prev x.row n l)) x)) x)
          ≡ cond b (next_row cols (put_words (flat_map mark (row_clauses cols x.prev x.row n l)) (lift p t w x))) (lift p t w x)
      go true = ap (next_row cols) (lift_words (flat_map mark (row_clauses cols x.prev x.row n l)) x i)
      go false = refl

  part_tail : (cols n l : ℕ) (x : World) → Part p t w x → Part p t w (tail_row cols n l x)
  unfolding tail_row
  part_tail cols n l x i = go (rows_fit cols x)
    where
      go : (b : Bool) → Part p t w (cond b (next_row cols (put_words (flat_map mark (row_clauses cols x.prev x.row n l)) x)) x)
      go true =
          let q : Part p t w (put_words (flat_map mark (row_clauses cols x.prev x.row n l)) x) = part_words (flat_map mark (row_clauses cols x.prev x.row n l)) x i in
          record { at = q.at; text = q.text; words = q.words }
      go false = i

  lift_clause : (md : Mode) (top : ℕ) (m c : List ℕ) (x : World) → (md ≡ Evaluate → p ≡ 0) → Part p t w x
      → lift p t w (clause_step md top m c x) ≡ clause_step md top m c (lift p t w x)
  lift_clause Measure top m c x z i = lift_moved (length (line top c)) x
  lift_clause Text top m c x z i = lift_text (line top c) x i
  lift_clause SoftText top m c x z i = refl
  lift_clause Words top m c x z i = lift_words (mark c) x i
  lift_clause Evaluate top m c x z i = lift_judged (clause (bit m) c) x (z refl) i.at
  lift_clause Tail top m c x z i = refl

  part_clause : (md : Mode) (top : ℕ) (m c : List ℕ) (x : World) → Part p t w x → Part p t w (clause_step md top m c x)
  part_clause Measure top m c x i = record { at = omega arith; text = i.text; words = i.words }
  part_clause Text top m c x i = part_text (line top c) x i
  part_clause SoftText top m c x i = i
  part_clause Words top m c x i = part_words (mark c) x i
  part_clause Evaluate top m c x i = record { at = omega arith; text = i.text; words = i.words }
  part_clause Tail top m c x i = i

  lift_soft : (md : Mode) (cols : ℕ) (m : List ℕ) (n l : ℕ) (x : World) → Part p t w x
      → lift p t w (soft_step md cols m n l x) ≡ soft_step md cols m n l (lift p t w x)
  lift_soft Measure cols m n l x i = lift_moved (length (line n (l ∷ []))) x
  lift_soft Text cols m n l x i = refl
  lift_soft SoftText cols m n l x i = lift_text (line n (l ∷ [])) x i
  lift_soft Words cols m n l x i = refl
  lift_soft Evaluate cols m n l x i = refl
  lift_soft Tail cols m n l x i = lift_tail cols n l x i

  part_soft : (md : Mode) (cols : ℕ) (m : List ℕ) (n l : ℕ) (x : World) → Part p t w x → Part p t w (soft_step md cols m n l x)
  part_soft Measure cols m n l x i = record { at = omega arith; text = i.text; words = i.words }
  part_soft Text cols m n l x i = i
  part_soft SoftText cols m n l x i = part_text (line n (l ∷ [])) x i
  part_soft Words cols m n l x i = i
  part_soft Evaluate cols m n l x i = record { at = i.at; text = i.text; words = i.words }
  part_soft Tail cols m n l x i = part_tail cols n l x i

  lift_run : (k : Job) (m : List ℕ) → (k.mode ≡ Evaluate → p ≡ 0) → (ls : List Line) (x : World) → Part p t w x
      → lift p t w (run (step k m) ls x) ≡ run (step k m) ls (lift p t w x)
  unfolding step
  lift_run k m z [] x i = refl
  lift_run k m z (clause_line c ∷ ls) x i =
      lift_run k m z ls (step k m (clause_line c) x) (part_clause k.mode k.top m c x i)
      ∙ ap (run (step k m) ls) (lift_clause k.mode k.top m c x z i)
  lift_run k m z (soft_line n l ∷ ls) x i =
      lift_run k m z ls (step k m (soft_line n l) x) (part_soft k.mode k.cols m n l x i)
      ∙ ap (run (step k m) ls) (lift_soft k.mode k.cols m n l x i)

-- a list lent from a on, and put back
module _ (p : ℕ) (t : List ℕ) (a : ℕ) (e : a ≡ min p (length t)) where
  whole : take (length t - a) (drop a t) ≡ drop a t
  whole = take_all (length t - a) (drop a t) (omega (arith, length-drop a t))

  before : take (min p (length t)) t ++ take (length t - a) (drop a t) ≡ t
  before = rw (whole, ← e) (take-append-drop a t)

  left : length (take (length t - a) (drop a t)) ≡ length t - p
  left = rw whole (omega (arith, length-drop a t))

  back : (b : List ℕ) → take a t ++ (b ++ drop (length t - a) (drop a t)) ≡ take (min p (length t)) t ++ b
  back b = let d : length (drop a t) ≤ length t - a = omega (arith, length-drop a t) in rw (drop_of_length-le (drop a t) d, append-nil, ← e)

pub base-within : (md : Mode) (a : ℕ) → part_base md a ≤ a
base-within Measure a = omega arith
base-within Text a = omega arith
base-within SoftText a = omega arith
base-within Words a = omega arith
base-within Evaluate a = omega arith
base-within Tail a = omega arith

base-evaluate : (md : Mode) (a : ℕ) → md ≡ Evaluate → part_base md a ≡ 0
base-evaluate md a e = rw e

pub lent-before : (p p' : ℕ) (t : List ℕ) (a : ℕ) (b : List ℕ) → p ≡ p' → a ≡ min p (length t)
    → Before p' t (take a t ++ (b ++ drop (length t - a) (drop a t)))
lent-before p p' t a b q e =
    record { eq = rw (← q, ← e) (take_at (take a t) (b ++ drop (length t - a) (drop a t)) a (length-take-le a t (omega arith))) }

-- a run over the outputs lent from p on, where the position is counted from p, is the run over the whole outputs
pub lent : (k : Job) (m : List ℕ) (ls : List Line) (s r : Sink) (t w t' w' : List ℕ) (p a b n : ℕ)
    → length t ≤ 9223372036854775807 → length w ≤ 9223372036854775807 → s.at ≤ 9223372036854775807 → p ≡ part_base k.mode s.at
    → a ≡ min p (length t) → b ≡ min p (length w) → n ≡ further p r.at
    → Ran (step k m) ls (world (sink_at (s.at - p) s) (take (length t - a) (drop a t)) (take (length w - b) (drop b w))) (world r t' w')
    → Ran (step k m) ls (world s t w)
    (world (sink_at n r) (take a t ++ (t' ++ drop (length t - a) (drop a t))) (take b w ++ (w' ++ drop (length w - b) (drop b w))))
lent k m ls s r t w t' w' p a b n lt lw la ep ea eb en q =
    let lp : p ≤ s.at = omega (arith, base-within k.mode s.at) in
    let z : k.mode ≡ Evaluate → p ≡ 0 = λ e. ep ∙ base-evaluate k.mode s.at e in
    let x : World = world (sink_at (s.at - p) s) (take (length t - a) (drop a t)) (take (length w - b) (drop b w)) in
    let at : further p (s.at - p) ≡ s.at = omega arith in
    let start : lift p t w x ≡ world s t w = rw (at, before p t a ea, before p w b eb) in
    let end : world (sink_at n r) (take a t ++ (t' ++ drop (length t - a) (drop a t))) (take b w ++ (w' ++ drop (length w - b) (drop b w)))
    ≡ lift p t w (world r t' w') = rw (en, back p t a ea t', back p w b eb w') in
    let inside : Part p t w x = record { at = omega arith; text = left p t a ea; words = left p w b eb } in
    record {
      eq =
          end ∙ ap (lift p t w) q.eq ∙ lift_run p t w lt lw (omega arith) k m z ls x inside ∙ ap (run (step k m) ls) start;
    }
