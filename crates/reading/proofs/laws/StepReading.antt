-- What a step comes to, by the parts of it that were read.
use mathlib.Core.Path.{◌≡◌, refl, sym, ap, ◌∙◌}
use mathlib.Core.Bool.{Bool, true, false, cond}
use mathlib.Core.List.{List}
use Prim.Native.Nat.{ℕ, ◌+◌, ◌≤◌, ◌<◌}
use native.Mathlib.Omega.{arith}
use lib.Dec.{ltb, leb, eqb}
use lib.ListN.{length, get_or}
use borrow.Author.Tests.{lt-ltb, le-ltb, eq-eqb, ne_eqb, ltb-true, ltb-false, leb-true, leb-false, eqb-true, eqb-false}
use Rattle.scope.specs.Parsed.{Parsed, got, refused}
use Rattle.scope.specs.Number.{number}
use Rattle.theory.proofs.laws.StepTokens as steps
use Rattle.scope.specs.Steps.{Step, add}
use Rattle.theory.proofs.laws.StepTokens.{Tokens, stop, bad, up_to0, numbers, StepRead, read, misread, read_hints, read_literals, read_add, read_delete, read_step}
use Rattle.theory.proofs.laws.Marked.{all_false, literals_ok, well_formed}
use Rattle.parsing.proofs.laws.Numbers.{number-got}
use Rattle.marks.specs.Marks.{marks_of}
use Rattle.laws.specs.Booleans.{impossible}
use Rattle.theory.proofs.laws.Tokens.{tokens-got, tokens-bad, tokens-stop}
use Rattle.std.specs.Prelude.{Option, Some, None}
use Rattle.steps.specs.declared.step.Step as parsed
use Rattle.steps.specs.declared.step.Step.TheVariants.{Adds, Deletes}
use Rattle.reading.proofs.laws.Reading.{tokens_at, numbers_at, Listed, Passes, ends, cut, LiteralsAt, ReadsLiterals, reads, bad_literals}
use Rattle.passing.specs.Passed.{passed_at}
use Rattle.spelling.specs.Spelt.{literals_at}
use Rattle.steps.specs.Step.{StepAt, step_is, by_hints, by_literals, by_id, add_at, by_ids, step_at}
use Rattle.reading.proofs.laws.ReadingLoops.{passes_at, literals_read}
use Rattle.steps.proofs.StepBytes.{byte_inside, byte-number, Other, no_number, another, other_byte}
use Rattle.reading.proofs.laws.Reading.{MisformedAt, Open, ReadsStep, adds, deletes, misformed}

-- the tokens at an offset with no number begin no step, nor the rest of one
data Empty : Tokens → Type 0 where
  at_stop : Empty stop
  at_bad : Empty bad

no-token : (s : List ℕ) (at k o : ℕ) → number s at ≡ refused k o → Empty (tokens_at s at)
no-token s at k o e = go (ltb at (length s)) refl
  where
    go : (t : Bool) → ltb at (length s) ≡ t → Empty (tokens_at s at)
    go true t = rw (tokens-bad s at k o e (ltb-true at (length s) t)) at_bad
    go false t = rw (tokens-stop s at (ltb-false at (length s) t)) at_stop

misread-misformed : {x : StepRead} (highest last : ℕ) → x ≡ misread → MisformedAt x highest last
misread-misformed highest last e st ts f = impossible (cc)

empty-add : (ts : Tokens) → Empty ts → read_add ts ≡ misread
empty-add ts at_stop = refl
empty-add ts at_bad = refl

empty-step : (ts : Tokens) → Empty ts → read_step ts ≡ misread
unfolding read_step
empty-step ts at_stop = refl
empty-step ts at_bad = refl

-- what the readings of a step's parts tell
cut-numbers : {s : List ℕ} {at : ℕ} → Passes s at None → numbers_at s at ≡ steps.cut
cut-numbers (cut e) = e

passed-numbers : {s : List ℕ} {at next : ℕ} → Passes s at (Some next) → (ns : List ℕ) × Listed s at ns next
passed-numbers (ends ns next l) = (ns, l)

misformed-literals : {s : List ℕ} {at last : ℕ} {ms : List ℕ} {k : ℕ} {ms' : List ℕ}
    → ReadsLiterals s at last ms k ms' None
    → last ≤ length ms → (ls : List ℕ) (ts : Tokens) → numbers_at s at ≡ up_to0 ls ts → literals_ok last (marks_of ms) ls ≡ false
misformed-literals (bad_literals f) = f

read-literals : {s : List ℕ} {at last : ℕ} {ms : List ℕ} {k : ℕ} {ms' : List ℕ} {size next : ℕ}
    → ReadsLiterals s at last ms k ms' (Some (size, next))
    → (at < next) × (next ≤ length s) × (last ≤ length ms → LiteralsAt s at last ms k ms' size next)
read-literals (reads size next a i f) = (a, i, f)

-- a step that was read further on
earlier : {x : StepRead} {s : List ℕ} {at at' highest last : ℕ} {ms ms' : List ℕ} (r : Option parsed.Step)
    → ReadsStep x s at' highest last ms ms' r → at < at'
    → ReadsStep x s at highest last ms ms' r
earlier r (adds c a i f) h = adds c (omega arith) i f
earlier r (deletes from a i e d) h = deletes from (omega arith) i e d
earlier r (misformed f) h = misformed f

-- a clause that was read, by its literals and hints
record AddRead (id : ℕ) (x : steps.Numbers) (st : Step) (ts : Tokens) : Type 0 where
  literals : List ℕ
  hints : List ℕ
  middle : Tokens
  first : x ≡ up_to0 literals middle
  second : numbers middle ≡ up_to0 hints ts
  whole : st ≡ add id literals hints

add_read : (id : ℕ) (x : steps.Numbers) {st : Step} {ts : Tokens} → read_literals id x ≡ read st ts → AddRead id x st ts
add_read id steps.cut e = impossible (cc)
add_read id (up_to0 ls us) {st} {ts} e = go (numbers us) refl e
  where
    go : (y : steps.Numbers) → numbers us ≡ y → read_hints id ls y ≡ read st ts → AddRead id (up_to0 ls us) st ts
    go steps.cut p f = impossible (cc)
    go (up_to0 hs vs) p f = record { literals = ls; hints = hs; middle = us; first = refl; second = p ∙ (cc); whole = cc }

module _ (s : List ℕ) (at highest last : ℕ) (ms : List ℕ) where
  pub add_none : (k o : ℕ) → number s at ≡ refused k o → ReadsStep (read_add (tokens_at s at)) s at highest last ms ms None
  add_none k o e = misformed (λ w. misread-misformed highest last (empty-add (tokens_at s at) (no-token s at k o e)))

  step_none : (k o : ℕ) → number s at ≡ refused k o → ReadsStep (read_step (tokens_at s at)) s at highest last ms ms None
  step_none k o e = misformed (λ w. misread-misformed highest last (empty-step (tokens_at s at) (no-token s at k o e)))

  -- an id that was read, with the literals at lits
  module _ (id lits : ℕ) (e : number s at ≡ got id lits) where
    rest : read_add (tokens_at s at) ≡ read_literals id (numbers_at s lits)
    rest = ap read_add (tokens-got s at id lits e).first

    pub add_low : id ≤ highest → ReadsStep (read_add (tokens_at s at)) s at highest last ms ms None
    unfolding well_formed
    add_low h = misformed (λ w st ts f. let a = add_read id (numbers_at s lits) (sym rest ∙ f) in
        rw (a.whole, le-ltb highest id h))

    module _ (h : highest < id) (ms' : List ℕ) where
      pub add_misformed : ReadsLiterals s lits last ms 0 ms' None
          → ReadsStep (read_add (tokens_at s at)) s at highest last ms ms' None
      unfolding well_formed
      add_misformed r = misformed (λ w st ts f. go w st ts f (misformed-literals r w.0))
        where
          go : Open last ms → (st : Step) (ts : Tokens) → read_add (tokens_at s at) ≡ read st ts
              → ((ls : List ℕ) (us : Tokens) → numbers_at s lits ≡ up_to0 ls us → literals_ok last (marks_of ms) ls ≡ false)
              → well_formed last highest st ≡ false
          go w st ts f g =
              let a = add_read id (numbers_at s lits) (sym rest ∙ f) in
              rw (a.whole, lt-ltb highest id h) (rw w.1 at (g a.literals a.middle a.first))

      module _ (size hints : ℕ) (r : ReadsLiterals s lits last ms 0 ms' (Some (size, hints))) where
        pub add_cut : Passes s hints None → ReadsStep (read_add (tokens_at s at)) s at highest last ms ms' None
        add_cut p =
            misformed
            (λ w.
            let a = (read-literals r).2 w.0 in
            misread-misformed highest last
            (rest ∙ ap (read_literals id) a.stand.listed ∙ ap (read_hints id a.literals) (cut-numbers p)))

        pub add_done : (next : ℕ) → Passes s hints (Some next)
            → ReadsStep (read_add (tokens_at s at)) s at highest last ms ms'
            (Some (Adds (record { id = id; literals = lits; size = size; hints = hints })))
        unfolding well_formed
        add_done next p =
            adds (record { id = id; literals = lits; size = size; hints = hints })
            (omega (arith, (tokens-got s at id lits e).forward, (read-literals r).0)) (read-literals r).1
            (λ w.
            let a = (read-literals r).2 w.0 in
            let b = passed-numbers p in
            record {
              literals = a.literals;
              hints = b.0;
              next = next;
              step = rest ∙ ap (read_literals id) a.stand.listed ∙ ap (read_hints id a.literals) b.1.listed;
              formed = rw (lt-ltb highest id h, ← w.1) a.good;
              literals_stand = a.stand;
              hints_stand = b.1;
              size = omega (arith, a.count);
              small = (number-got s at e).small;
              marks = a.marks ∙ ap (λ m. all_false m a.literals) w.1;
            })

  -- a first number that was read
  module _ (k next : ℕ) (e : number s at ≡ got k next) where
    step_adds : k ≡ 97 → (ms' : List ℕ) (r : Option parsed.Step) → ReadsStep (read_add (tokens_at s next)) s next highest last ms ms' r
        → ReadsStep (read_step (tokens_at s at)) s at highest last ms ms' r
    unfolding read_step
    step_adds h ms' r t =
        let x : read_step (tokens_at s at) ≡ read_add (tokens_at s next) = ap read_step (tokens-got s at k next e).first
        ∙ rw (eq-eqb k 97 h) in
        rw x (earlier r t (tokens-got s at k next e).forward)

    module _ (h : k ≡ 97 → ⊥) where
      step_other : (k ≡ 100 → ⊥) → ReadsStep (read_step (tokens_at s at)) s at highest last ms ms None
      unfolding read_step
      step_other g =
          misformed
          (λ w.
          misread-misformed highest last
          (ap read_step (tokens-got s at k next e).first ∙ rw (ne_eqb k 97 h, ne_eqb k 100 g)))

      module _ (g : k ≡ 100) where
        ids : read_step (tokens_at s at) ≡ read_delete (numbers_at s next)
        unfolding read_step
        ids = ap read_step (tokens-got s at k next e).first ∙ rw (ne_eqb k 97 h, eq-eqb k 100 g)

        step_cut : Passes s next None → ReadsStep (read_step (tokens_at s at)) s at highest last ms ms None
        step_cut p = misformed (λ w. misread-misformed highest last (ids ∙ ap read_delete (cut-numbers p)))

        step_deletes : (end : ℕ) → Passes s next (Some end)
            → ReadsStep (read_step (tokens_at s at)) s at highest last ms ms (Some (Deletes next))
        step_deletes end p =
            let b = passed-numbers p in
            let t = tokens-got s at k next e in
            deletes next t.forward t.inside refl
            (record { ids = b.0; next = end; step = ids ∙ ap read_delete b.1.listed; stand = b.1 })

  -- a step by its first byte
  pub byte_adds : get_or s at 0 ≡ 97 → (ms' : List ℕ) (r : Option parsed.Step)
      → ReadsStep (read_add (tokens_at s (at + 1))) s (at + 1) highest last ms ms' r
      → ReadsStep (read_step (tokens_at s at)) s at highest last ms ms' r
  byte_adds e = step_adds 97 (at + 1) (byte-number s at 97 (byte_inside s at 97 e (omega arith)) e (omega arith)) refl

  pub byte_other : (get_or s at 0 ≡ 97 → ⊥) → (get_or s at 0 ≡ 100 → ⊥)
      → ReadsStep (read_step (tokens_at s at)) s at highest last ms ms None
  byte_other f g = go (number s at) refl (other_byte s at f g)
    where
      go : (x : Parsed ℕ) → number s at ≡ x → Other x → ReadsStep (read_step (tokens_at s at)) s at highest last ms ms None
      go x e (no_number k v) = step_none k v e
      go x e (another n next h k) = step_other n next e h k

  module _ (e : get_or s at 0 ≡ 100) where
    ids_number : number s at ≡ got 100 (at + 1)
    ids_number = byte-number s at 100 (byte_inside s at 100 e (omega arith)) e (omega arith)

    pub byte_cut : Passes s (at + 1) None → ReadsStep (read_step (tokens_at s at)) s at highest last ms ms None
    byte_cut = step_cut 100 (at + 1) ids_number (λ z. omega arith) refl

    pub byte_deletes : (end : ℕ) → Passes s (at + 1) (Some end)
        → ReadsStep (read_step (tokens_at s at)) s at highest last ms ms (Some (Deletes (at + 1)))
    byte_deletes = step_deletes 100 (at + 1) ids_number (λ z. omega arith) refl

-- a step that is read, by what stands at an offset
module _ (s : List ℕ) (highest last : ℕ) (ms : List ℕ) where
  abbrev Reads : StepRead → ℕ → StepAt → Type 0
  Reads x at z = ReadsStep x s at highest last ms z.marks z.read

  add_reads : (at : ℕ) → Reads (read_add (tokens_at s at)) at (add_at s at highest last ms)
  unfolding add_at
  add_reads at = go (number s at) refl
    where
      by-hints : (id lits : ℕ) → number s at ≡ got id lits → highest < id → (ms' : List ℕ) (size hints : ℕ)
          → ReadsLiterals s lits last ms 0 ms' (Some (size, hints)) → (y : Option ℕ) → Passes s hints y
          → Reads (read_add (tokens_at s at)) at (by_hints id lits size hints ms' y)
      by-hints id lits e h ms' size hints r None p = add_cut s at highest last ms id lits e h ms' size hints r p
      by-hints id lits e h ms' size hints r (Some next) p = add_done s at highest last ms id lits e h ms' size hints r next p

      by-literals : (id lits : ℕ) → number s at ≡ got id lits → highest < id → (ms' : List ℕ) (x : Option (ℕ × ℕ))
          → ReadsLiterals s lits last ms 0 ms' x → Reads (read_add (tokens_at s at)) at (by_literals s id lits x ms')
      by-literals id lits e h ms' None r = add_misformed s at highest last ms id lits e h ms' r
      by-literals id lits e h ms' (Some (size, hints)) r = by-hints id lits e h ms' size hints r (passed_at s hints) (passes_at s hints)

      by-id : (id lits : ℕ) → number s at ≡ got id lits → (t : Bool) → leb id highest ≡ t
          → Reads (read_add (tokens_at s at)) at (cond t (step_is None ms) (by_literals s id lits (literals_at s lits last ms).found (literals_at s lits last ms).marks))
      by-id id lits e true t = add_low s at highest last ms id lits e (leb-true id highest t)
      by-id id lits e false t = by-literals id lits e (leb-false id highest t) _ (literals_at s lits last ms).found (literals_read s last lits ms)

      go : (x : Parsed ℕ) → number s at ≡ x → Reads (read_add (tokens_at s at)) at (by_id s highest last ms x)
      go (refused k v) e = add_none s at highest last ms k v e
      go (got id lits) e = by-id id lits e (leb id highest) refl

  pub step_reads : (at : ℕ) → Reads (read_step (tokens_at s at)) at (step_at s at highest last ms)
  unfolding step_at
  step_reads at = go (eqb (get_or s at 0) 97) refl (eqb (get_or s at 0) 100) refl
    where
      by-ids : get_or s at 0 ≡ 100 → (y : Option ℕ) → Passes s (at + 1) y → Reads (read_step (tokens_at s at)) at (by_ids (at + 1) ms y)
      by-ids e None p = byte_cut s at highest last ms e p
      by-ids e (Some next) p = byte_deletes s at highest last ms e next p

      go : (t : Bool) → eqb (get_or s at 0) 97 ≡ t → (u : Bool) → eqb (get_or s at 0) 100 ≡ u
          → Reads (read_step (tokens_at s at)) at (cond t (add_at s (at + 1) highest last ms) (cond u (by_ids (at + 1) ms (passed_at s (at + 1))) (step_is None ms)))
      go true t u e = byte_adds s at highest last ms (eqb-true (get_or s at 0) 97 t) _ _ (add_reads (at + 1))
      go false t true u = by-ids (eqb-true (get_or s at 0) 100 u) (passed_at s (at + 1)) (passes_at s (at + 1))
      go false t false u = byte_other s at highest last ms (eqb-false (get_or s at 0) 97 t) (eqb-false (get_or s at 0) 100 u)
