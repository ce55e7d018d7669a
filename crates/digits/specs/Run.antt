-- A run: the members of a list, taken in turn by one step on a world; and its laws, whatever the step is.
use Rattle.std.specs.Prelude.{◌≡◌, refl, List, [], ◌∷◌, ◌++◌}
use Rattle.std.proofs.Common.{ap, ◌∙◌, sym}

module _ {A W : Type 0} (step : A → W → W) where
  abbrev pub run : List A → W → W
  run [] w = w
  run (x ∷ xs) w = run xs (step x w)

  -- one list after another
  pub run_append : (a b : List A) (w : W) → run (a ++ b) w ≡ run b (run a w)
  run_append [] b w = refl
  run_append (x ∷ a) b w = run_append a b (step x w)

-- the run of xs takes the world w to w'
pub record Ran {A W : Type 0} (step : A → W → W) (xs : List A) (w w' : W) : Type 0 where
  pub eq : w' ≡ run step xs w

-- with xs still to run from w, the outcome is that of all from w₀: what a loop keeps
pub record Todo {A W : Type 0} (step : A → W → W) (xs all : List A) (w₀ w : W) : Type 0 where
  pub eq : run step xs w ≡ run step all w₀

module _ {A W : Type 0} {step : A → W → W} where
  -- nothing to run
  pub none : {w : W} → Ran step [] w w
  none = record { eq = refl }

  -- one run after another
  pub then : {a b : List A} {w₀ w₁ w₂ : W} → Ran step a w₀ w₁ → Ran step b w₁ w₂ → Ran step (a ++ b) w₀ w₂
  then {a} {b} p q = record { eq = q.eq ∙ ap (run step b) p.eq ∙ sym (run_append step a b _) }

  -- the run of an equal list
  pub same : {a b : List A} {w w' : W} → a ≡ b → Ran step b w w' → Ran step a w w'
  same e p = rw e p

  -- a loop's start, one turn, and its end
  pub todo_start : {all : List A} {w : W} → Todo step all all w w
  todo_start = record { eq = refl }

  pub todo_step : {x xs all : List A} {w₀ w w' : W} → Todo step (x ++ xs) all w₀ w → Ran step x w w' → Todo step xs all w₀ w'
  todo_step {x} {xs} t p = record { eq = ap (run step xs) p.eq ∙ sym (run_append step x xs _) ∙ t.eq }

  pub todo_end : {all : List A} {w₀ w : W} → Todo step [] all w₀ w → Ran step all w₀ w
  todo_end t = record { eq = t.eq }

  -- the same where the list left is known by an equation
  pub todo_turn : {x xs rest all : List A} {w₀ w w' : W} → xs ≡ x ++ rest → Todo step xs all w₀ w → Ran step x w w' → Todo step rest all w₀ w'
  todo_turn e t p = todo_step (rw e at t) p

  pub todo_done : {xs all : List A} {w₀ w : W} → xs ≡ [] → Todo step xs all w₀ w → Ran step all w₀ w
  todo_done e t = todo_end (rw e at t)
