-- What walks of MIR by hand share: the types and addresses of a function's locals, all allocated and freed at once.
use mathlib.Core.Path.{◌≡◌}
use mathlib.Core.List.{List, [], ◌∷◌, ◌++◌}
use mathlib.Core.Option.{Option, none, some}
use Prim.Native.Nat.{ℕ, zero, suc, ◌+◌}
use lib.Dec.{T}
use seplogic.Ra.Ura.{Ura}
use base.Fraction.{full_share}
use mir.Syntax.{Ty, ty_unit, Local, local, place, field, copy, Rv, Body, skip, seq, assign, block, loop, cond, switch, exit, return, call, unreachable, call_v, lend_static}
use mir.Val.{Val, WT, has_ty}
use base.Logic.{ent, sep, id⊢, via, comm∗, mono_l, mono_r}
use base.Fml.{Share, Fml, ftrue, fsep, fat, froom, fdies}
use prog.Memory.{field_of}
use prog.Wp.{Heap, Env, Calls, Loops, spot_of}
use types.Logic.{Logic, sem}
use types.Kit.{Item, ‵, mean, ⋆, pop, push, sel⊢, ++⊢, ⊢++, nth, put, Post, runs, Goal, allocs, frees, Seq, Step, step, ◌$◌, fjoin}
use types.Run as Run
use types.Run.{look, init, stop, fld, from, load, Opd, assigns, alloc1, alloc0, free1, free0}
use types.Part.{Part, look_in}
use denote.Steps.{nothing}

-- what a body does after its first statement
abbrev pub rest : Body → Body
rest (seq a b) = b
rest skip = skip
rest (assign p r) = skip
rest (block b) = skip
rest (loop b) = skip
rest (cond c a b) = skip
rest (switch c a) = skip
rest (exit k) = skip
rest return = skip
rest (call f xs d) = skip
rest unreachable = skip
rest (call_v f s xs d) = skip
rest (lend_static p τ k) = skip

-- the two arms of a branch
abbrev pub held : Body → Body
held (cond c a b) = a
held skip = skip
held (seq a b) = skip
held (assign p r) = skip
held (block b) = skip
held (loop b) = skip
held (switch c a) = skip
held (exit k) = skip
held return = skip
held (call f xs d) = skip
held unreachable = skip
held (call_v f s xs d) = skip
held (lend_static p τ k) = skip

abbrev pub failed : Body → Body
failed (cond c a b) = b
failed skip = skip
failed (seq a b) = skip
failed (assign p r) = skip
failed (block b) = skip
failed (loop b) = skip
failed (switch c a) = skip
failed (exit k) = skip
failed return = skip
failed (call f xs d) = skip
failed unreachable = skip
failed (call_v f s xs d) = skip
failed (lend_static p τ k) = skip

abbrev ty-of : Local → Ty
ty-of (local τ h) = τ

-- the type of a function's local, as its MIR has it
abbrev pub ty_at : List Local → ℕ → Ty
ty_at [] k = ty_unit
ty_at (l ∷ ls) zero = ty-of l
ty_at (l ∷ ls) (suc k) = ty_at ls k

-- an address for each local, and the one of local k
abbrev pub Addrs : List Local → Type 0
Addrs [] = Unit {0}
Addrs (l ∷ ls) = ℕ × Addrs ls

abbrev pub addr_at : (ls : List Local) → Addrs ls → ℕ → ℕ
addr_at [] at k = 0
addr_at (l ∷ ls) at zero = at.0
addr_at (l ∷ ls) at (suc k) = addr_at ls at.1 k

-- what is had at exit of n parameters that are dropped
abbrev Dropped : ℕ → Fml
Dropped zero = ftrue
Dropped (suc n) = fsep ftrue (Dropped n)

-- a local's memory: room for a value, or a value
abbrev cell : Local → ℕ → Option Val → Fml
cell l b none = froom (ty-of l) b zero
cell l b (some v) = fat full_share (ty-of l) b zero v

module _ {M : Type 1} (𝓤 : Ura M) where
  abbrev pub env_of : (H : Heap 𝓤) (ls : List Local) → Addrs ls → Env 𝓤 H
  env_of H [] at = []
  env_of H (l ∷ ls) at = (ty-of l, at.0) ∷ env_of H ls at.1

  -- before Γ the memory of each local, the last one first: vs are the values of the first ones, and there is room for the others
  abbrev pub laid : (ls : List Local) → Addrs ls → List (Option Val) → List (Item 𝓤) → List (Item 𝓤)
  laid [] at vs Γ = Γ
  laid (l ∷ ls) at [] Γ = laid ls at.1 [] (‵ (cell l at.0 none) ∷ ‵ (fdies (ty-of l) at.0) ∷ Γ)
  laid (l ∷ ls) at (v ∷ vs) Γ = laid ls at.1 vs (‵ (cell l at.0 v) ∷ ‵ (fdies (ty-of l) at.0) ∷ Γ)

  -- room for each, the first one first
  abbrev in_order : (ls : List Local) → Addrs ls → List (Item 𝓤) → List (Item 𝓤)
  in_order [] at Γ = Γ
  in_order (l ∷ ls) at Γ = ‵ (cell l at.0 none) ∷ ‵ (fdies (ty-of l) at.0) ∷ in_order ls at.1 Γ

module _ {M : Type 1} {𝓤 : Ura M} (𝓛 : Logic 𝓤) where
  under : (i : Item 𝓤) (Γ Δ : List (Item 𝓤)) → ent 𝓤 (⋆ 𝓛 Γ) (⋆ 𝓛 Δ) → ent 𝓤 (⋆ 𝓛 (i ∷ Γ)) (⋆ 𝓛 (i ∷ Δ))
  under i Γ Δ h =
      via 𝓤 (sep 𝓤 (mean 𝓛 i) (⋆ 𝓛 Γ)) (pop 𝓛 i Γ)
      (via 𝓤 (sep 𝓤 (mean 𝓛 i) (⋆ 𝓛 Δ)) (mono_r 𝓤 (mean 𝓛 i) h) (push 𝓛 i Δ))

  -- the first n entries, and those after them
  abbrev before : ℕ → List (Item 𝓤) → List (Item 𝓤)
  before n [] = []
  before zero (i ∷ Γ) = []
  before (suc n) (i ∷ Γ) = i ∷ before n Γ

  abbrev after : ℕ → List (Item 𝓤) → List (Item 𝓤)
  after n [] = []
  after zero (i ∷ Γ) = i ∷ Γ
  after (suc n) (i ∷ Γ) = after n Γ

  parted : (n : ℕ) (Γ : List (Item 𝓤)) → ent 𝓤 (⋆ 𝓛 Γ) (⋆ 𝓛 (before n Γ ++ after n Γ))
  parted n [] = id⊢ 𝓤 (⋆ 𝓛 [])
  parted zero (i ∷ Γ) = id⊢ 𝓤 (⋆ 𝓛 (i ∷ Γ))
  parted (suc n) (i ∷ Γ) = under i Γ (before n Γ ++ after n Γ) (parted n Γ)

  rotated : (n : ℕ) (Γ : List (Item 𝓤)) → ent 𝓤 (⋆ 𝓛 Γ) (⋆ 𝓛 (after n Γ ++ before n Γ))
  rotated n Γ =
      via 𝓤 (⋆ 𝓛 (before n Γ ++ after n Γ)) (parted n Γ)
      (via 𝓤 (sep 𝓤 (⋆ 𝓛 (before n Γ)) (⋆ 𝓛 (after n Γ))) (⊢++ 𝓛 (before n Γ) (after n Γ))
      (via 𝓤 (sep 𝓤 (⋆ 𝓛 (after n Γ)) (⋆ 𝓛 (before n Γ))) (comm∗ 𝓤 (⋆ 𝓛 (before n Γ)) (⋆ 𝓛 (after n Γ)))
      (++⊢ 𝓛 (after n Γ) (before n Γ))))

  to_head : (i : Item 𝓤) (ls : List Local) (at : Addrs ls) (Γ : List (Item 𝓤))
      → ent 𝓤 (⋆ 𝓛 (in_order 𝓤 ls at (i ∷ Γ))) (⋆ 𝓛 (i ∷ in_order 𝓤 ls at Γ))
  to_head i [] at Γ = id⊢ 𝓤 (⋆ 𝓛 (i ∷ Γ))
  to_head i (l ∷ ls) at Γ =
      let r : Item 𝓤 = ‵ (cell l at.0 none) in
      let d : Item 𝓤 = ‵ (fdies (ty-of l) at.0) in
      let Δ : List (Item 𝓤) = in_order 𝓤 ls at.1 Γ in
      via 𝓤 (⋆ 𝓛 (r ∷ d ∷ i ∷ Δ))
      (under r (d ∷ in_order 𝓤 ls at.1 (i ∷ Γ)) (d ∷ i ∷ Δ) (under d (in_order 𝓤 ls at.1 (i ∷ Γ)) (i ∷ Δ) (to_head i ls at.1 Γ)))
      (sel⊢ 𝓛 (2 ∷ []) (r ∷ d ∷ i ∷ Δ))

  emptied : (l : Local) (b : ℕ) (v : Option Val) → ent 𝓤 (sem 𝓛 (cell l b v)) (sem 𝓛 (cell l b none))
  emptied l b none = id⊢ 𝓤 (sem 𝓛 (cell l b none))
  emptied l b (some v) = 𝓛.laws.at_room (ty-of l) b zero v

  one_more : (l : Local) (b : ℕ) (v : Option Val) (ls : List Local) (at : Addrs ls) (Γ Δ : List (Item 𝓤))
      → ent 𝓤 (⋆ 𝓛 Δ) (⋆ 𝓛 (in_order 𝓤 ls at (‵ (cell l b v) ∷ ‵ (fdies (ty-of l) b) ∷ Γ)))
      → ent 𝓤 (⋆ 𝓛 Δ) (⋆ 𝓛 (‵ (cell l b none) ∷ ‵ (fdies (ty-of l) b) ∷ in_order 𝓤 ls at Γ))
  one_more l b v ls at Γ Δ h =
      let c : Item 𝓤 = ‵ (cell l b v) in
      let d : Item 𝓤 = ‵ (fdies (ty-of l) b) in
      let Θ : List (Item 𝓤) = d ∷ in_order 𝓤 ls at Γ in
      via 𝓤 (⋆ 𝓛 (in_order 𝓤 ls at (c ∷ d ∷ Γ))) h
      (via 𝓤 (⋆ 𝓛 (c ∷ in_order 𝓤 ls at (d ∷ Γ))) (to_head c ls at (d ∷ Γ))
      (via 𝓤 (⋆ 𝓛 (c ∷ Θ)) (under c (in_order 𝓤 ls at (d ∷ Γ)) Θ (to_head d ls at Γ)) (mono_l 𝓤 (⋆ 𝓛 Θ) (emptied l b v))))

  ordered : (ls : List Local) (at : Addrs ls) (vs : List (Option Val)) (Γ : List (Item 𝓤))
      → ent 𝓤 (⋆ 𝓛 (laid 𝓤 ls at vs Γ)) (⋆ 𝓛 (in_order 𝓤 ls at Γ))
  ordered [] at vs Γ = id⊢ 𝓤 (⋆ 𝓛 Γ)
  ordered (l ∷ ls) at [] Γ =
      let Δ : List (Item 𝓤) = ‵ (cell l at.0 none) ∷ ‵ (fdies (ty-of l) at.0) ∷ Γ in
      one_more l at.0 none ls at.1 Γ (laid 𝓤 ls at.1 [] Δ) (ordered ls at.1 [] Δ)
  ordered (l ∷ ls) at (v ∷ vs) Γ =
      let Δ : List (Item 𝓤) = ‵ (cell l at.0 v) ∷ ‵ (fdies (ty-of l) at.0) ∷ Γ in
      one_more l at.0 v ls at.1 Γ (laid 𝓤 ls at.1 vs Δ) (ordered ls at.1 vs Δ)

module _ {M : Type 1} {𝓤 : Ura M} {𝓛 : Logic 𝓤} {K : Type 0} where
  -- the first n entries go to the end
  open 𝓛 use {H}

  pub rotate : K → (n : ℕ) {Γ : List (Item 𝓤)} {g : Goal 𝓤 H} → Step K 𝓛 (after 𝓛 n Γ ++ before 𝓛 n Γ) g Γ g
  rotate t n {Γ} = step (λ s. record { prf = via 𝓤 (⋆ 𝓛 (after 𝓛 n Γ ++ before 𝓛 n Γ)) (rotated 𝓛 n Γ) s.prf })

  pub dropped : K → (n : ℕ) {Γ : List (Item 𝓤)} {g : Goal 𝓤 H} → Step K 𝓛 (‵ (Dropped n) ∷ Γ) g Γ g
  dropped t zero = nothing t
  dropped t (suc n) = step (λ s. dropped t n $ nothing t $ fjoin t $ s)

  -- the locals are allocated
  pub allocs_all : K → (ls : List Local) {Γ : List (Item 𝓤)} {Kt : Env 𝓤 H → Goal 𝓤 H}
      → ((at : Addrs ls) → Seq K 𝓛 (laid 𝓤 ls at [] Γ) (Kt (env_of 𝓤 H ls at))) → Seq K 𝓛 Γ (allocs ls Kt)
  allocs_all t [] k = alloc0 t $ k tt
  allocs_all t (local τ h ∷ ls) {Γ} {Kt} k =
      alloc1 t (λ b. allocs_all t ls {Kt = λ E. Kt ((τ, b) ∷ E)} (λ at. k (b, at)))

  frees_ordered : K → (ls : List Local) (at : Addrs ls) {Γ : List (Item 𝓤)} {g : Goal 𝓤 H} → Seq K 𝓛 Γ g
      → Seq K 𝓛 (in_order 𝓤 ls at Γ) (frees (env_of 𝓤 H ls at) g)
  frees_ordered t [] at s = free0 t $ s
  frees_ordered t (local τ h ∷ ls) at s = free1 t $ frees_ordered t ls at.1 s

  -- and freed, whatever they hold
  pub frees_all : K → (ls : List Local) (at : Addrs ls) (vs : List (Option Val)) {Γ : List (Item 𝓤)} {g : Goal 𝓤 H}
      → Step K 𝓛 Γ g (laid 𝓤 ls at vs Γ) (frees (env_of 𝓤 H ls at) g)
  frees_all t ls at vs {Γ} =
      step (λ s. record { prf = via 𝓤 (⋆ 𝓛 (in_order 𝓤 ls at Γ)) (ordered 𝓛 ls at vs Γ) (frees_ordered t ls at s).prf })

  -- a local's value is read, or a part of it; a local gets its first value, or another
  module _ {E : Env 𝓤 H} {Γ : List (Item 𝓤)} where
    pub var : K → (n : ℕ) {i : ℕ} {q : Share} {v : Val} → nth 𝓛 n Γ ≡ ‵ (fat q (spot_of 𝓤 H E i).0 (spot_of 𝓤 H E i).1 zero v)
        → Opd K 𝓛 Γ E (copy (place i [])) v
    var t n e = load t (from t (stop t)) (look t n e)

    pub part : K → (n : ℕ) {i k : ℕ} {τ : Ty} {d : ℕ} {q : Share} {v : Val} {back : Val → Item 𝓤} → field_of (spot_of 𝓤 H E i).0 k ≡ some (τ, d)
        → Part K 𝓛 (nth 𝓛 n Γ) q τ (spot_of 𝓤 H E i).1 (zero + d) v back
        → Opd K 𝓛 Γ E (copy (place i (field k ∷ []))) v
    part t n e p = load t (from t (fld t e (stop t))) (look_in t n p)

    module _ {C : Calls 𝓤 H} {Λ : Loops 𝓤 H} {q : Post 𝓤 H} {i : ℕ} {rv : Rv} {rest : Body} {v : Val} where
      pub fills : K → (n : ℕ) → Run.Rv K 𝓛 Γ E rv v → nth 𝓛 n Γ ≡ ‵ (froom (spot_of 𝓤 H E i).0 (spot_of 𝓤 H E i).1 zero)
          → T (has_ty (spot_of 𝓤 H E i).0 v) × WT v
          → Step K 𝓛 (put 𝓛 n (‵ (fat full_share (spot_of 𝓤 H E i).0 (spot_of 𝓤 H E i).1 zero v)) Γ) (runs C Λ E rest q) Γ (runs C Λ E (seq (assign (place i []) rv) rest) q)
      fills t n r e wt = assigns t r (from t (stop t)) (init t n e wt)
