-- A call in a walk by hand: what the caller has once it has returned.
use mathlib.Core.Path.{◌≡◌, sym, ap, subst}
use mathlib.Core.List.{List, [], ◌∷◌}
use Prim.Native.Nat.{ℕ}
use seplogic.Ra.Ura.{Ura}
use mir.Syntax.{Width, Callee, Place, Opd as Operand, Body, seq, call}
use mir.Val.{Val, vunit, vint}
use base.Logic.{SProp, ent, sep, emp, id⊢, via, comm∗, mono_l, mono_r, emp∗, fst∗, snd∗}
use prog.Wp.{Env, Calls, Loops}
use types.Logic.{Logic}
use contract.Monad.{fact, fact_i, fact_use}
use types.Kit.{Item, Post, Goal, Step, step, prop, runs, lands, settles, Soaks, Seq, ‵, raw, ◌⊛◌, some, later, ◌$◌, move, use1, split, pick, await, drop}
use types.Run.{Opds}
use sound.WpLaws.{FmC}
use denote.Laws.{Is, shows}
use denote.Plain.{UInt, uint_Tells, Nothing, Nothing-Tells}
use denote.Signature.{type_at}
use denote.Steps.{only, peeks, heard}
use denote.Triple.Entry.{Res, alive}
use denote.Triple.Spec.{triple_of}
use denote.Triple.Statement.{Contract, Triple}
use denote.Triple.Call.{calls_at, calls_at_last}
use denote.Triple.Clauses.{Ended, Clauses, Lasts, at_exit, lasts, closing}

pub uint-same : (w : Width) (n : ℕ) (v : Val) → Is (UInt w) n (v ∷ []) → v ≡ vint w n
uint-same w n v is = ap only (uint_Tells w n (v ∷ []) is)

pub unit-same : (u : Unit {0}) (v : Val) → Is Nothing u (v ∷ []) → v ≡ vunit
unit-same u v is = ap only (Nothing-Tells u (v ∷ []) is)

-- two clauses of a contract
pub both-said : {M : Type 1} (𝓤 : Ura M) (φ ψ : Type 0) → ent 𝓤 (sep 𝓤 (fact 𝓤 φ) (fact 𝓤 ψ)) (fact 𝓤 (φ × ψ))
both-said 𝓤 φ ψ =
    fact_use 𝓤 φ (fst∗ 𝓤 (fact 𝓤 φ) (fact 𝓤 ψ)) (λ p. fact_use 𝓤 ψ (snd∗ 𝓤 (fact 𝓤 φ) (fact 𝓤 ψ)) (λ q. fact_i 𝓤 (φ × ψ) _ (p, q)))

-- a clause before others
pub and-said : {M : Type 1} (𝓤 : Ura M) (φ ψ : Type 0) {Q : SProp 𝓤} → ent 𝓤 Q (fact 𝓤 ψ) → ent 𝓤 (sep 𝓤 (fact 𝓤 φ) Q) (fact 𝓤 (φ × ψ))
and-said 𝓤 φ ψ h = via 𝓤 (sep 𝓤 (fact 𝓤 φ) (fact 𝓤 ψ)) (mono_r 𝓤 (fact 𝓤 φ) h) (both-said 𝓤 φ ψ)

-- a fact before others
pub told : {M : Type 1} (𝓤 : Ura M) (φ : Type 0) (Q : SProp 𝓤) → φ → ent 𝓤 Q (sep 𝓤 (fact 𝓤 φ) Q)
told 𝓤 φ Q x = via 𝓤 (sep 𝓤 (emp 𝓤) Q) (emp∗ 𝓤 Q) (mono_l 𝓤 Q (fact_i 𝓤 φ (emp 𝓤) x))

pub says_all : {M : Type 1} {𝓤 : Ura M} {𝓛 : Logic 𝓤} {K : Type 0} {Γ : List (Item 𝓤)} → K → {P Q : SProp 𝓤} → ent 𝓤 (emp 𝓤) Q → Step K 𝓛 Γ (prop P) Γ (prop (sep 𝓤 P Q))
says_all {𝓤 = 𝓤} t {P} {Q} h = step (λ s. record { prf = via 𝓤 P s.prf (via 𝓤 (sep 𝓤 (emp 𝓤) P) (emp∗ 𝓤 P) (via 𝓤 (sep 𝓤 Q P) (mono_l 𝓤 P h) (comm∗ 𝓤 Q P))) })

-- the callee's contract, and at a choice y of what it binds: its results, their machine values, what they own, the references' last
-- values, and what is left beside Γ, the tokens and what is said of the last values
module _ {M : Type 1} {𝓤 : Ura M} (𝓛 : Logic 𝓤) (T : Ended) (c : Clauses 𝓤 T) where
  abbrev pub To : Contract 𝓤
  To = triple_of 𝓛 T.signature (closing 𝓛 T c)

  module _ (y : To.Ghost) where
    abbrev Result : Type 0
    Result = Res T.signature y.0.0

    abbrev IsResult : Result → Val → Type 0
    IsResult r v = Is (type_at T.signature.result y.0.0) r (v ∷ [])

    abbrev Owned : Result → Val → Item 𝓤
    Owned r v = ‵ ((type_at T.signature.result y.0.0).own_val r (v ∷ []))

    abbrev Last : Type 0
    Last = Lasts T y.0.0 y.0.3

    abbrev Said : Result → Last → SProp 𝓤
    Said r ws = (c y.0.0 y.0.3).ensures y.1 r (at_exit T y.0.0 y.0.3 ws)

    abbrev Left : List (Item 𝓤) → Last → List (Item 𝓤)
    Left Γ ws = raw (alive 𝓛 T.signature y.0.0 y.0.1) ∷ ‵ (lasts T y.0.0 y.0.3 ws) ∷ Γ

module _ {M : Type 1} {𝓤 : Ura M} {𝓛 : Logic 𝓤} {K : Type 0} {Γ : List (Item 𝓤)} (T : Ended) (c : Clauses 𝓤 T) (y : (To 𝓛 T c).Ghost)
    (φ : Result 𝓛 T c y → Last 𝓛 T c y → Type 0) (says : (r : Result 𝓛 T c y) (ws : Last 𝓛 T c y) → ent 𝓤 (Said 𝓛 T c y r ws) (fact 𝓤 (φ r ws)))
    (val : Result 𝓛 T c y → Val) (same : (r : Result 𝓛 T c y) (v : Val) → IsResult 𝓛 T c y r v → v ≡ val r) where
  -- the result r has the machine value val r, the references' last values are ws, and the contract says φ of them
  open 𝓛 use {H}

  returned : K → (G : Val → Goal 𝓤 H) → ((v : Val) → Soaks (G v))
      → ((r : Result 𝓛 T c y) (ws : Last 𝓛 T c y) → φ r ws → IsResult 𝓛 T c y r (val r) → Seq K 𝓛 (Owned 𝓛 T c y r (val r) ∷ Left 𝓛 T c y Γ ws) (G (val r)))
      → (v : Val) → Seq K 𝓛 (raw ((To 𝓛 T c).post y v) ∷ Γ) (G v)
  returned t G z k v =
      use1 𝓛 (later (some (λ (r : Result 𝓛 T c y). (raw (alive 𝓛 T.signature y.0.0 y.0.1) ⊛ Owned 𝓛 T c y r v) ⊛ some (λ (ws : Last 𝓛 T c y). ‵ (lasts T y.0.0 y.0.3 ws) ⊛ raw (Said 𝓛 T c y r ws))))) (id⊢ 𝓤 _) $
      await t (z v) $ pick t (λ r. split t $ split t $ move t (2 ∷ []) $ pick t (λ ws. split t $ move t (1 ∷ []) $
      use1 𝓛 (raw (fact 𝓤 (φ r ws))) (says r ws) $ heard t (φ r ws) (λ e. move t (2 ∷ []) $
      peeks t (type_at T.signature.result y.0.0) (Is (type_at T.signature.result y.0.0)) (shows 𝓛 (type_at T.signature.result y.0.0)) r (v ∷ []) (λ is.
      move t (0 ∷ 2 ∷ 1 ∷ []) $ subst (λ (u : Val). Seq K 𝓛 (Owned 𝓛 T c y r u ∷ Left 𝓛 T c y Γ ws) (G u)) (sym (same r v is)) (k r ws e (subst (IsResult 𝓛 T c y r) (same r v is) is))))))

  module _ {E : Env 𝓤 H} {C : Calls 𝓤 H} {Λ : Loops 𝓤 H} {q : Post 𝓤 H} {f : Callee} {xs : List Operand} {d : Place} (t : K) (fm : FmC 𝓤 H 𝓛.laws C)
      (known : Triple 𝓤 (C f) (To 𝓛 T c)) (ops : Opds K 𝓛 (raw ((To 𝓛 T c).pre y) ∷ Γ) E xs ((To 𝓛 T c).args y)) where
    -- the result owns something: it may hold references
    pub calls_giving : {rest : Body} → ((r : Result 𝓛 T c y) (ws : Last 𝓛 T c y) → φ r ws → IsResult 𝓛 T c y r (val r) → Seq K 𝓛 (Owned 𝓛 T c y r (val r) ∷ Left 𝓛 T c y Γ ws) (lands C Λ E d (val r) rest q))
        → Seq K 𝓛 (raw ((To 𝓛 T c).pre y) ∷ Γ) (runs C Λ E (seq (call f xs d) rest) q)
    calls_giving {rest} k = calls_at t fm (To 𝓛 T c) known y ops (returned t (λ v. lands C Λ E d v rest q) (λ v. tt) k)

    -- the result is plain data
    pub calls_to : {rest : Body} → ((r : Result 𝓛 T c y) (ws : Last 𝓛 T c y) → φ r ws → IsResult 𝓛 T c y r (val r) → Seq K 𝓛 (Left 𝓛 T c y Γ ws) (lands C Λ E d (val r) rest q))
        → Seq K 𝓛 (raw ((To 𝓛 T c).pre y) ∷ Γ) (runs C Λ E (seq (call f xs d) rest) q)
    calls_to k = calls_giving (λ r ws e is. drop t $ k r ws e is)

    -- the call is the last statement of its part
    pub calls_to_last : ((r : Result 𝓛 T c y) (ws : Last 𝓛 T c y) → φ r ws → IsResult 𝓛 T c y r (val r) → Seq K 𝓛 (Left 𝓛 T c y Γ ws) (settles E d (val r) q))
        → Seq K 𝓛 (raw ((To 𝓛 T c).pre y) ∷ Γ) (runs C Λ E (call f xs d) q)
    calls_to_last k = calls_at_last t fm (To 𝓛 T c) known y ops (returned t (λ v. settles E d v q) (λ v. tt) (λ r ws e is. drop t $ k r ws e is))
