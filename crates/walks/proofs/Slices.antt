-- Slices in a walk by hand. A `&mut [T]` is opened and closed, lent again for a call, lent as a `&[T]` for a call, and comes back.
use mathlib.Core.Path.{◌≡◌, refl, sym, ap, subst}
use Prim.Native.Nat.{ℕ}
use mathlib.Core.List.{List, [], ◌∷◌}
use lib.ListN.{length}
use seplogic.Ra.Ura.{Ura}
use base.Fraction.{full_share}
use mir.Syntax.{Lifetime, named}
use mir.Val.{Val}
use base.Fml.{Lft, GName, Share, Fml, fsep, flft, fobs, fauth, flent, fobor}
use types.Logic.{Logic}
use types.Kit.{Item, Goal, Soaks, Seq, Step, step, ‵, ◌⊛◌, some, later, ◌$◌, move, use1, use3, drop, split, pick, fsplit, fjoin, await}
use types.Tokens.{lft_new, lft_end, lent_back}
use types.SemTy.{cells, Arr}
use types.Share.{arr_parts}
use denote.RattleType.{RattleType}
use denote.Laws.{Is}
use denote.Builtin.{u8}
use denote.Shadow.{pure_l, pure_i}
use denote.Memory.{mem, shares}
use denote.Ref.{Bor, MutBor}
use denote.Slice.{slice_val, MutSlice, ShrSlice, heres, Room, room, finally, mut_slice_at, coded_holeys, shr_slice_Tells}
use denote.Lend.{Held, lends_slice, slice_back}
use denote.Steps.{only}
use denote.Index.{row, whole_out, whole_in, opens_slice, closes_slice}

-- the slice at (b, o) under the name γ, with the elements ys
abbrev pub at-list : {X : Type 0} (b o : ℕ) (γ : GName) → List X → MutBor (List X)
at-list b o γ ys = record { ref_ptr = (b, o); ghost_name = γ; now = ys }

-- the slice at (b, o) behind a `&`, which has no name
abbrev pub lent_list : {X : Type 0} (b o : ℕ) → List X → Bor (List X)
lent_list b o ys = record { ref_ptr = (b, o); now = ys }

-- a `&[u8]`: its machine value, and what it owns
abbrev pub slice : Bor (List ℕ) → Val
slice x = slice_val x.ref_ptr (length x.now)

abbrev pub Bytes : Lft → Bor (List ℕ) → Fml
Bytes κ x = (ShrSlice (named 0) κ u8).own_val x (slice x ∷ [])

abbrev pub IsSlice : Lft → Bor (List ℕ) → Val → Type 0
IsSlice κ x v = Is (ShrSlice (named 0) κ u8) x (v ∷ [])

pub slice-same : (κ : Lft) (x : Bor (List ℕ)) (v : Val) → IsSlice κ x v → v ≡ slice x
slice-same κ x v is = ap only (shr_slice_Tells (named 0) κ u8 x (v ∷ []) is)

module _ (R : RattleType) (κ : Lft) (q : Share) (γ : GName) (b o : ℕ) where
  abbrev pub Whole : Lifetime → List R.Denot → Fml
  Whole ℓ ys = (MutSlice ℓ κ R).own_val (at-list b o γ ys) (slice_val (b, o) (length ys) ∷ [])

  -- what is kept of the slice while it is open
  abbrev pub Open : List R.Denot → Fml
  Open ys =
      fsep (room R (length ys)) (fsep (fobor κ q (Held R (length ys) b o γ)) (fsep (fobs γ ((coded_holeys R).code (heres R ys))) (fauth γ ((coded_holeys R).code (heres R ys)))))

  -- and while it is lent, for the lifetime κ': under a name of its own, or as a `&`
  abbrev pub LentOut : Lft → GName → List R.Denot → Fml
  LentOut κ' δ ys = fsep (flent κ' (Held R (length ys) b o δ)) (Open ys)

  abbrev pub SharedOut : Lft → List R.Denot → Fml
  SharedOut κ' ys = fsep (flent κ' ((arr_parts (shares R) (length ys)).part full_share ys b o)) (Open ys)

  module _ {M : Type 1} {𝓤 : Ura M} {𝓛 : Logic 𝓤} {K : Type 0} {Γ : List (Item 𝓤)} {G : Goal 𝓤 𝓛.H} (t : K) (z : Soaks G) (ℓ : Lifetime) (ys : List R.Denot) where
    pub opened : (Room R (length ys) → Seq K 𝓛 (‵ (row R full_share ys b o) ∷ ‵ (Open ys) ∷ Γ) G)
        → Seq K 𝓛 (‵ (Whole ℓ ys) ∷ ‵ (flft κ q) ∷ Γ) G
    opened k =
        fsplit t $ pure_l t (mut_slice_at R (at-list b o γ ys) (slice_val (b, o) (length ys) ∷ [])) (λ p. fsplit t $
        opens_slice t z R ys b o $ move t (2 ∷ 3 ∷ []) $ fjoin t $ move t (2 ∷ 0 ∷ []) $ fjoin t $
        pure_i t (room R (length ys)) (tt, tt) p.1 $ fjoin t $ move t (1 ∷ 0 ∷ []) $ k p.1)

    pub closed : (zs : List R.Denot) → length zs ≡ length ys
        → Step K 𝓛 (‵ (Whole ℓ zs) ∷ ‵ (flft κ q) ∷ Γ) G (‵ (row R full_share zs b o) ∷ ‵ (Open ys) ∷ Γ) G
    closed zs e =
        step (λ s. move t (1 ∷ []) $ fsplit t $ pure_l t (room R (length ys)) (λ p. fsplit t $ move t (1 ∷ []) $ fsplit t $
        move t (3 ∷ 2 ∷ 0 ∷ 1 ∷ []) $
        closes_slice t z R ys zs e b o $ fjoin t $
        pure_i t (mut_slice_at R (at-list b o γ zs) (slice_val (b, o) (length zs) ∷ [])) (tt, (tt, tt)) (refl, subst (Room R) (sym e) p) $ fjoin t $ s))

    -- lent again for a lifetime of its own
    pub lent : ((ν : ℕ) (δ : GName) → Seq K 𝓛 (‵ ((MutSlice ℓ (ν ∷ []) R).own_val (at-list b o δ ys) (slice_val (b, o) (length ys) ∷ [])) ∷ ‵ (flft (ν ∷ []) full_share) ∷ ‵ (LentOut (ν ∷ []) δ ys) ∷ Γ) G)
        → Seq K 𝓛 (‵ (Whole ℓ ys) ∷ ‵ (flft κ q) ∷ Γ) G
    lent k =
        opened (λ fits. use1 𝓛 (‵ (cells (mem R) ys b o)) (whole_in 𝓛 R ys b o) $ lft_new t z (λ ν. move t (1 ∷ []) $
        use1 𝓛 (later (some (λ (δ : GName). ‵ ((MutSlice ℓ (ν ∷ []) R).own_val (at-list b o δ ys) (slice_val (b, o) (length ys) ∷ [])) ⊛ ‵ (flent (ν ∷ []) (Held R (length ys) b o δ))))) (lends_slice 𝓛 R ℓ (ν ∷ []) ys b o fits) $
        await t z $ pick t (λ δ. split t $ move t (1 ∷ 3 ∷ []) $ fjoin t $ move t (1 ∷ 2 ∷ 0 ∷ []) $ k ν δ)))

    -- it comes back, with the elements that the call left
    pub back : {ν : ℕ} (δ : GName) (zs : List R.Denot) → length zs ≡ length ys
        → Step K 𝓛 (‵ (Whole ℓ zs) ∷ ‵ (flft κ q) ∷ Γ) G (‵ (flft (ν ∷ []) full_share) ∷ ‵ (LentOut (ν ∷ []) δ ys) ∷ ‵ (finally R δ zs) ∷ Γ) G
    back {ν} δ zs e =
        step (λ s. lft_end t z $ move t (1 ∷ []) $ fsplit t $ move t (2 ∷ 0 ∷ 3 ∷ []) $
        use3 𝓛 (later (‵ ((Arr (mem R) (length ys)).own_at zs b o))) (slice_back 𝓛 R (ν ∷ []) δ zs (length ys) b o) $ await t z $ fsplit t $
        drop t $
        use1 𝓛 (‵ (row R full_share zs b o)) (whole_out 𝓛 R zs b o) $ closed zs e $ s)

    -- what was lent as a `&` comes back as it was
    pub unshared : {ν : ℕ}
        → Step K 𝓛 (‵ (Whole ℓ ys) ∷ ‵ (flft κ q) ∷ Γ) G (‵ (flft (ν ∷ []) full_share) ∷ ‵ (SharedOut (ν ∷ []) ys) ∷ Γ) G
    unshared =
        step (λ s. lft_end t z $ move t (1 ∷ []) $ fsplit t $ move t (2 ∷ 0 ∷ []) $ lent_back t z $ fsplit t $ drop t $ closed ys refl $ s)
