-- Two overlays that become one, and the lowest one that is laid on the content.
use Rattle.std.proofs.Common.{◌≡◌, ℕ, zero, suc, ◌<◌, Some, List, [], ◌∷◌, length, get_or, set, refl, sym, ap, subst, arith, length-set}
use Rattle.std.specs.Prelude.{slice_get}
use Rattle.std.specs.List.{remove}
use Rattle.std.proofs.lemmas.List.Edits.{length-remove}
use Rattle.atomic_types.specs.Operations.{Op}
use Rattle.overlays.specs.Overlays.{AllFit, Covers, MayJoin}
use Rattle.version_stack.specs.Layers.{under, lowered, AllCover, AreSound, IsMerged}

-- what was taken out is put back where it stood
pub put_back : {X : Type 0} (xs : List X) (i : ℕ) (x y : X) → y ≡ get_or xs i y → set (set xs i x) i y ≡ xs
put_back [] i x y e = refl
put_back (z ∷ xs) zero x y e = ap (λ w. w ∷ xs) e
put_back (z ∷ xs) (suc i) x y e = ap (λ ws. z ∷ ws) (put_back xs i x y e)

module _ {T O : Type 0} (laid : T → O → T) (fits : T → O → Type 0) (after : T → Op → T) where
  -- of two that stand one above another the lower one takes some content, and the upper one what it gives
  pub may_join : (c : T) (os : List O) (i : ℕ) (lower upper : O) → slice_get os i ≡ Some lower → slice_get os (suc i) ≡ Some upper
      → AllFit laid fits c os
      → MayJoin laid fits lower upper
  may_join c [] i lower upper e d h = absurd (cc)
  may_join c (o ∷ []) zero lower upper e d h = absurd (cc)
  may_join c (o ∷ p ∷ os) zero lower upper e d h =
      let first : o ≡ lower = cc in
      let second : p ≡ upper = cc in
      (c, subst (fits c) first h.0, subst (λ q. fits (laid c q) upper) first (subst (fits (laid c o)) second h.1.0))
  may_join c (o ∷ os) (suc i) lower upper e d h = may_join (laid c o) os i lower upper e d h.1

  -- one overlay that makes of a content what two of them make, the upper laid on the lower
  pub record IsJoined (lower upper joined : O) : Type 0 where
    pub joins : (c : T) → fits c lower → fits (laid c lower) upper → laid c joined ≡ laid (laid c lower) upper
    pub fits_still : (c : T) → fits c lower → fits (laid c lower) upper → fits c joined
    pub covers : Covers after laid upper → Covers after laid joined

  -- overlays still fit once two of them are one
  fit_joined : (c : T) (os : List O) (i : ℕ) (lower upper joined : O) → slice_get os i ≡ Some lower → slice_get os (suc i) ≡ Some upper
      → IsJoined lower upper joined
      → AllFit laid fits c os → AllFit laid fits c (remove (set os i joined) (suc i))
  fit_joined c [] i lower upper joined e d j h = absurd (cc)
  fit_joined c (o ∷ []) zero lower upper joined e d j h = absurd (cc)
  fit_joined c (o ∷ p ∷ os) zero lower upper joined e d j h =
      let first : o ≡ lower = cc in
      let second : p ≡ upper = cc in
      let low : fits c lower = subst (fits c) first h.0 in
      let high : fits (laid c lower) upper = subst (λ q. fits (laid c q) upper) first (subst (fits (laid c o)) second h.1.0) in
      let same : laid c joined ≡ laid (laid c o) p = cc (j.joins c low high) in
      (j.fits_still c low high, subst (λ x. AllFit laid fits x os) (sym same) h.1.1)
  fit_joined c (o ∷ os) (suc i) lower upper joined e d j h = (h.0, fit_joined (laid c o) os i lower upper joined e d j h.1)

  -- and cover what was added below them
  cover_joined : (os : List O) (i : ℕ) (lower upper joined : O) → slice_get os i ≡ Some lower → slice_get os (suc i) ≡ Some upper
      → IsJoined lower upper joined
      → AllCover laid after os → AllCover laid after (remove (set os i joined) (suc i))
  cover_joined [] i lower upper joined e d j h = absurd (cc)
  cover_joined (o ∷ []) zero lower upper joined e d j h = absurd (cc)
  cover_joined (o ∷ p ∷ os) zero lower upper joined e d j h =
      let second : p ≡ upper = cc in
      (j.covers (subst (Covers after laid) second h.1.0), h.1.1)
  cover_joined (o ∷ os) (suc i) lower upper joined e d j h = (h.0, cover_joined os i lower upper joined e d j h.1)

  -- what so many overlays give stays, but between the two
  under_joined : (c : T) (os : List O) (i : ℕ) (lower upper joined : O) (k : ℕ) → slice_get os i ≡ Some lower → slice_get os (suc i) ≡ Some upper
      → IsJoined lower upper joined
      → AllFit laid fits c os → (k ≡ suc i → ⊥) → under laid c (remove (set os i joined) (suc i)) (lowered (suc i) k) ≡ under laid c os k
  under_joined c os i lower upper joined zero e d j h n = refl
  under_joined c [] i lower upper joined (suc k) e d j h n = absurd (cc)
  under_joined c (o ∷ []) zero lower upper joined (suc k) e d j h n = absurd (cc)
  under_joined c (o ∷ p ∷ os) zero lower upper joined (suc zero) e d j h n = absurd (n refl)
  under_joined c (o ∷ p ∷ os) zero lower upper joined (suc (suc k)) e d j h n =
      let first : o ≡ lower = cc in
      let second : p ≡ upper = cc in
      let low : fits c lower = subst (fits c) first h.0 in
      let high : fits (laid c lower) upper = subst (λ q. fits (laid c q) upper) first (subst (fits (laid c o)) second h.1.0) in
      let same : laid c joined ≡ laid (laid c o) p = cc (j.joins c low high) in
      ap (λ x. under laid x os k) same
  under_joined c (o ∷ os) (suc i) lower upper joined (suc k) e d j h n =
      under_joined (laid c o) os i lower upper joined k e d j h.1 (λ m. n (ap suc m))

  -- the overlay above became one with the one at this place
  pub joined_at : (c : T) (os : List O) (i : ℕ) (lower upper joined : O) → suc i < length os → slice_get os i ≡ Some lower
      → slice_get os (suc i) ≡ Some upper
      → IsJoined lower upper joined → AreSound laid after fits c os → IsMerged laid after fits c c os (remove (set os i joined) (suc i)) (suc i)
  joined_at c os i lower upper joined w e d j h =
      let within : suc i < length (set os i joined) = omega (arith, length-set os i joined) in
      record {
        one_less = omega (arith, length-remove (set os i joined) (suc i) within, length-set os i joined);
        sound = record { fit = fit_joined c os i lower upper joined e d j h.fit; cover = cover_joined os i lower upper joined e d j h.cover };
        same = λ k n l. under_joined c os i lower upper joined k e d j h.fit n;
      }
