-- Overlays one above another.
use Rattle.std.proofs.Common.{◌≡◌, ℕ, zero, suc, List, [], ◌∷◌, ◌++◌, length, take, get_or, refl, arith}
use Rattle.overlays.specs.Overlays.{laid_all, AllFit}

module _ {S O : Type 0} (laid : S → O → S) (fits : S → O → Type 0) where
  -- the one on top is laid on what the others give
  pub under_top : (n : ℕ) (c : S) (os : List O) (o : O) → length os ≡ suc n → o ≡ get_or os n o → AllFit laid fits c os
      → AllFit laid fits c (take n os) × fits (laid_all laid c (take n os)) o × (laid_all laid c os ≡ laid (laid_all laid c (take n os)) o)
  under_top n c [] o l e h = absurd (omega arith)
  under_top zero c (p ∷ []) o l e h = (tt, rw e h.0, rw e refl)
  under_top zero c (p ∷ q ∷ os) o l e h = absurd (omega arith)
  under_top (suc n) c (p ∷ os) o l e h =
      let r = under_top n (laid c p) os o (omega arith) e h.1 in
      ((h.0, r.0), r.1, r.2)

  -- the same where the top one stands at the end
  pub under_last : (c : S) (os ps : List O) (o : O) → os ≡ ps ++ o ∷ [] → AllFit laid fits c os
      → AllFit laid fits c ps × fits (laid_all laid c ps) o × (laid_all laid c os ≡ laid (laid_all laid c ps) o)
  under_last c os ps o e h = rw e (by_lower c ps (rw e at h)) where
    by_lower : (c : S) (ps : List O) → AllFit laid fits c (ps ++ o ∷ [])
        → AllFit laid fits c ps × fits (laid_all laid c ps) o × (laid_all laid c (ps ++ o ∷ []) ≡ laid (laid_all laid c ps) o)
    by_lower c [] h = (tt, h.0, refl)
    by_lower c (q ∷ ps) h =
        let r = by_lower (laid c q) ps h.1 in
        ((h.0, r.0), r.1, r.2)

  -- none is laid
  pub laid_none : (c : S) (os : List O) → length os ≡ 0 → laid_all laid c os ≡ c
  laid_none c [] e = refl
  laid_none c (o ∷ os) e = absurd (omega arith)
