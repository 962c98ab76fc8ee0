-- Of an object's kept operations, what conflicts with one that is held above an action is held above it too.
use Rattle.std.proofs.Common.{Bool, List, None, Option, Some, [], ap, false, inl, inr, map, not, refl, sym, true, ◌++◌, ◌∙◌, ◌∷◌, ◌≡◌}
use Rattle.std.proofs.lemmas.Bool.{not-false}
use Rattle.std.specs.List.{AllByRecursion}
use Rattle.action_names.specs.Names.{Name, is_ancestor}
use Rattle.run_model.specs.Keeping.{Performed}
use Rattle.run_model.specs.Telling.{holder_by}
use Rattle.run_model.specs.Versions.{is_held_above}
use Rattle.run_laws.proofs.Apart.{Clear}
use Rattle.run_laws.proofs.Each.{Each}
use Rattle.run_laws.proofs.Names.{ancestor_trans, clash}
use Rattle.run_laws.proofs.Seen.{last_facts}
use Rattle.run_laws.proofs.Sorted.{EachPair}
use Rattle.local_laws.specs.Orderly.{AreOrderly, Deed, IsUnder}
use Rattle.local_laws.proofs.Orderly.{holder_is}
use Rattle.local_laws.proofs.Ruled.{of_kept}

-- what stands under a deed whose holder is above a, is held above a
seen_below : (told : Name → Bool) (a : Name) (p q : Performed) → is_held_above (holder_by told q.action) a ≡ true
    → ((c : Name) → is_ancestor c p.action ≡ true → told c ≡ false → is_ancestor c q.action ≡ true)
    → (o : Option Name) → holder_by told p.action ≡ o → is_held_above o a ≡ true
seen_below told a p q above h None e = refl
seen_below told a p q above h (Some d) e =
    let held = holder_is told p.action d e in
    elim (last_facts (λ c. not (told c)) q.action d (h d held.0 held.1)) [
      | inl m ↦ absurd (clash (not-false _ m) held.1)
      | inr m ↦ ancestor_trans d m.0 a m.2 (sym (ap (λ o. is_held_above o a) m.1) ∙ above)
    ]

pub clear_deeds : (told : Name → Bool) (a : Name) (os : List Performed) (rs : List Deed) → AreOrderly told (map of_kept os ++ rs)
    → EachPair (Clear (λ o. true) (λ o. is_held_above (holder_by told o.action) a)) os
clear_deeds told a [] rs h = tt
clear_deeds told a (q ∷ os) rs h = (each os h.0, clear_deeds told a os rs h.1)
  where
    each : (ps : List Performed) → AllByRecursion (λ e. IsUnder told (of_kept q) e) (map of_kept ps ++ rs)
        → Each (λ p. Clear (λ o. true) (λ o. is_held_above (holder_by told o.action) a) q p) ps
    each [] k = tt
    each (p ∷ ps) k = (λ t above u c. seen_below told a p q above (k.0 c) (holder_by told p.action) refl, each ps k.1)
