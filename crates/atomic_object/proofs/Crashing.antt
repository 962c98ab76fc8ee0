-- Which versions a crash leaves, of owners that rise by ancestry.
use Rattle.std.proofs.Common.{◌≡◌, Bool, true, false, List, [], ◌∷◌, filter, inl, inr, refl, sym, ap, subst, ◌∙◌}
use Rattle.std.proofs.lemmas.Bool.{false_from_ne_true, true≢false}
use Rattle.action_names.specs.Names.{Name, is_proper_ancestor, is_top, same_name}
use Rattle.action_names.proofs.Ancestry.{proper, same_refl}
use Rattle.values.specs.declared.content.Content.{Content}
use Rattle.run_laws.proofs.Names.{ancestor_up, no_top}
use Rattle.object_model.specs.Stacks.{RisesByAncestry, Stack}
use Rattle.version_stack.specs.Layers.{kept_lowest}
use Rattle.atomic_object.specs.Kept.{lowest_stays}

-- a descendant of another action is no top action
below_no_top : (a b : Name) → is_proper_ancestor a b ≡ true → is_top b ≡ false
below_no_top a b h =
    let p = proper a b h in
    elim (ancestor_up a b p.0) [
      | inl same ↦ absurd (true≢false (sym (subst (λ x. same_name a x ≡ true) same (same_refl a)) ∙ p.1))
      | inr up ↦ no_top a b up
    ]

module _ (stays : Name → Bool) (tops : (a : Name) → stays a ≡ true → is_top a ≡ true) where
  gone : (a b : Name) → is_proper_ancestor a b ≡ true → stays b ≡ false
  gone a b h = false_from_ne_true (stays b) (λ e. true≢false (sym (tops b e) ∙ below_no_top a b h))

  -- nothing stays above an owner
  none_above : (v : Name × Content) (vs : List (Name × Content)) → RisesByAncestry (v ∷ vs) → filter (λ w. stays w.0) vs ≡ []
  none_above v [] r = refl
  none_above v (w ∷ vs) r = simp (gone v.0 w.0 r.0) (none_above w vs r.1)

  pub left_is : (base : Content) (vs : List (Name × Content)) (old new : Stack Content) → old ≡ record { base = base; versions = vs } → RisesByAncestry vs
      → new ≡ kept_lowest old (lowest_stays stays vs) → new.versions ≡ filter (λ v. stays v.0) vs
  left_is base vs old new e r k = ap (λ (s : Stack Content). s.versions) (k ∙ ap (λ (s : Stack Content). kept_lowest s (lowest_stays stays vs)) e) ∙ at vs r where
    at : (ws : List (Name × Content)) → RisesByAncestry ws
        → (kept_lowest (record { base = base; versions = ws }) (lowest_stays stays ws)).versions ≡ filter (λ v. stays v.0) ws
    at [] r = refl
    at (v ∷ ws) r = by (stays v.0) refl where
      by : (t : Bool) → stays v.0 ≡ t → (kept_lowest (record { base = base; versions = v ∷ ws }) (stays v.0)).versions ≡ filter (λ w. stays w.0) (v ∷ ws)
      by true e = simp e (ap (λ us. v ∷ us) (sym (none_above v ws r)))
      by false e = simp e (sym (none_above v ws r))

  pub base_is : (old new : Stack Content) (t : Bool) → new ≡ kept_lowest old t → new.base ≡ old.base
  base_is old new true e = ap (λ (s : Stack Content). s.base) e
  base_is old new false e = ap (λ (s : Stack Content). s.base) e
