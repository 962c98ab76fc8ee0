-- Items in the order of their indices, of which the first or the last are dropped.
use Rattle.std.proofs.Common.{◌≡◌, List, [], ◌∷◌, ◌++◌, filter, Bool, true, false, not, ◌&&◌, ◌||◌, None, Some, refl, sym, ap, ◌∙◌, arith}
use Rattle.std.specs.Prelude.{ℤ, pos, ◌+ℤ◌, int_le, int_lt, cond, Option, IfSome, IfNone}
use Rattle.std.specs.List.{All, AllByRecursion, list_any}
use Rattle.std.specs.Ordering.{int_cmp, is_gt, is_lt}
use Rattle.std.specs.declared.cmp.Ordering.TheVariants.{Less}
use Rattle.std.specs.BTreeMap.{is_at}
use Rattle.std.specs.BTreeMap.Range.{IsLtBy}
use Rattle.std.specs.Map.{keys_of, lookup}
use Rattle.std.proofs.lemmas.Bool.{true≢false, false≢true}
use Rattle.std.proofs.lemmas.Int.{ints}
use Rattle.std.proofs.lemmas.List.{append-nil}
use Rattle.std.proofs.lemmas.List.Elements.{filter-append, recursion_from_All}
use Rattle.std.proofs.lemmas.List.Folds.{list_any-append}
use Rattle.std.proofs.lemmas.Option.{none-some}
use Rattle.overlays.specs.declared.bounds.Bounds.{Bounds}
use Rattle.overlays.specs.ArrayOverlays.{is_within}
use Rattle.overlays.proofs.Places.{is_same_index}

module _ {X : Type 0} where
  -- an item that is found passes
  any_found : (test : ℤ → Bool) (k : ℤ) (v : X) (es : List (ℤ × X)) → lookup (is_at (int_cmp k)) es ≡ Some v → test k ≡ true → list_any (λ e. test e.0) es ≡ true
  any_found test k v [] h pass = absurd (none-some v h)
  any_found test k v (e ∷ es) h pass = by_test (any_found test k v es) (is_at (int_cmp k) e.0) refl h where
    by_test : (lookup (is_at (int_cmp k)) es ≡ Some v → test k ≡ true → list_any (λ e. test e.0) es ≡ true) → (t : Bool) → is_at (int_cmp k) e.0 ≡ t
        → cond t (Some e.1) (lookup (is_at (int_cmp k)) es) ≡ Some v → test e.0 || list_any (λ e. test e.0) es ≡ true
    by_test later true t h = ap (λ b. b || list_any (λ e. test e.0) es) (ap test (sym (is_same_index k e.0 t)) ∙ pass)
    by_test later false t h = or (test e.0) (later h pass) where
      or : (s : Bool) {t : Bool} → t ≡ true → s || t ≡ true
      or true e = refl
      or false e = e

  none_found : (test : ℤ → Bool) (es : List (ℤ × X)) → AllByRecursion (λ k. test k ≡ false) (keys_of es) → list_any (λ e. test e.0) es ≡ false
  none_found test [] h = refl
  none_found test (e ∷ es) h = ap (λ b. b || list_any (λ e. test e.0) es) h.0 ∙ none_found test es h.1

  -- none of the items is refused
  all_kept : (p : ℤ × X → Bool) (es : List (ℤ × X)) → list_any (λ e. not (p e)) es ≡ false → filter p es ≡ es
  all_kept p [] h = refl
  all_kept p (e ∷ es) h = by_test (all_kept p es) (p e) h where
    by_test : (list_any (λ e. not (p e)) es ≡ false → filter p es ≡ es) → (t : Bool) → not t || list_any (λ e. not (p e)) es ≡ false
        → cond t (e ∷ filter p es) (filter p es) ≡ e ∷ es
    by_test later true h = ap (λ fs. e ∷ fs) (later h)
    by_test later false h = absurd (true≢false h)

  -- ---- from the first on

  -- whether the first lies before an index, to which all others stand as it does
  pub tells_first : (k low : ℤ) (v : X) (es : List (ℤ × X)) → lookup (is_at (int_cmp k)) es ≡ Some v → AllByRecursion (λ q. is_gt (int_cmp k q) ≡ false) (keys_of es)
      → int_lt k low ≡ list_any (λ e. not (int_le low e.0)) es
  tells_first k low v es there above = by_test (int_lt k low) refl where
    each : int_lt k low ≡ false → (ks : List ℤ) → AllByRecursion (λ q. is_gt (int_cmp k q) ≡ false) ks → AllByRecursion (λ q. not (int_le low q) ≡ false) ks
    each t [] h = h
    each t (q ∷ ks) h = let g = h.0 in (grind (arith, ints), each t ks h.1)

    by_test : (t : Bool) → int_lt k low ≡ t → t ≡ list_any (λ e. not (int_le low e.0)) es
    by_test true t = sym (any_found (λ q. not (int_le low q)) k v es there (grind (arith, ints)))
    by_test false t = sym (none_found (λ q. not (int_le low q)) es (each t (keys_of es) above))

  first_dropped : (low : ℤ) (e : ℤ × X) (es : List (ℤ × X)) → AllByRecursion (λ q. int_cmp e.0 q ≡ Less) (keys_of es)
      → list_any (λ e. not (int_le low e.0)) (e ∷ es) ≡ true → filter (λ e. int_le low e.0) es ≡ filter (λ e. int_le low e.0) (e ∷ es)
  first_dropped low e es above some = by_test (int_le low e.0) refl some where
    each : int_le low e.0 ≡ true → (ks : List ℤ) → AllByRecursion (λ q. int_cmp e.0 q ≡ Less) ks → AllByRecursion (λ q. not (int_le low q) ≡ false) ks
    each t [] h = h
    each t (q ∷ ks) h = let g = h.0 in (grind (arith, ints), each t ks h.1)

    by_test : (t : Bool) → int_le low e.0 ≡ t → not t || list_any (λ e. not (int_le low e.0)) es ≡ true
        → filter (λ e. int_le low e.0) es ≡ cond t (e ∷ filter (λ e. int_le low e.0) es) (filter (λ e. int_le low e.0) es)
    by_test true t h = absurd (false≢true (sym (none_found (λ q. not (int_le low q)) es (each t (keys_of es) above)) ∙ h))
    by_test false t h = refl

  -- the first is dropped, where one lies before the index
  pub first_popped : (low : ℤ) (old new : List (ℤ × X)) (r : Option (ℤ × X)) → IfSome r (λ q. old ≡ q ∷ new) → IfSome r (λ q. All (IsLtBy int_cmp q.0) (keys_of new))
      → IfNone r (new ≡ old) → list_any (λ e. not (int_le low e.0)) old ≡ true → filter (λ e. int_le low e.0) new ≡ filter (λ e. int_le low e.0) old
  first_popped low old new None is above same some = ap (filter (λ e. int_le low e.0)) same
  first_popped low old new (Some q) is above same some =
      first_dropped low q new (recursion_from_All _ (keys_of new) above) (ap (list_any (λ e. not (int_le low e.0))) (sym is) ∙ some) ∙ ap (filter (λ e. int_le low e.0)) (sym is)

  pub all_from : (low : ℤ) (es : List (ℤ × X)) → list_any (λ e. not (int_le low e.0)) es ≡ false → filter (λ e. int_le low e.0) es ≡ es
  all_from low es h = all_kept (λ e. int_le low e.0) es h

  -- ---- from the last on

  pub tells_last : (k end : ℤ) (v : X) (es : List (ℤ × X)) → lookup (is_at (int_cmp k)) es ≡ Some v → AllByRecursion (λ q. is_lt (int_cmp k q) ≡ false) (keys_of es)
      → int_le end k ≡ list_any (λ e. not (int_lt e.0 end)) es
  tells_last k end v es there below = by_test (int_le end k) refl where
    each : int_le end k ≡ false → (ks : List ℤ) → AllByRecursion (λ q. is_lt (int_cmp k q) ≡ false) ks → AllByRecursion (λ q. not (int_lt q end) ≡ false) ks
    each t [] h = h
    each t (q ∷ ks) h = let g = h.0 in (grind (arith, ints), each t ks h.1)

    by_test : (t : Bool) → int_le end k ≡ t → t ≡ list_any (λ e. not (int_lt e.0 end)) es
    by_test true t = sym (any_found (λ q. not (int_lt q end)) k v es there (grind (arith, ints)))
    by_test false t = sym (none_found (λ q. not (int_lt q end)) es (each t (keys_of es) below))

  last_dropped : (end : ℤ) (e : ℤ × X) (es : List (ℤ × X)) → AllByRecursion (λ q. int_cmp q e.0 ≡ Less) (keys_of es)
      → list_any (λ e. not (int_lt e.0 end)) (es ++ e ∷ []) ≡ true → filter (λ e. int_lt e.0 end) es ≡ filter (λ e. int_lt e.0 end) (es ++ e ∷ [])
  last_dropped end e es below some =
      by_test (int_lt e.0 end) refl (sym (list_any-append refused es (e ∷ [])) ∙ some) ∙ sym (filter-append kept es (e ∷ [])) where
        kept : ℤ × X → Bool
        kept e = int_lt e.0 end

        refused : ℤ × X → Bool
        refused e = not (int_lt e.0 end)

        each : int_lt e.0 end ≡ true → (ks : List ℤ) → AllByRecursion (λ q. int_cmp q e.0 ≡ Less) ks → AllByRecursion (λ q. not (int_lt q end) ≡ false) ks
        each t [] h = h
        each t (q ∷ ks) h = let g = h.0 in (grind (arith, ints), each t ks h.1)

        by_test : (t : Bool) → int_lt e.0 end ≡ t → list_any refused es || (not t || false) ≡ true → filter kept es ≡ filter kept es ++ cond t (e ∷ []) []
        by_test true t h = absurd (false≢true (sym (ap (λ b. b || false) (none_found (λ q. not (int_lt q end)) es (each t (keys_of es) below))) ∙ h))
        by_test false t h = sym (append-nil (filter kept es))

  -- the last is dropped, where one lies from the index on
  pub last_popped : (end : ℤ) (old new : List (ℤ × X)) (r : Option (ℤ × X)) → IfSome r (λ q. old ≡ new ++ q ∷ []) → IfSome r (λ q. All (λ k. IsLtBy int_cmp k q.0) (keys_of new))
      → IfNone r (new ≡ old) → list_any (λ e. not (int_lt e.0 end)) old ≡ true → filter (λ e. int_lt e.0 end) new ≡ filter (λ e. int_lt e.0 end) old
  last_popped end old new None is below same some = ap (filter (λ e. int_lt e.0 end)) same
  last_popped end old new (Some q) is below same some =
      last_dropped end q new (recursion_from_All _ (keys_of new) below) (ap (list_any (λ e. not (int_lt e.0 end))) (sym is) ∙ some) ∙ ap (filter (λ e. int_lt e.0 end)) (sym is)

  pub all_before : (end : ℤ) (es : List (ℤ × X)) → list_any (λ e. not (int_lt e.0 end)) es ≡ false → filter (λ e. int_lt e.0 end) es ≡ es
  all_before end es h = all_kept (λ e. int_lt e.0 end) es h

  both_kept : (b : Bounds) (es : List (ℤ × X))
      → filter (λ e. int_lt e.0 (b.low +ℤ pos b.size)) (filter (λ e. int_le b.low e.0) es) ≡ filter (λ e. is_within b e.0) es
  both_kept b [] = refl
  both_kept b (e ∷ es) = by_test (both_kept b es) (int_le b.low e.0) where
    before : List (ℤ × X) → List (ℤ × X)
    before es = filter (λ e. int_lt e.0 (b.low +ℤ pos b.size)) es

    by_test : before (filter (λ e. int_le b.low e.0) es) ≡ filter (λ e. is_within b e.0) es → (t : Bool)
        → before (cond t (e ∷ filter (λ e. int_le b.low e.0) es) (filter (λ e. int_le b.low e.0) es))
        ≡ cond (t && int_lt e.0 (b.low +ℤ pos b.size)) (e ∷ filter (λ e. is_within b e.0) es) (filter (λ e. is_within b e.0) es)
    by_test later true = ap (λ fs. cond (int_lt e.0 (b.low +ℤ pos b.size)) (e ∷ fs) fs) later
    by_test later false = later

  -- what both leave lies in the bounds
  pub dropped_outside : (b : Bounds) (es between left : List (ℤ × X)) (low end : ℤ) → between ≡ filter (λ e. int_le low e.0) es → left ≡ filter (λ e. int_lt e.0 end) between
      → low ≡ b.low → end ≡ b.low +ℤ pos b.size → left ≡ filter (λ e. is_within b e.0) es
  dropped_outside b es between left low end first second at to =
      second ∙ ap (λ z. filter (λ e. int_lt e.0 z) between) to ∙ ap (filter (λ e. int_lt e.0 (b.low +ℤ pos b.size))) (first ∙ ap (λ z. filter (λ e. int_le z e.0) es) at) ∙ both_kept b es
