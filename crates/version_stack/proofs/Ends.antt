-- Owners and the ends of their overlays, and the versions that are seen under those ends.
use Rattle.std.proofs.Common.{◌≡◌, ℕ, zero, suc, ◌+◌, ◌<◌, ◌≤◌, eqb, Bool, true, false, not, List, [], ◌∷◌, ◌++◌, length, map, take, get_or, refl, sym, ap, ◌∙◌, subst, arith, Some, None}
use Rattle.std.specs.Prelude.{Option, filter}
use Rattle.std.specs.List.{position, position_from, list_any}
use Rattle.std.proofs.lemmas.Bool.{true≢false, eqb-false}
use Rattle.std.proofs.Math.Numerals.{one-add}
use Rattle.std.proofs.lemmas.List.Quantifiers.{position-Some}
use Rattle.std.proofs.lemmas.Iterator.Adapters.{position_from-zero}
use Rattle.action_names.specs.Names.{Name, same_name, is_ancestor}
use Rattle.action_names.proofs.Ancestry.{both, ancestor_trans}
use Rattle.object_model.specs.Stacks.{last_version, version_at, with_top, changed_at, is_on_top, owners_above, AreAbove, RiseByAncestry, RisesByAncestry}
use Rattle.version_stack.specs.Layers.{rows, seen, last_end, is_end, lowered, EndsRise, IsNoEnd}

-- ---- ends

-- the last end is that of all overlays
pub last_is : (s n : ℕ) (es : List ℕ) → EndsRise s es n → last_end s es ≡ n
last_is s n [] h = h
last_is s n (e ∷ es) h = last_is e n es h.1

-- the first end is no later than the last
pub rise_within : (s n : ℕ) (es : List ℕ) → EndsRise s es n → s ≤ n
rise_within s n [] h = omega arith
rise_within s n (e ∷ es) h = let later : e ≤ n = rise_within e n es h.1 in let here : s < e = h.0 in omega arith

-- one more end above all
pub ends_push : (s n m : ℕ) (es : List ℕ) → EndsRise s es n → n < m → EndsRise s (es ++ m ∷ []) m
ends_push s n m [] h l = let same : s ≡ n = h in (omega arith, refl)
ends_push s n m (e ∷ es) h l = (h.0, ends_push e n m es h.1 l)

-- so many ends, the lowest, rise to the last of them, which is no later than the last of all
pub ends_take : (s n k : ℕ) (es : List ℕ) → EndsRise s es n → EndsRise s (take k es) (last_end s (take k es)) × (last_end s (take k es) ≤ n)
ends_take s n zero es h = (refl, rise_within s n es h)
ends_take s n (suc k) [] h = let same : s ≡ n = h in (refl, omega arith)
ends_take s n (suc k) (e ∷ es) h = let later = ends_take e n k es h.1 in ((h.0, later.0), later.1)

-- two ends that rise still do once two overlays became one, where neither end stands between the two
lowered_rises : (k a b : ℕ) → a < b → (a ≡ k → ⊥) → (b ≡ k → ⊥) → lowered k a < lowered k b
lowered_rises zero zero b l h i = absurd (h refl)
lowered_rises zero (suc a) zero l h i = absurd (omega arith)
lowered_rises zero (suc a) (suc b) l h i = omega arith
lowered_rises (suc k) zero zero l h i = absurd (omega arith)
lowered_rises (suc k) zero (suc b) l h i = omega arith
lowered_rises (suc k) (suc a) zero l h i = absurd (omega arith)
lowered_rises (suc k) (suc a) (suc b) l h i =
    let later : lowered k a < lowered k b = lowered_rises k a b (omega arith) (λ e. h (ap suc e)) (λ e. i (ap suc e)) in omega arith

-- the end of all overlays is one less then
lowered_top : (k n : ℕ) → k ≤ n → lowered k (suc n) ≡ n
lowered_top zero n l = refl
lowered_top (suc k) zero l = absurd (omega arith)
lowered_top (suc k) (suc n) l = ap suc (lowered_top k n (omega arith))

-- an end below stays
pub lowered_below : (k e : ℕ) → e ≤ k → lowered k e ≡ e
lowered_below k zero l = refl
lowered_below zero (suc e) l = absurd (omega arith)
lowered_below (suc k) (suc e) l = ap suc (lowered_below k e (omega arith))

-- an end above is one less
pub lowered_above : (k e : ℕ) → k < e → suc (lowered k e) ≡ e
lowered_above k zero l = absurd (omega arith)
lowered_above zero (suc e) l = refl
lowered_above (suc k) (suc e) l = ap suc (lowered_above k e (omega arith))

-- ends still rise once two overlays became one at a place where none ends
pub ends_lowered : (k s n : ℕ) (es : List ℕ) → (s ≡ k → ⊥) → IsNoEnd k es → k ≤ n → EndsRise s es (suc n)
    → EndsRise (lowered k s) (map (lowered k) es) n
ends_lowered k s n [] h i l r = ap (lowered k) r ∙ lowered_top k n l
ends_lowered k s n (e ∷ es) h i l r = (lowered_rises k s e r.0 h i.0, ends_lowered k e n es i.0 i.1 l r.1)

-- where a search found no end at this place
no_ends : (k : ℕ) (es : List ℕ) → list_any (λ e. eqb e k) es ≡ false → IsNoEnd k es
no_ends k [] h = tt
no_ends k (e ∷ es) h = by_case (no_ends k es) (eqb e k) refl h where
  by_case : (list_any (λ e. eqb e k) es ≡ false → IsNoEnd k es) → (t : Bool) → eqb e k ≡ t → list_any (λ e. eqb e k) (e ∷ es) ≡ false
      → IsNoEnd k (e ∷ es)
  by_case later true d h = absurd (true≢false (rw d at h))
  by_case later false d h = (eqb-false e k d, later (rw d at h))

-- where a test found no end at this place, neither the base nor an owner has one there
pub no_end : (s k : ℕ) (es : List ℕ) → is_end s es k ≡ false → (s ≡ k → ⊥) × IsNoEnd k es
no_end s k es h = by_case (eqb s k) refl h where
  by_case : (t : Bool) → eqb s k ≡ t → is_end s es k ≡ false → (s ≡ k → ⊥) × IsNoEnd k es
  by_case true d h = absurd (true≢false (rw d at h))
  by_case false d h = (eqb-false s k d, no_ends k es (rw d at h))

-- ---- rows

-- the owners that are seen are those that are kept
pub owners_seen : {T : Type 0} (f : ℕ → T) (ns : List Name) (es : List ℕ) → length ns ≡ length es → map (λ v. v.0) (seen f (rows ns es)) ≡ ns
owners_seen {T} f [] es p = refl
owners_seen {T} f (n ∷ ns) [] p = absurd (omega arith)
owners_seen {T} f (n ∷ ns) (e ∷ es) p = ap (λ ms. n ∷ ms) (owners_seen f ns es (omega arith))

-- they rise as those do
pub rising_seen : {T : Type 0} (f : ℕ → T) (ns : List Name) (es : List ℕ) → length ns ≡ length es → RiseByAncestry ns
    → RisesByAncestry (seen f (rows ns es))
rising_seen {T} f ns es p r = subst RiseByAncestry (sym (owners_seen f ns es p)) r

-- so many rows are so many owners beside so many ends
pub rows_take : (k : ℕ) (ns : List Name) (es : List ℕ) → rows (take k ns) (take k es) ≡ take k (rows ns es)
rows_take zero ns es = refl
rows_take (suc k) [] es = refl
rows_take (suc k) (n ∷ ns) [] = refl
rows_take (suc k) (n ∷ ns) (e ∷ es) = ap (λ vs. (n, e) ∷ vs) (rows_take k ns es)

module _ {T : Type 0} (f : ℕ → T) where
  -- so many rows, as they are seen, are so many of the versions
  pub seen_take : (k : ℕ) (vs : List (Name × ℕ)) → seen f (take k vs) ≡ take k (seen f vs)
  seen_take zero vs = refl
  seen_take (suc k) [] = refl
  seen_take (suc k) (v ∷ vs) = ap (λ ws. (v.0, f v.1) ∷ ws) (seen_take k vs)

  -- the version on top is what is seen under the last end
  pub last_seen : (s : ℕ) (ns : List Name) (es : List ℕ) → length ns ≡ length es → last_version (f s) (seen f (rows ns es)) ≡ f (last_end s es)
  last_seen s [] [] p = refl
  last_seen s [] (e ∷ es) p = absurd (omega arith)
  last_seen s (n ∷ ns) [] p = absurd (omega arith)
  last_seen s (n ∷ ns) (e ∷ es) p = last_seen e ns es (omega arith)

  -- what is seen under an end, if there is one
  abbrev pub image : Option ℕ → Option T
  image None = None
  image (Some e) = Some (f e)

  -- an owner's version is what is seen under its end
  pub version_seen : (vs : List (Name × ℕ)) (a : Name) → version_at (seen f vs) a ≡ image (version_at vs a)
  version_seen [] a = refl
  version_seen (v ∷ vs) a = by_case (version_seen vs a) (same_name v.0 a) refl where
    by_case : version_at (seen f vs) a ≡ image (version_at vs a) → (t : Bool) → same_name v.0 a ≡ t
        → version_at (seen f (v ∷ vs)) a ≡ image (version_at (v ∷ vs) a)
    by_case later true d = rw d refl
    by_case later false d = rw d later

  -- under these ends the same is seen
  pub seen_same : (g : ℕ → T) (s n : ℕ) (ns : List Name) (es : List ℕ) → EndsRise s es n → ((k : ℕ) → s < k → k ≤ n → g k ≡ f k)
      → seen g (rows ns es) ≡ seen f (rows ns es)
  seen_same g s n [] es r h = refl
  seen_same g s n (m ∷ ns) [] r h = refl
  seen_same g s n (m ∷ ns) (e ∷ es) r h =
      let within : e ≤ n = rise_within e n es r.1 in
      let above : s < e = r.0 in
      ap (λ x. (m, x) ∷ seen g (rows ns es)) (h e above within)
      ∙ ap (λ vs. (m, f e) ∷ vs) (seen_same g e n ns es r.1 (λ k l w. h k (omega arith) w))

  -- once two overlays became one, the same is seen under the ends that are lowered
  pub seen_lowered : (g : ℕ → T) (k s n : ℕ) (ns : List Name) (es : List ℕ) → EndsRise s es n → IsNoEnd k es
      → ((e : ℕ) → (e ≡ k → ⊥) → e ≤ n → g (lowered k e) ≡ f e) → seen g (rows ns (map (lowered k) es)) ≡ seen f (rows ns es)
  seen_lowered g k s n [] es r i h = refl
  seen_lowered g k s n (m ∷ ns) [] r i h = refl
  seen_lowered g k s n (m ∷ ns) (e ∷ es) r i h =
      ap (λ x. (m, x) ∷ seen g (rows ns (map (lowered k) es))) (h e i.0 (rise_within e n es r.1))
      ∙ ap (λ vs. (m, f e) ∷ vs) (seen_lowered g k e n ns es r.1 i.1 h)

  -- another content under the last end, whose owner is on top
  pub seen_on_top : (g : ℕ → T) (s n : ℕ) (ns : List Name) (es : List ℕ) (a : Name) (x : T) → length ns ≡ length es → EndsRise s es n
      → is_on_top ns a ≡ true
      → ((k : ℕ) → k < n → g k ≡ f k) → g n ≡ x → seen g (rows ns es) ≡ with_top (seen f (rows ns es)) a x
  seen_on_top g s n [] es a x p r t h e = absurd (cc)
  seen_on_top g s n (m ∷ ns) [] a x p r t h e = absurd (omega arith)
  seen_on_top g s n (m ∷ []) (b ∷ []) a x p r t h e = rw t (ap (λ y. (m, y) ∷ []) (ap g r.1 ∙ e))
  seen_on_top g s n (m ∷ []) (b ∷ d ∷ es) a x p r t h e = absurd (omega arith)
  seen_on_top g s n (m ∷ o ∷ ns) (b ∷ []) a x p r t h e = absurd (omega arith)
  seen_on_top g s n (m ∷ o ∷ ns) (b ∷ d ∷ es) a x p r t h e =
      let within : d ≤ n = rise_within d n es r.1.1 in
      let above : b < d = r.1.0 in
      ap (λ y. (m, y) ∷ seen g (rows (o ∷ ns) (d ∷ es))) (h b (omega arith))
      ∙ ap (λ vs. (m, f b) ∷ vs) (seen_on_top g b n (o ∷ ns) (d ∷ es) a x (omega arith) r.1 t h e)

  -- one more owner above all
  pub seen_above : (g : ℕ → T) (s n q : ℕ) (ns : List Name) (es : List ℕ) (a : Name) (x : T) → length ns ≡ length es → EndsRise s es n
      → is_on_top ns a ≡ false
      → ((k : ℕ) → k ≤ n → g k ≡ f k) → g q ≡ x → seen g (rows (ns ++ a ∷ []) (es ++ q ∷ [])) ≡ with_top (seen f (rows ns es)) a x
  seen_above g s n q [] [] a x p r t h e = ap (λ y. (a, y) ∷ []) e
  seen_above g s n q [] (b ∷ es) a x p r t h e = absurd (omega arith)
  seen_above g s n q (m ∷ ns) [] a x p r t h e = absurd (omega arith)
  seen_above g s n q (m ∷ []) (b ∷ []) a x p r t h e =
      let same : b ≡ n = r.1 in
      rw t (ap (λ y. (m, y) ∷ (a, g q) ∷ []) (h b (omega arith)) ∙ ap (λ y. (m, f b) ∷ (a, y) ∷ []) e)
  seen_above g s n q (m ∷ []) (b ∷ d ∷ es) a x p r t h e = absurd (omega arith)
  seen_above g s n q (m ∷ o ∷ ns) (b ∷ []) a x p r t h e = absurd (omega arith)
  seen_above g s n q (m ∷ o ∷ ns) (b ∷ d ∷ es) a x p r t h e =
      ap (λ y. (m, y) ∷ seen g (rows ((o ∷ ns) ++ a ∷ []) ((d ∷ es) ++ q ∷ []))) (h b (rise_within b n (d ∷ es) r.1))
      ∙ ap (λ vs. (m, f b) ∷ vs) (seen_above g b n q (o ∷ ns) (d ∷ es) a x (omega arith) r.1 t h e)

  -- owners still rise with one more, that all of them are ancestors of
  pub rising_push : (ns : List Name) (es : List ℕ) (a : Name) → length ns ≡ length es → RiseByAncestry ns → AreAbove (seen f (rows ns es)) a
      → is_on_top ns a ≡ false → RiseByAncestry (ns ++ a ∷ [])
  rising_push [] es a p r h t = tt
  rising_push (n ∷ ns) [] a p r h t = absurd (omega arith)
  rising_push (n ∷ []) (e ∷ es) a p r h t = (rw (h.0, t) refl, tt)
  rising_push (n ∷ m ∷ ns) (e ∷ es) a p r h t = (r.0, rising_push (m ∷ ns) es a (omega arith) r.1 h.1 t)

  -- where the owner has none
  pub unchanged : (change : T → T) (vs : List (Name × ℕ)) (a : Name) → version_at vs a ≡ None → changed_at change (seen f vs) a ≡ seen f vs
  unchanged change [] a h = refl
  unchanged change (v ∷ vs) a h = by_case (unchanged change vs a) (same_name v.0 a) refl h where
    by_case : (version_at vs a ≡ None → changed_at change (seen f vs) a ≡ seen f vs) → (t : Bool) → same_name v.0 a ≡ t → version_at (v ∷ vs) a ≡ None
        → changed_at change (seen f (v ∷ vs)) a ≡ seen f (v ∷ vs)
    by_case later true d h = let none = rw d at h in absurd (cc)
    by_case later false d h = rw d (ap (λ ws. (v.0, f v.1) ∷ ws) (later (rw d at h)))

-- an owner's end
pub end_within : (s n : ℕ) (ns : List Name) (es : List ℕ) (a : Name) (e : ℕ) → EndsRise s es n → version_at (rows ns es) a ≡ Some e
    → (s < e) × (e ≤ n)
end_within s n [] es a e r h = absurd (cc)
end_within s n (m ∷ ns) [] a e r h = absurd (cc)
end_within s n (m ∷ ns) (b ∷ es) a e r h = by_case (end_within b n ns es a e r.1) (same_name m a) refl h where
  by_case : (version_at (rows ns es) a ≡ Some e → (b < e) × (e ≤ n)) → (t : Bool) → same_name m a ≡ t
      → version_at (rows (m ∷ ns) (b ∷ es)) a ≡ Some e → (s < e) × (e ≤ n)
  by_case later true d h =
      let found = rw d at h in
      let same : b ≡ e = cc in
      let within : b ≤ n = rise_within b n es r.1 in
      let above : s < b = r.0 in
      (omega arith, omega arith)
  by_case later false d h =
      let rest = later (rw d at h) in
      let above : s < b = r.0 in
      let over : b < e = rest.0 in
      (omega arith, rest.1)

-- the content under one end changed
pub seen_changed : {T : Type 0} (f g : ℕ → T) (change : T → T) (s n : ℕ) (ns : List Name) (es : List ℕ) (a : Name) (e : ℕ) → EndsRise s es n
    → version_at (rows ns es) a ≡ Some e → g e ≡ change (f e) → ((k : ℕ) → (k ≡ e → ⊥) → k ≤ n → g k ≡ f k)
    → seen g (rows ns es) ≡ changed_at change (seen f (rows ns es)) a
seen_changed {T} f g change s n [] es a e r h c o = absurd (cc)
seen_changed {T} f g change s n (m ∷ ns) [] a e r h c o = absurd (cc)
seen_changed {T} f g change s n (m ∷ ns) (b ∷ es) a e r h c o = by_case (seen_changed f g change b n ns es a e r.1) (same_name m a) refl h where
  by_case : (version_at (rows ns es) a ≡ Some e → g e ≡ change (f e) → ((k : ℕ) → (k ≡ e → ⊥) → k ≤ n → g k ≡ f k)
      → seen g (rows ns es) ≡ changed_at change (seen f (rows ns es)) a)
      → (t : Bool) → same_name m a ≡ t → version_at (rows (m ∷ ns) (b ∷ es)) a ≡ Some e
      → seen g (rows (m ∷ ns) (b ∷ es)) ≡ changed_at change (seen f (rows (m ∷ ns) (b ∷ es))) a
  by_case later true d h =
      let found = rw d at h in
      let same : b ≡ e = cc in
      rw d (ap (λ x. (m, x) ∷ seen g (rows ns es)) (ap g same ∙ c ∙ ap (λ x. change (f x)) (sym same))
      ∙ ap (λ vs. (m, change (f b)) ∷ vs) (seen_same f g b n ns es r.1 (λ k l w. o k (λ z. omega arith) w)))
  by_case later false d h =
      let rest : version_at (rows ns es) a ≡ Some e = rw d at h in
      let within : b < e = (end_within b n ns es a e r.1 rest).0 in
      rw d (ap (λ x. (m, x) ∷ seen g (rows ns es)) (o b (λ z. omega arith) (rise_within b n es r.1))
      ∙ ap (λ vs. (m, f b) ∷ vs) (later rest c o))

-- ---- places of owners

-- the end beside the first place of an owner is its end
pub end_placed : (ns : List Name) (es : List ℕ) (a d : Name) (b i : ℕ) → length ns ≡ length es → i < length ns
    → same_name (get_or ns i d) a ≡ true → ((k : ℕ) → k < i → same_name (get_or ns k d) a ≡ false) → version_at (rows ns es) a ≡ Some (get_or es i b)
end_placed [] es a d b i p w here before = absurd (omega arith)
end_placed (n ∷ ns) [] a d b i p w here before = absurd (omega arith)
end_placed (n ∷ ns) (e ∷ es) a d b zero p w here before = rw here refl
end_placed (n ∷ ns) (e ∷ es) a d b (suc i) p w here before =
    let first : same_name n a ≡ false = before 0 (omega arith) in
    rw first (end_placed ns es a d b i (omega arith) (omega arith) here (λ k h. before (suc k) (omega arith)))

-- where a search, counted from any number on, found no owner
end_unplaced_from : (ns : List Name) (es : List ℕ) (a : Name) (n : ℕ) → position_from (λ b. same_name b a) n ns ≡ None
    → version_at (rows ns es) a ≡ None
end_unplaced_from [] es a n e = refl
end_unplaced_from (m ∷ ns) [] a n e = refl
end_unplaced_from (m ∷ ns) (b ∷ es) a n e = by_case (end_unplaced_from ns es a (n + 1)) (same_name m a) refl e where
  by_case : (position_from (λ b. same_name b a) (n + 1) ns ≡ None → version_at (rows ns es) a ≡ None)
      → (t : Bool) → same_name m a ≡ t → position_from (λ b. same_name b a) n (m ∷ ns) ≡ None → version_at (rows (m ∷ ns) (b ∷ es)) a ≡ None
  by_case later true d e = let none = rw d at e in absurd (cc)
  by_case later false d e = rw d (later (rw d at e))

-- where a search found no owner
pub end_unplaced : (ns : List Name) (es : List ℕ) (a : Name) → position (λ b. same_name b a) ns ≡ None → version_at (rows ns es) a ≡ None
end_unplaced ns es a e = end_unplaced_from ns es a 0 (sym (position_from-zero (λ b. same_name b a) ns) ∙ e)

-- where it found one
pub end_found : (ns : List Name) (es : List ℕ) (a d : Name) (b i : ℕ) → length ns ≡ length es → position (λ b. same_name b a) ns ≡ Some i
    → (i < length es) × (version_at (rows ns es) a ≡ Some (get_or es i b))
end_found ns es a d b i p e =
    let q = position-Some (λ b. same_name b a) ns i d e in
    let within : i < length ns = q.0 in
    (omega arith, end_placed ns es a d b i p q.0 q.1 q.2)

-- the last of several
pub on_top_last : (ns : List Name) (a d : Name) (n : ℕ) → length ns ≡ suc n → same_name (get_or ns n d) a ≡ is_on_top ns a
on_top_last [] a d n l = absurd (omega arith)
on_top_last (m ∷ []) a d zero l = refl
on_top_last (m ∷ []) a d (suc n) l = absurd (omega arith)
on_top_last (m ∷ k ∷ ns) a d zero l = absurd (omega arith)
on_top_last (m ∷ k ∷ ns) a d (suc n) l = on_top_last (k ∷ ns) a d n (omega arith)

-- the last of several ends
pub end_last : (s b : ℕ) (es : List ℕ) (n : ℕ) → length es ≡ suc n → get_or es n b ≡ last_end s es
end_last s b [] n l = absurd (omega arith)
end_last s b (e ∷ []) zero l = refl
end_last s b (e ∷ []) (suc n) l = absurd (omega arith)
end_last s b (e ∷ d ∷ es) zero l = absurd (omega arith)
end_last s b (e ∷ d ∷ es) (suc n) l = end_last e b (d ∷ es) n (omega arith)

-- ---- what is left where an action and its descendants lose theirs

module _ {T : Type 0} (f : ℕ → T) where
  -- where an owner is the action or a descendant, so are all above it
  none_above : (a n : Name) (ns : List Name) (es : List ℕ) → is_ancestor a n ≡ true → RiseByAncestry (n ∷ ns)
      → filter (λ v. not (is_ancestor a v.0)) (seen f (rows ns es)) ≡ []
  none_above a n [] es h r = refl
  none_above a n (m ∷ ns) [] h r = refl
  none_above a n (m ∷ ns) (e ∷ es) h r =
      let k : is_ancestor a m ≡ true = ancestor_trans a n m h (both (is_ancestor n m) (not (same_name n m)) r.0).0 in
      simp k (none_above a m ns es k r.1)

  -- the versions below the first owner that is the action or a descendant are those of all owners that are neither
  pub dropped : (a : Name) (ns : List Name) (es : List ℕ) → length ns ≡ length es → RiseByAncestry ns
      → take (length (owners_above ns a)) (seen f (rows ns es)) ≡ filter (λ v. not (is_ancestor a v.0)) (seen f (rows ns es))
  dropped a [] es l r = refl
  dropped a (n ∷ ns) [] l r = absurd (omega arith)
  dropped a (n ∷ ns) (e ∷ es) l r = by_case (dropped a ns es (omega arith) (tail n ns r)) (is_ancestor a n) refl where
    tail : (n : Name) (ns : List Name) → RiseByAncestry (n ∷ ns) → RiseByAncestry ns
    tail n [] r = tt
    tail n (m ∷ ns) r = r.1

    by_case : take (length (owners_above ns a)) (seen f (rows ns es)) ≡ filter (λ v. not (is_ancestor a v.0)) (seen f (rows ns es))
        → (t : Bool) → is_ancestor a n ≡ t
        → take (length (owners_above (n ∷ ns) a)) (seen f (rows (n ∷ ns) (e ∷ es)))
        ≡ filter (λ v. not (is_ancestor a v.0)) (seen f (rows (n ∷ ns) (e ∷ es)))
    by_case later true h = simp h (sym (none_above a n ns es h r))
    by_case later false h = simp (h, one-add) (ap (λ vs. (n, f e) ∷ vs) later)

-- so many owners, the lowest, rise
pub rising_take : (k : ℕ) (ns : List Name) → RiseByAncestry ns → RiseByAncestry (take k ns)
rising_take zero ns r = tt
rising_take (suc k) [] r = tt
rising_take (suc zero) (n ∷ ns) r = tt
rising_take (suc (suc k)) (n ∷ []) r = tt
rising_take (suc (suc k)) (n ∷ m ∷ ns) r = (r.0, rising_take (suc k) (m ∷ ns) r.1)
