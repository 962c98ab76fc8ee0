-- What a top action holds, laid on what belongs to the base once other top actions were told too, is what belongs to it once that one
-- is told as well.
use Rattle.std.proofs.Common.{Bool, List, None, Option, Some, [], ap, ap₂, cond, false, filter, fold, is_none, map, refl, sym, true, ◌&&◌, ◌++◌, ◌∙◌, ◌∷◌, ◌≡◌, ◌||◌}
use Rattle.std.proofs.lemmas.Bool.{false_from_ne_true, false≢true, or_left, or_right}
use Rattle.std.specs.List.{AllByRecursion, list_any}
use Rattle.action_names.specs.Comparison.{same_name-equivalence}
use Rattle.action_names.specs.Names.{Name, has_name, is_ancestor, is_top, parent_of, same_name, top_of}
use Rattle.values.specs.declared.content.Content.{Content}
use Rattle.atomic_types.specs.declared.part.Part.{Part}
use Rattle.atomic_types.specs.Objects.{knows}
use Rattle.atomic_types.specs.Operations.{is_write}
use Rattle.atomic_types.specs.Parts.{laid_where}
use Rattle.run_model.specs.Actions.{is_exactly}
use Rattle.run_model.specs.Keeping.{Performed}
use Rattle.run_model.specs.Replay.{left_of}
use Rattle.run_model.specs.Telling.{holder_by}
use Rattle.run_model.specs.Versions.{part_held, version_by}
use Rattle.run_laws.proofs.Each.{Each, each_map}
use Rattle.run_laws.proofs.Names.{clash, same_name_self, same_name_true, top_is_own, top_of_ancestor}
use Rattle.local_laws.specs.Orderly.{AreOrderly, Deed, IsUnder}
use Rattle.local_laws.proofs.Based.{none_pass}
use Rattle.local_laws.proofs.Beside.{IsBeside, all_told, alone_beside, exactly, held_facts, held_from, told_all}
use Rattle.local_laws.proofs.Kept.{filter_same}
use Rattle.local_laws.proofs.Moving.{holders_move}
use Rattle.local_laws.proofs.Orderly.{holder_is}
use Rattle.local_laws.proofs.Rising.{Distinct}
use Rattle.local_laws.proofs.Ruled.{of_kept}
use Rattle.local_laws.proofs.Written.{held_by, held_laid, held_of, in_base, is_held, part_is_held, same_held, standing, version_is, writing}

-- ---- lists

-- what holds of all holds of each
each_of : {X : Type 0} (P : X → Type 0) (xs : List X) → ((x : X) → P x) → Each P xs
each_of P [] f = tt
each_of P (x ∷ xs) f = (f x, each_of P xs f)

filter_alike : (p q : Performed → Bool) (os : List Performed) → ((o : Performed) → p o ≡ q o) → filter p os ≡ filter q os
filter_alike p q os f = filter_same p q os (each_of (λ o. p o ≡ q o) os f)

-- both or neither
pub both : (a b : Bool) → (a ≡ true → b ≡ true) → (b ≡ true → a ≡ true) → a ≡ b
both true b f g = sym (f refl)
both false true f g = g refl
both false false f g = refl

-- ---- more is told

-- all that was told, and of top actions more
pub record IsMore (told told' : Name → Bool) : Type 0 where
  pub still : (c : Name) → told c ≡ true → told' c ≡ true
  pub below : (c : Name) → is_top c ≡ false → told' c ≡ told c

abbrev untold : (told told' : Name → Bool) → IsMore told told' → (c : Name) → told' c ≡ false → told c ≡ false
untold told told' m c h = false_from_ne_true _ (λ k. clash (m.still c k) h)

-- what stands by the rule still does
more_told : (told told' : Name → Bool) → ((c : Name) → told' c ≡ false → told c ≡ false) → (ds : List Deed) → AreOrderly told ds → AreOrderly told' ds
more_told told told' less [] h = tt
more_told told told' less (d ∷ ds) h = (all_more ds h.0, more_told told told' less ds h.1)
  where
    all_more : (es : List Deed) → AllByRecursion (λ e. IsUnder told d e) es → AllByRecursion (λ e. IsUnder told' d e) es
    all_more [] k = tt
    all_more (e ∷ es) k = (λ q c a u. k.0 q c a (less c u), all_more es k.1)

-- u besides
abbrev pub with_one : Name → (Name → Bool) → Name → Bool
with_one u told c = same_name c u || told c

module _ (told told' : Name → Bool) (m : IsMore told told') (u : Name) (top : is_top u ≡ true) (new : told' u ≡ false) where
  -- what u holds is the same
  held_alike : (o : Performed) → is_held told u o ≡ is_held told' u o
  held_alike o = both (is_held told u o) (is_held told' u o)
      (λ h. let f = held_facts told u o.action top h in
      held_from told' u o.action top (record { above = f.above; untold = new; others = λ c k n. m.still c (f.others c k n) }))
      (λ h. let f = held_facts told' u o.action top h in
      held_from told u o.action top (record {
        above = f.above;
        untold = untold told told' m u new;
        others = λ c k n. sym (m.below c n) ∙ f.others c k n;
      }))

  -- beside a write of u the base is the same
  base_beside : (o : Performed) → IsBeside told u o → in_base told o ≡ in_base told' o
  base_beside o beside = both (in_base told o) (in_base told' o)
      (λ h. told_all told' o.action (λ c k. m.still c (all_told told o.action h c k)))
      (λ h. told_all told o.action (λ c k. of c k (all_told told' o.action h c k) (is_top c) refl (told c) refl))
    where
      of : (c : Name) → is_ancestor c o.action ≡ true → told' c ≡ true → (b : Bool) → is_top c ≡ b → (d : Bool) → told c ≡ d → told c ≡ true
      of c k h b p true e = e
      of c k h false p false e = sym (m.below c p) ∙ h
      of c k h true p false e =
          let is : c ≡ top_of o.action = sym (top_is_own c p) ∙ top_of_ancestor c o.action k in
          let mine = beside (ap told (sym is) ∙ e) (ap (λ d. is_ancestor d o.action) (sym is) ∙ k) in
          absurd (clash h (ap told' (is ∙ mine) ∙ new))

  -- so it is the same part
  part_alike : (c : Content) (os : List Performed) → AreOrderly told (map of_kept os ++ [])
      → part_held c (standing told os) u ≡ part_held c (standing told' os) u
  part_alike c os orderly =
      part_is_held c told os u
      ∙ same_held (version_by c (standing told os) u) (version_by c (standing told' os) u) (held_by told u os) (held_by told' u os)
      (ap writing alike) versions
      ∙ sym (part_is_held c told' os u)
    where
      alike : held_by told u os ≡ held_by told' u os
      alike = filter_alike (is_held told u) (is_held told' u) os held_alike

      versions : list_any (λ o. is_write o.operation) (held_by told' u os) ≡ true
          → version_by c (standing told os) u ≡ version_by c (standing told' os) u
      versions w =
          version_is c told os u top
          ∙ ap (left_of c) (filter_same (λ o. in_base told o || is_held told u o) (λ o. in_base told' o || is_held told' u o) os
          (each_map (IsBeside told u) _ os (λ o b. ap₂ (λ x y. x || y) (base_beside o b) (held_alike o))
          (alone_beside told u top os orderly (ap (list_any (λ o. is_write o.operation)) alike ∙ w))))
          ∙ sym (version_is c told' os u top)

  -- once u is told too, what it held belongs to the base
  joins : (o : Performed) → (in_base told' o || is_held told' u o) ≡ in_base (with_one u told') o
  joins o = of (holder_by told' o.action) ∙ sym (ap (λ h. is_none h) (holders_move told' u o.action ∙ ap (λ h. cond (is_exactly (holder_by told' o.action) u) h (holder_by told' o.action)) (none_above u top)))
    where
      none_above : (a : Name) → is_top a ≡ true → holder_by told' (parent_of a) ≡ None
      none_above [] k = refl
      none_above (n ∷ []) k = refl
      none_above (n ∷ l ∷ a) k = absurd (false≢true k)

      of : (h : Option Name) → (is_none h || is_exactly h u) ≡ is_none (cond (is_exactly h u) None h)
      of None = refl
      of (Some d) = by (same_name d u)
        where
          none_if : Bool → Option Name
          none_if b = cond b None (Some d)

          by : (b : Bool) → b ≡ is_none (none_if b)
          by true = refl
          by false = refl

  -- One top action is laid.
  pub one_laid : (c : Content) (os : List Performed) → AreOrderly told (map of_kept os ++ []) → Each (λ o. knows c o.operation ≡ true) os
      → laid_where (part_held c (standing told os) u) (left_of c (filter (in_base told') os))
      ≡ left_of c (filter (in_base (with_one u told')) os)
  one_laid c os orderly known =
      ap (λ p. laid_where p (left_of c (filter (in_base told') os))) (part_alike c os orderly)
      ∙ sym (held_laid c told' os u top (more_told told told' (untold told told' m) (map of_kept os ++ []) orderly) known)
      ∙ version_is c told' os u top
      ∙ ap (left_of c) (filter_alike (λ o. in_base told' o || is_held told' u o) (in_base (with_one u told')) os joins)

-- ---- one after another

-- those of a list that pass a test besides
pub with_all : (Name → Bool) → List Name → (Name → Bool) → Name → Bool
with_all decided [] told = told
with_all decided (u ∷ us) told = with_all decided us (cond (decided u) (with_one u told) told)

pub all_are : (decided : Name → Bool) (us : List Name) (told : Name → Bool) (c : Name)
    → with_all decided us told c ≡ ((has_name us c && decided c) || told c)
unfolding with_all
all_are decided [] told c = refl
all_are decided (u ∷ us) told c = all_are decided us (cond (decided u) (with_one u told) told) c ∙ of (decided u) refl (same_name u c) refl
  where
    Goal : Bool → Bool → Type 0
    Goal d s = ((has_name us c && decided c) || cond d (with_one u told) told c) ≡ (((s || has_name us c) && decided c) || told c)

    turned : same_name c u ≡ same_name u c
    turned = same_name-equivalence.symm c u

    true_last : (b : Bool) → (b || true) ≡ true
    true_last true = refl
    true_last false = refl

    dropped : (h : Bool) → ((h && false) || told c) ≡ told c
    dropped true = refl
    dropped false = refl

    of : (d : Bool) → decided u ≡ d → (s : Bool) → same_name u c ≡ s → Goal d s
    of true p true q =
        ap (λ y. (has_name us c && decided c) || (y || told c)) (turned ∙ q) ∙ true_last (has_name us c && decided c)
        ∙ sym (ap (λ y. y || told c) (ap decided (sym (same_name_true u c q)) ∙ p))
    of true p false q = ap (λ y. (has_name us c && decided c) || (y || told c)) (turned ∙ q)
    of false p false q = refl
    of false p true q =
        let no = ap decided (sym (same_name_true u c q)) ∙ p in
        ap (λ y. (has_name us c && y) || told c) no ∙ dropped (has_name us c) ∙ sym (ap (λ y. y || told c) no)

module _ (told : Name → Bool) (c : Content) (os : List Performed) (orderly : AreOrderly told (map of_kept os ++ []))
    (known : Each (λ o. knows c o.operation ≡ true) os) (below : Content) (decided : Name → Bool) (f : Name → Option Part → Option Part) where
  -- who was told committed holds nothing
  told_holds_none : (u : Name) → told u ≡ true → part_held c (standing told os) u ≡ None
  told_holds_none u h =
      part_is_held c told os u
      ∙ ap (λ ps. held_of (version_by c (standing told os) u) ps)
      (none_pass (is_held told u) os (each_of (λ o. is_held told u o ≡ false) os (λ o.
      false_from_ne_true _ (λ k. clash h (holder_is told o.action u (exactly (holder_by told o.action) u k)).1))))

  -- what f makes of what is installed: where u is decided, it lays what u holds
  abbrev pub Lays : Name → Type 0
  Lays u = (part : Option Part)
      → laid_where (f u part) below
      ≡ cond (decided u) (laid_where (part_held c (standing told os) u) (laid_where part below)) (laid_where part below)

  -- one that is decided
  lays_one : (u : Name) → is_top u ≡ true → (told' : Name → Bool) → IsMore told told' → told' u ≡ told u
      → laid_where (part_held c (standing told os) u) (left_of c (filter (in_base told') os)) ≡ left_of c (filter (in_base (with_one u told')) os)
  lays_one u top told' m same = of (told u) refl
    where
      of : (b : Bool) → told u ≡ b
          → laid_where (part_held c (standing told os) u) (left_of c (filter (in_base told') os)) ≡ left_of c (filter (in_base (with_one u told')) os)
      of false h = one_laid told told' m u top (same ∙ h) c os orderly known
      of true h =
          ap (λ p. laid_where p (left_of c (filter (in_base told') os))) (told_holds_none u h)
          ∙ ap (λ t. left_of c (filter (in_base t) os)) (λ i d. there d (same_name d u) refl i)
        where
          there : (d : Name) (s : Bool) → same_name d u ≡ s → told' d ≡ with_one u told' d
          there d true e = ap told' (same_name_true d u e) ∙ same ∙ h ∙ sym (ap (λ s. s || told' d) e)
          there d false e = sym (ap (λ s. s || told' d) e)

  more_with_one : (u : Name) → is_top u ≡ true → (told' : Name → Bool) → IsMore told told' → IsMore told (with_one u told')
  more_with_one u top told' m = record {
    still = λ d h. or_right (same_name d u) (told' d) (m.still d h);
    below = λ d n.
        ap (λ s. s || told' d) (false_from_ne_true _ (λ e. clash (ap is_top (same_name_true d u e) ∙ top) n)) ∙ m.below d n;
  }

  -- All of them are laid one after another.
  pub all_laid : (us : List Name) → Distinct us → Each (λ u. is_top u ≡ true) us → Each Lays us → (told' : Name → Bool) → IsMore told told'
      → ((u : Name) → has_name us u ≡ true → told' u ≡ told u) → (part : Option Part)
      → laid_where part below ≡ left_of c (filter (in_base told') os)
      → laid_where (fold (λ p u. f u p) part us) below ≡ left_of c (filter (in_base (with_all decided us told')) os)
  unfolding with_all
  all_laid [] d tops lays told' m same part e = e
  all_laid (u ∷ us) d tops lays told' m same part e =
      of (decided u) refl (λ told'' n k l. all_laid us d.1 tops.1 lays.1 told'' n k (f u part) l)
    where
      -- the others
      Rest : Type 0
      Rest = (told'' : Name → Bool) → IsMore told told'' → ((v : Name) → has_name us v ≡ true → told'' v ≡ told v)
          → laid_where (f u part) below ≡ left_of c (filter (in_base told'') os)
          → laid_where (fold (λ p v. f v p) (f u part) us) below ≡ left_of c (filter (in_base (with_all decided us told'')) os)

      old : (v : Name) → has_name us v ≡ true → told' v ≡ told v
      old v k = same v (or_right (same_name u v) (has_name us v) k)

      laying : Bool → Content
      laying b = cond b (laid_where (part_held c (standing told os) u) (laid_where part below)) (laid_where part below)

      of : (b : Bool) → decided u ≡ b → Rest
          → laid_where (fold (λ p v. f v p) (f u part) us) below
          ≡ left_of c (filter (in_base (with_all decided us (cond b (with_one u told') told'))) os)
      of false q rest = rest told' m old (lays.0 part ∙ ap laying q ∙ e)
      of true q rest =
          rest (with_one u told') (more_with_one u tops.0 told' m)
          (λ v k. ap (λ s. s || told' v) (false_from_ne_true _ (λ w. clash (ap (has_name us) (sym (same_name_true v u w)) ∙ k) d.0)) ∙ old v k)
          (lays.0 part ∙ ap laying q ∙ ap (laid_where (part_held c (standing told os) u)) e
          ∙ lays_one u tops.0 told' m (same u (or_left (same_name u u) (has_name us u) (same_name_self u))))
