-- What an object shows once the next holder has what an action held.
use Rattle.std.proofs.Common.{Bool, List, None, Option, Some, [], ap, ap₂, cond, false, filter, inl, inr, is_none, not, option_map, refl, subst, sym, true, ℤ, ◌&&◌, ◌∙◌, ◌∷◌, ◌≡◌, ◌||◌}
use Rattle.std.specs.Prelude.{is_some, pos}
use Rattle.std.specs.Int.{int_wrap, w64}
use Rattle.std.proofs.lemmas.Bool.{and_right, false_from_ne_true, true≢false}
use Rattle.std.proofs.lemmas.List.Elements.{filter_agree}
use Rattle.std.specs.List.{list_any}
use Rattle.action_names.specs.Names.{Name, has_name, is_ancestor, is_proper_ancestor, parent_of, same_name}
use Rattle.action_names.proofs.Ancestry.{proper, proper_of}
use Rattle.values.specs.declared.content.Content.{Content}
use Rattle.values.specs.declared.value.Value.TheVariants.{Int}
use Rattle.atomic_types.specs.declared.op.Class.{Class}
use Rattle.atomic_types.specs.declared.operation.Operation.TheVariants.{Add}
use Rattle.atomic_types.specs.declared.part.Part.TheVariants.{Delta}
use Rattle.atomic_types.specs.Counters.{sum_of}
use Rattle.atomic_types.specs.Objects.{content_after}
use Rattle.atomic_types.specs.Operations.{is_add_class, is_read_class, is_write_class}
use Rattle.atomic_types.specs.Parts.{laid}
use Rattle.run_model.specs.Actions.{is_exactly}
use Rattle.run_model.specs.Keeping.{Standing}
use Rattle.run_model.specs.Telling.{holder_by}
use Rattle.run_model.specs.Versions.{is_held_above, is_held_by}
use Rattle.run_laws.proofs.Each.{Each, each_filter, each_map}
use Rattle.run_laws.proofs.Names.{ancestor_both, ancestor_is_own, ancestor_trans, clash, same_name_self, same_name_true}
use Rattle.local_laws.specs.Orderly.{AreOrderly}
use Rattle.local_laws.proofs.Acts.{Act, act_adds_text, acts_by, after_acts, belonging_goes_up, belongs_to, deed_of, deeds_of_acts, orderly_acts, others_last}
use Rattle.local_laws.proofs.Moving.{holders_move}
use Rattle.local_laws.proofs.Orderly.{holder_is}
use Rattle.local_laws.proofs.Sums.{adds_leave, amount_of, amounts_are_adds}
use Rattle.local_laws.proofs.Sums as totals
use Rattle.object_model.specs.Deltas.{delta_at, with_more}
use Rattle.object_model.specs.Locks as locks
use Rattle.object_model.specs.Objects.{IsPassed, Seen, is_next, next_delta, owns, passed_delta, with_delta}
use Rattle.object_model.specs.Stacks.{HasNoneBetween, RiseByAncestry, RisesByAncestry, Stack, inherited, is_passed_by, version_at}
use Rattle.object_laws.specs.Changes.{told_too}
use Rattle.object_laws.specs.Laws.{PassedShows}
use Rattle.object_laws.specs.Shown.{Shows, only_if}
use Rattle.object_laws.proofs.Chain.{changed_rise, changed_version, or_else, passed_at, passed_rises, settled_is}
use Rattle.object_laws.proofs.Choosing.{Comparable, any_none, any_same, beside_write, chosen_orderly, each_chosen, exactly, holder_untold, none_added, none_any, none_left, reads_alone, same_left, same_sum, told_orderly, twice}
use Rattle.object_laws.proofs.Held.{KnownAct, ShowsActs, adds, delta_is, from_acts, held, holds, sum_acts, to_acts}
use Rattle.object_laws.proofs.Names.{has_passed, moved_at, same_turned}
use Rattle.object_laws.proofs.Standing.{next_holder, none_between_shown, passed_by}
use Rattle.object_laws.proofs.Sums.{act_adds_number, sum_fits, sums_join}

-- what is added to a content, if anything
abbrev pub with_z : Option ℤ → Content → Content
with_z None c = c
with_z (Some z) c = content_after c (Add (Int z))

any_either : (p q k : Act → Bool) (xs : List Act)
    → list_any (λ x. (p x || q x) && k x) xs ≡ (list_any (λ x. p x && k x) xs || list_any (λ x. q x && k x) xs)
any_either p q k [] = refl
any_either p q k (x ∷ xs) =
    ap (λ t. ((p x || q x) && k x) || t) (any_either p q k xs)
    ∙ step (p x) (q x) (k x) (list_any (λ x. p x && k x) xs) (list_any (λ x. q x && k x) xs)
  where
    step : (p q k r s : Bool) → (((p || q) && k) || (r || s)) ≡ (((p && k) || r) || ((q && k) || s))
    step true q true r s = refl
    step true true false r s = refl
    step true false false r s = refl
    step false true true true s = refl
    step false true true false s = refl
    step false true false r s = refl
    step false false k r s = refl

module _ (c : Content) (s : Standing) (old new : Seen) (a : Name) (to : Option Name) (before : Shows c s old) (own : is_ancestor a a ≡ true)
    (next : to ≡ holder_by s.told (parent_of a)) (pass : IsPassed a to old new) where
  abbrev moved : Act → Option Name
  moved x = cond (is_exactly (held s.told x) a) to (held s.told x)

  shows : ShowsActs c (λ x. held s.told x) (acts_by s) old
  shows = to_acts c s old before

  -- ---- the next holder

  above_next : (p : Name) → to ≡ Some p → is_proper_ancestor p a ≡ true
  above_next p e = next_holder s.told a p own (sym next ∙ e)

  not_next : is_next to a ≡ false
  not_next = of to refl
    where
      of : (o : Option Name) → to ≡ o → is_next o a ≡ false
      of None e = refl
      of (Some p) e = (proper p a (above_next p e)).1

  next_is : (o : Option Name) (b : Name) → is_exactly o b ≡ is_next o b
  next_is None b = refl
  next_is (Some p) b = refl

  -- an untold action above a, but a, is above the next holder
  passed_over : (d : Name) → s.told d ≡ false → is_passed_by d a to ≡ true
  passed_over d n = passed_by s.told a d to next n

  base_belongs : (o : Option Name) → belongs_to o None ≡ true
  base_belongs None = refl
  base_belongs (Some p) = refl

  -- an untold action other than a belongs to the next holder just where it is above a
  belongs_above : (d : Name) → s.told d ≡ false → same_name d a ≡ false → belongs_to to (Some d) ≡ is_ancestor d a
  belongs_above d n other = of to refl (passed_over d n)
    where
      of : (o : Option Name) → to ≡ o → is_passed_by d a o ≡ true → belongs_to o (Some d) ≡ is_ancestor d a
      of None e h = up (is_ancestor d a) refl
        where
          up : (t : Bool) → is_ancestor d a ≡ t → false ≡ is_ancestor d a
          up false q = sym q
          up true q = absurd (true≢false (sym h ∙ ap (λ t. not t) (proper_of d a q other)))
      of (Some p) e h = up (is_ancestor d a) refl
        where
          up : (t : Bool) → is_ancestor d a ≡ t → is_ancestor d p ≡ is_ancestor d a
          up true q = sym (ap (λ t. not t || is_ancestor d p) (proper_of d a q other)) ∙ h ∙ sym q
          up false q =
              false_from_ne_true (is_ancestor d p) (λ k. clash (ancestor_trans d p a k (proper p a (above_next p e)).0) q) ∙ sym q

  own_belongs : belongs_to to to ≡ true
  own_belongs = of to refl
    where
      of : (o : Option Name) → to ≡ o → belongs_to o o ≡ true
      of None e = refl
      of (Some p) e = ancestor_is_own p a (proper p a (above_next p e)).0

  a_belongs_not : belongs_to to (Some a) ≡ false
  a_belongs_not = of to refl
    where
      of : (o : Option Name) → to ≡ o → belongs_to o (Some a) ≡ false
      of None e = refl
      of (Some p) e =
          let q = proper p a (above_next p e) in
          false_from_ne_true (is_ancestor a p) (λ k. clash (same_name_self a) (ap (λ x. same_name x a) (ancestor_both a p k q.0) ∙ q.1))

  abbrev Holder : Option Name → Type 0
  Holder o = (d : Name) → o ≡ Some d → s.told d ≡ false

  holder_of_act : (x : Act) → Holder (held s.told x)
  holder_of_act x = λ d e. (holder_is s.told (deed_of x).0 d e).1

  -- what belongs to the next holder then, was held by it or by a, or above
  then_above : (o : Option Name) → Holder o → belongs_to to (cond (is_exactly o a) to o) ≡ is_held_above o a
  then_above None h = base_belongs to
  then_above (Some d) h = of (same_name d a) refl
    where
      of : (t : Bool) → same_name d a ≡ t → belongs_to to (cond t to (Some d)) ≡ is_ancestor d a
      of true e = own_belongs ∙ sym own ∙ ap (λ x. is_ancestor x a) (sym (same_name_true d a e))
      of false e = belongs_above d (h d refl) e

  both_above : (o : Option Name) → Holder o → (is_held_above o a && belongs_to to o) ≡ belongs_to to o
  both_above None h = refl
  both_above (Some d) h = of (same_name d a) refl
    where
      twice_is : (t : Bool) → (t && t) ≡ t
      twice_is true = refl
      twice_is false = refl

      of : (t : Bool) → same_name d a ≡ t → (is_ancestor d a && belongs_to to (Some d)) ≡ belongs_to to (Some d)
      of true e =
          let none = ap (λ x. belongs_to to (Some x)) (same_name_true d a e) ∙ a_belongs_not in
          and_right (is_ancestor d a) (belongs_to to (Some d)) none ∙ sym none
      of false e = ap (λ t. t && belongs_to to (Some d)) (sym (belongs_above d (h d refl) e)) ∙ twice_is (belongs_to to (Some d))

  others_own : (o : Option Name) → Holder o → (is_held_above o a && not (belongs_to to o)) ≡ is_exactly o a
  others_own None h = ap (λ t. not t) (base_belongs to)
  others_own (Some d) h = of (same_name d a) refl
    where
      never : (t : Bool) → (t && not t) ≡ false
      never true = refl
      never false = refl

      of : (t : Bool) → same_name d a ≡ t → (is_ancestor d a && not (belongs_to to (Some d))) ≡ same_name d a
      of true e =
          ap (λ x. is_ancestor x a && not (belongs_to to (Some x))) (same_name_true d a e)
          ∙ ap₂ (λ t u. t && not u) own a_belongs_not ∙ sym e
      of false e = ap (λ t. is_ancestor d a && not t) (belongs_above d (h d refl) e) ∙ never (is_ancestor d a) ∙ sym e

  -- ---- contents

  -- a's version, and what is below it
  mine : Content
  mine = after_acts c (filter (λ x. is_held_above (held s.told x) a) (acts_by s))

  lower : Content
  lower = after_acts c (filter (λ x. belongs_to to (held s.told x)) (acts_by s))

  then_mine : after_acts c (filter (λ x. belongs_to to (moved x)) (acts_by s)) ≡ mine
  unfolding mine
  then_mine = ap (λ ys. after_acts c ys) (filter_agree _ _ (λ x. then_above (held s.told x) (holder_of_act x)) (acts_by s))

  mine_parts : mine ≡ after_acts lower (filter (λ x. is_exactly (held s.told x) a) (acts_by s))
  unfolding mine lower
  mine_parts =
      others_last c s.told (λ b. belongs_to to (holder_by s.told b)) (belonging_goes_up s.told to) (filter (λ x. is_held_above (held s.told x) a) (acts_by s))
      (chosen_orderly s.told (λ x. is_held_above (held s.told x) a) (acts_by s) (orderly_acts s before.orderly))
      ∙ ap₂ (λ ys zs. after_acts (after_acts c ys) zs)
      (twice (λ x. belongs_to to (held s.told x)) (λ x. is_held_above (held s.told x) a) (acts_by s)
      ∙ filter_agree _ _ (λ x. both_above (held s.told x) (holder_of_act x)) (acts_by s))
      (twice (λ x. not (belongs_to to (held s.told x))) (λ x. is_held_above (held s.told x) a) (acts_by s)
      ∙ filter_agree _ _ (λ x. others_own (held s.told x) (holder_of_act x)) (acts_by s))

  -- what a added, where it wrote nothing
  added : Option ℤ
  added = only_if (holds (λ x. held s.told x) is_add_class a (acts_by s)) (sum_acts (λ x. is_exactly (held s.told x) a) (acts_by s))

  own_added : holds (λ x. held s.told x) is_write_class a (acts_by s) ≡ false → mine ≡ with_z added lower
  unfolding added
  own_added none = mine_parts ∙ of (holds (λ x. held s.told x) is_add_class a (acts_by s)) refl
    where
      ours : List Act
      ours = filter (λ x. is_exactly (held s.told x) a) (acts_by s)

      no_writes : Each (λ x. is_write_class (deed_of x).1 ≡ false) ours
      no_writes =
          each_filter _ (λ x. is_exactly (held s.told x) a) (acts_by s)
          (each_map _ _ (acts_by s) (λ x h e. sym (ap (λ t. t && is_write_class (deed_of x).1) e) ∙ h)
          (none_any (λ x. is_exactly (held s.told x) a && is_write_class (deed_of x).1) (acts_by s) none))

      no_texts : Each (λ x. act_adds_text x ≡ true → laid (Delta (pos 0)) lower ≡ lower) ours
      no_texts =
          each_map (λ x. KnownAct c x) _ ours (λ x h t. absurd (clash t (act_adds_number c x h)))
          (each_chosen (λ x. KnownAct c x) (λ x. is_exactly (held s.told x) a) (acts_by s) shows.known)

      amounts : list_any (λ x. is_held_by s a (deed_of x).0 && is_some (amount_of x)) (acts_by s) ≡ holds (λ x. held s.told x) is_add_class a (acts_by s)
      amounts = λ i. list_any (λ x. is_held_by s a (deed_of x).0 && amounts_are_adds x i) (acts_by s)

      of : (t : Bool) → holds (λ x. held s.told x) is_add_class a (acts_by s) ≡ t
          → after_acts lower ours ≡ with_z (only_if (holds (λ x. held s.told x) is_add_class a (acts_by s)) (sum_acts (λ x. is_exactly (held s.told x) a) (acts_by s))) lower
      of true e =
          adds_leave lower ours no_writes no_texts ∙ totals.delta_is lower s a (amounts ∙ e)
          ∙ ap (λ n. content_after lower (Add (Int n))) (delta_is s a)
          ∙ ap (λ t. with_z (only_if t (sum_acts (λ x. is_exactly (held s.told x) a) (acts_by s))) lower) (sym e)
      of false e =
          same_left lower (λ x. is_exactly (held s.told x) a) (λ x. false) (acts_by s) (reads_alone (λ x. held s.told x) a (acts_by s) none e)
          ∙ none_left lower (acts_by s)
          ∙ ap (λ t. with_z (only_if t (sum_acts (λ x. is_exactly (held s.told x) a) (acts_by s))) lower) (sym e)

  -- ---- holders

  moved_exactly : (b : Name) → same_name a b ≡ false → (o : Option Name)
      → is_exactly (cond (is_exactly o a) to o) b ≡ cond (is_next to b) (is_exactly o a || is_exactly o b) (is_exactly o b)
  moved_exactly b apart None = of (is_next to b)
    where
      of : (n : Bool) → false ≡ cond n false false
      of true = refl
      of false = refl
  moved_exactly b apart (Some d) = of (same_name d a) refl
    where
      first : (n : Bool) → n ≡ cond n true false
      first true = refl
      first false = refl

      second : (n t : Bool) → t ≡ cond n t t
      second true t = refl
      second false t = refl

      of : (t : Bool) → same_name d a ≡ t → is_exactly (cond t to (Some d)) b ≡ cond (is_next to b) (t || same_name d b) (same_name d b)
      of true e = next_is to b ∙ first (is_next to b) ∙ ap (λ t. cond (is_next to b) true t) (sym apart ∙ ap (λ x. same_name x b) (sym (same_name_true d a e)))
      of false e = second (is_next to b) (same_name d b)

  own_moved : (o : Option Name) → is_exactly (cond (is_exactly o a) to o) a ≡ false
  own_moved o = of (is_exactly o a) refl
    where
      of : (t : Bool) → is_exactly o a ≡ t → is_exactly (cond t to o) a ≡ false
      of true e = next_is to a ∙ not_next
      of false e = e

  each_act : (P : Act → Type 0) → ((x : Act) → P x) → (ys : List Act) → Each P ys
  each_act P f [] = tt
  each_act P f (y ∷ ys) = (f y, each_act P f ys)

  holds_moved : (k : Class → Bool) (b : Name)
      → holds (λ x. moved x) k b (acts_by s)
      ≡ moved_at (same_name a b) (is_next to b) (holds (λ x. held s.told x) k a (acts_by s)) (holds (λ x. held s.told x) k b (acts_by s))
  holds_moved k b = of (same_name a b) refl (is_next to b) refl
    where
      of : (t : Bool) → same_name a b ≡ t → (n : Bool) → is_next to b ≡ n
          → holds (λ x. moved x) k b (acts_by s)
          ≡ moved_at t n (holds (λ x. held s.told x) k a (acts_by s)) (holds (λ x. held s.told x) k b (acts_by s))
      of true e n f =
          any_none (λ x. is_exactly (moved x) b && k (deed_of x).1) (acts_by s)
          (each_act _ (λ x. ap (λ t. t && k (deed_of x).1) (ap (λ y. is_exactly (moved x) y) (sym (same_name_true a b e)) ∙ own_moved (held s.told x))) (acts_by s))
      of false e true f =
          any_same _ (λ x. (is_exactly (held s.told x) a || is_exactly (held s.told x) b) && k (deed_of x).1) (acts_by s)
          (each_act _ (λ x. ap (λ t. t && k (deed_of x).1) (moved_exactly b e (held s.told x)
          ∙ ap (λ t. cond t (is_exactly (held s.told x) a || is_exactly (held s.told x) b) (is_exactly (held s.told x) b)) f)) (acts_by s))
          ∙ any_either (λ x. is_exactly (held s.told x) a) (λ x. is_exactly (held s.told x) b) (λ x. k (deed_of x).1) (acts_by s)
      of false e false f =
          any_same _ (λ x. is_exactly (held s.told x) b && k (deed_of x).1) (acts_by s)
          (each_act _ (λ x. ap (λ t. t && k (deed_of x).1) (moved_exactly b e (held s.told x)
          ∙ ap (λ t. cond t (is_exactly (held s.told x) a || is_exactly (held s.told x) b) (is_exactly (held s.told x) b)) f)) (acts_by s))

  -- ---- versions of others

  -- an owner other than a and the next holder is below the next holder just where it is below a
  same_above : (b : Name) → same_name a b ≡ false → is_next to b ≡ false → s.told b ≡ false → Comparable a b → is_held_above to b ≡ is_ancestor a b
  same_above b apart other n (inl up) = of to refl ∙ sym up
    where
      of : (o : Option Name) → to ≡ o → is_held_above o b ≡ true
      of None e = refl
      of (Some p) e = ancestor_trans p a b (proper p a (above_next p e)).0 up
  same_above b apart other n (inr down) = of to refl (passed_over b n) other ∙ sym not_down
    where
      below : is_proper_ancestor b a ≡ true
      below = proper_of b a down (same_turned b a ∙ apart)

      not_down : is_ancestor a b ≡ false
      not_down = false_from_ne_true (is_ancestor a b) (λ k. clash (same_name_self a) (ap (λ x. same_name a x) (ancestor_both a b k down) ∙ apart))

      of : (o : Option Name) → to ≡ o → is_passed_by b a o ≡ true → is_next o b ≡ false → is_held_above o b ≡ false
      of None e h q = absurd (true≢false (sym h ∙ ap (λ t. not t) below))
      of (Some p) e h q =
          let above = sym (ap (λ t. not t || is_ancestor b p) below) ∙ h in
          false_from_ne_true (is_ancestor p b) (λ k. clash (same_name_self p) (ap (λ x. same_name p x) (ancestor_both p b k above) ∙ q))

  others_stay : (b : Name) → same_name a b ≡ false → is_next to b ≡ false → holds (λ x. held s.told x) is_write_class b (acts_by s) ≡ true
      → after_acts c (filter (λ x. is_held_above (moved x) b) (acts_by s)) ≡ after_acts c (filter (λ x. is_held_above (held s.told x) b) (acts_by s))
  others_stay b apart other w =
      same_left c (λ x. is_held_above (moved x) b) (λ x. is_held_above (held s.told x) b) (acts_by s)
      (each_map _ _ (acts_by s) (λ x h r. of (held s.told x) (is_exactly (held s.told x) a) refl h)
      (beside_write s.told a b (acts_by s) (orderly_acts s before.orderly) w))
    where
      of : (o : Option Name) (t : Bool) → is_exactly o a ≡ t → (is_exactly o a ≡ true → Comparable a b)
          → is_held_above (cond (is_exactly o a) to o) b ≡ is_held_above o b
      of o false e h = ap (λ t. is_held_above (cond t to o) b) e
      of o true e h =
          ap (λ t. is_held_above (cond t to o) b) e ∙ same_above b apart other (holder_untold s.told is_write_class b (acts_by s) w).1 (h e)
          ∙ ap (λ p. is_held_above p b) (sym (exactly o a e))

  -- ---- the stack

  between : HasNoneBetween old.stack.versions a to
  between = (none_between_shown c s old a to before own next).1

  base_then : Option Name → Content
  base_then None = mine
  base_then (Some p) = old.stack.base

  abbrev w : Name → Bool
  w b = holds (λ x. held s.told x) is_write_class b (acts_by s)

  -- what the stack has to be
  record IsThen (o : Option Name) (stack : Stack Content) : Type 0 where
    base_is : stack.base ≡ base_then o
    at : (b : Name) → version_at stack.versions b
        ≡ cond (same_name a b) None (cond (is_next o b) (only_if (w a || w b) mine) (version_at old.stack.versions b))
    rises : RisesByAncestry stack.versions

  owns_is : owns old a ≡ w a
  owns_is = ap (λ o. is_some o) (shows.versions a) ∙ of (w a) (after_acts c (filter (λ x. is_held_above (held s.told x) a) (acts_by s)))
    where
      of : (t : Bool) (v : Content) → is_some (only_if t v) ≡ t
      of true v = refl
      of false v = refl

  own_version : w a ≡ true → version_at old.stack.versions a ≡ Some mine
  unfolding mine
  own_version e = shows.versions a ∙ ap (λ t. only_if t (after_acts c (filter (λ x. is_held_above (held s.told x) a) (acts_by s)))) e

  no_version : (b : Name) → same_name a b ≡ true → w a ≡ false → version_at old.stack.versions b ≡ None
  no_version b e none =
      shows.versions b
      ∙ ap (λ t. only_if t (after_acts c (filter (λ x. is_held_above (held s.told x) b) (acts_by s)))) (ap (λ y. w y) (sym (same_name_true a b e)) ∙ none)

  whole : (t : Bool) → (t && true) ≡ t
  whole true = refl
  whole false = refl

  own_delta : w a ≡ false → delta_at old.deltas a ≡ added
  unfolding added
  own_delta none =
      shows.deltas a
      ∙ ap (λ t. only_if (holds (λ x. held s.told x) is_add_class a (acts_by s) && not t) (sum_acts (λ x. is_exactly (held s.told x) a) (acts_by s))) none
      ∙ ap (λ t. only_if t (sum_acts (λ x. is_exactly (held s.told x) a) (acts_by s))) (whole (holds (λ x. held s.told x) is_add_class a (acts_by s)))

  -- a delta is added to the base
  to_base : (st : Stack Content) (d : Option ℤ) → ((with_delta st None d).base ≡ with_z d st.base) × ((with_delta st None d).versions ≡ st.versions)
  to_base st None = (refl, refl)
  to_base st (Some z) = (refl, refl)

  -- or to a version
  to_version : (st : Stack Content) (p : Name) (d : Option ℤ)
      → ((with_delta st (Some p) d).base ≡ st.base)
      × (((b : Name) → version_at (with_delta st (Some p) d).versions b ≡ cond (same_name p b) (option_map (λ v. with_z d v) (version_at st.versions b)) (version_at st.versions b))
      × (RisesByAncestry st.versions → RisesByAncestry (with_delta st (Some p) d).versions))
  to_version st p None = (refl, (λ b. of (same_name p b) (version_at st.versions b), λ r. r))
    where
      of : (t : Bool) (v : Option Content) → v ≡ cond t (option_map (λ v. v) v) v
      of true None = refl
      of true (Some x) = refl
      of false v = refl
  to_version st p (Some z) = (
    refl,
    (
      λ b. changed_version (λ v. content_after v (Add (Int z))) st.versions p b,
      λ r. subst (λ ns. RiseByAncestry ns) (sym (changed_rise (λ v. content_after v (Add (Int z))) st.versions p)) r,
    ),
  )

  stack_then : IsThen to new.stack
  unfolding lower base_then mine
  stack_then = subst (λ st. IsThen to st) (sym pass.stack) (of (owns old a) refl to refl)
    where
      of : (t : Bool) → owns old a ≡ t → (o : Option Name) → to ≡ o → IsThen o (cond t (inherited old.stack a o) (with_delta old.stack o (delta_at old.deltas a)))
      of true e None q =
          let settled = settled_is old.stack.base old.stack.versions a mine shows.rising (subst (λ o. HasNoneBetween old.stack.versions a o) q between)
          (own_version (sym owns_is ∙ e)) in
          record { base_is = settled.base_is; at = λ b. settled.at b; rises = settled.rises }
      of true e (Some p) q =
          let none = subst (λ o. HasNoneBetween old.stack.versions a o) q between in
          record {
            base_is = refl;
            at = λ b. passed_at old.stack.versions a p b shows.rising none ∙ then b (same_name p b) refl (same_name a b) refl;
            rises = passed_rises old.stack.versions a p shows.rising none (proper p a (above_next p q)).0;
          }
        where
          then : (b : Name) (n : Bool) → same_name p b ≡ n → (u : Bool) → same_name a b ≡ u
              → cond n (or_else (version_at old.stack.versions a) (version_at old.stack.versions b)) (cond u None (version_at old.stack.versions b))
              ≡ cond u None (cond n (only_if (w a || w b) mine) (version_at old.stack.versions b))
          then b true h true k =
              absurd (clash (ap (λ y. same_name p y) (same_name_true a b k) ∙ h) (proper p a (above_next p q)).1)
          then b true h false k =
              ap (λ v. or_else v (version_at old.stack.versions b)) (own_version (sym owns_is ∙ e))
              ∙ sym (ap (λ t. only_if (t || w b) mine) (sym owns_is ∙ e))
          then b false h true k = refl
          then b false h false k = refl
      of false e None q =
          let none = sym owns_is ∙ e in
          let parts = to_base old.stack (delta_at old.deltas a) in
          record {
            base_is = parts.0 ∙ ap₂ (λ d v. with_z d v) (own_delta none)
                (shows.base ∙ sym (ap (λ o. after_acts c (filter (λ x. belongs_to o (held s.told x)) (acts_by s))) q)) ∙ sym (own_added none);
            at = λ b. ap (λ vs. version_at vs b) parts.1 ∙ same b (same_name a b) refl;
            rises = subst (λ vs. RisesByAncestry vs) (sym parts.1) shows.rising;
          }
        where
          same : (b : Name) (u : Bool) → same_name a b ≡ u → version_at old.stack.versions b ≡ cond u None (version_at old.stack.versions b)
          same b true k = no_version b k (sym owns_is ∙ e)
          same b false k = refl
      of false e (Some p) q =
          let parts = to_version old.stack p (delta_at old.deltas a) in
          record {
            base_is = parts.0;
            at = λ b. parts.1.0 b ∙ then b (same_name p b) refl (same_name a b) refl;
            rises = parts.1.1 shows.rising;
          }
        where
          none : w a ≡ false
          none = sym owns_is ∙ e

          then : (b : Name) (n : Bool) → same_name p b ≡ n → (u : Bool) → same_name a b ≡ u
              → cond n (option_map (λ v. with_z (delta_at old.deltas a) v) (version_at old.stack.versions b)) (version_at old.stack.versions b)
              ≡ cond u None (cond n (only_if (w a || w b) mine) (version_at old.stack.versions b))
          then b true h true k =
              absurd (clash (ap (λ y. same_name p y) (same_name_true a b k) ∙ h) (proper p a (above_next p q)).1)
          then b true h false k =
              ap (λ v. option_map (λ v. with_z (delta_at old.deltas a) v) v) (shows.versions b) ∙ only (w b)
              ∙ ap₂ (λ t v. only_if (t || w b) v) (sym none)
              (ap₂ (λ d v. with_z d v) (own_delta none) lower_is ∙ sym (own_added none))
            where
              lower_is : after_acts c (filter (λ x. is_held_above (held s.told x) b) (acts_by s)) ≡ lower
              lower_is =
                  ap (λ y. after_acts c (filter (λ x. is_held_above (held s.told x) y) (acts_by s))) (sym (same_name_true p b h))
                  ∙ sym (ap (λ o. after_acts c (filter (λ x. belongs_to o (held s.told x)) (acts_by s))) q)

              only : (t : Bool)
                  → option_map (λ v. with_z (delta_at old.deltas a) v) (only_if t (after_acts c (filter (λ x. is_held_above (held s.told x) b) (acts_by s))))
                  ≡ only_if (false || t) (with_z (delta_at old.deltas a) (after_acts c (filter (λ x. is_held_above (held s.told x) b) (acts_by s))))
              only true = refl
              only false = refl
          then b false h true k = no_version b k none
          then b false h false k = refl

  -- ---- deltas

  abbrev ad : Name → Bool
  ad b = holds (λ x. held s.told x) is_add_class b (acts_by s)

  abbrev su : Name → ℤ
  su b = sum_acts (λ x. is_exactly (held s.told x) b) (acts_by s)

  abbrev su_then : Name → ℤ
  su_then b = sum_acts (λ x. is_exactly (moved x) b) (acts_by s)

  -- the next holder's sum
  next_sum : (b : Name) → same_name a b ≡ false → is_next to b ≡ true → w a ≡ false → w b ≡ false
      → with_more (only_if (ad b) (su b)) (only_if (ad a) (su a)) ≡ only_if (ad a || ad b) (su_then b)
  next_sum b apart n none none_b = of (ad a) refl (ad b) refl
    where
      either : su_then b ≡ sum_acts (λ x. is_exactly (held s.told x) a || is_exactly (held s.told x) b) (acts_by s)
      either =
          same_sum (λ x. is_exactly (moved x) b) (λ x. is_exactly (held s.told x) a || is_exactly (held s.told x) b) (acts_by s)
          (each_act _ (λ x r. moved_exactly b apart (held s.told x)
          ∙ ap (λ t. cond t (is_exactly (held s.told x) a || is_exactly (held s.told x) b) (is_exactly (held s.told x) b)) n) (acts_by s))

      not_both : (x : Act) → is_exactly (held s.told x) a ≡ true → is_exactly (held s.told x) b ≡ false
      not_both x e = ap (λ o. is_exactly o b) (exactly (held s.told x) a e) ∙ apart

      joined : int_wrap w64 (su_then b) ≡ sum_of (su b) (su a)
      joined =
          ap (λ n. int_wrap w64 n) either
          ∙ sums_join (λ x. is_exactly (held s.told x) a) (λ x. is_exactly (held s.told x) b) (acts_by s) (each_act _ not_both (acts_by s))

      fits : ad a ≡ true → int_wrap w64 (su_then b) ≡ su_then b
      fits e =
          ap (λ n. int_wrap w64 n) either
          ∙ sum_fits c (λ x. is_exactly (held s.told x) a || is_exactly (held s.told x) b) (acts_by s) shows.known
          (any_either (λ x. is_exactly (held s.told x) a) (λ x. is_exactly (held s.told x) b) (λ x. is_add_class (deed_of x).1) (acts_by s)
          ∙ ap (λ t. t || ad b) e)
          ∙ sym either

      -- who adds nothing has the sum 0
      nothing : (d : Name) → w d ≡ false → ad d ≡ false → su d ≡ pos 0
      nothing d h k =
          same_sum (λ x. is_exactly (held s.told x) d) (λ x. false) (acts_by s) (reads_alone (λ x. held s.told x) d (acts_by s) h k) ∙ none_added (acts_by s)

      alone : ad a ≡ false → su b ≡ su_then b
      alone k =
          same_sum (λ x. is_exactly (held s.told x) b) (λ x. is_exactly (held s.told x) a || is_exactly (held s.told x) b) (acts_by s)
          (each_map _ _ (acts_by s) (λ x h r. sym (ap (λ t. t || is_exactly (held s.told x) b) (h r))) (reads_alone (λ x. held s.told x) a (acts_by s) none k))
          ∙ sym either

      of : (t : Bool) → ad a ≡ t → (u : Bool) → ad b ≡ u → with_more (only_if u (su b)) (only_if t (su a)) ≡ only_if (t || u) (su_then b)
      of true e true d = ap (λ n. Some n) (sym joined ∙ fits e)
      of true e false d = ap (λ n. Some n) (ap (λ m. sum_of m (su a)) (sym (nothing b none_b d)) ∙ sym joined ∙ fits e)
      of false e true d = ap (λ n. Some n) (alone e)
      of false e false d = refl

  deltas_then : (b : Name) → passed_delta old a to b ≡ only_if (adds (λ x. moved x) b (acts_by s)) (su_then b)
  deltas_then b =
      of (same_name a b) refl (is_next to b) refl
      ∙ ap₂ (λ t u. only_if (t && not u) (su_then b)) (sym (holds_moved is_add_class b)) (sym (holds_moved is_write_class b))
    where
      owns_at : (d : Name) → owns old d ≡ w d
      owns_at d = ap (λ o. is_some o) (shows.versions d) ∙ some (w d) (after_acts c (filter (λ x. is_held_above (held s.told x) d) (acts_by s)))
        where
          some : (t : Bool) (v : Content) → is_some (only_if t v) ≡ t
          some true v = refl
          some false v = refl

      at_next : (t : Bool) → w a ≡ t → (u : Bool) → w b ≡ u → same_name a b ≡ false → is_next to b ≡ true
          → cond (t || u) None (with_more (only_if (ad b && not u) (su b)) (only_if (ad a && not t) (su a))) ≡ only_if ((ad a || ad b) && not (t || u)) (su_then b)
      at_next true e u d apart n = sym (ap (λ t. only_if t (su_then b)) (and_right (ad a || ad b) false refl))
      at_next false e true d apart n = sym (ap (λ t. only_if t (su_then b)) (and_right (ad a || ad b) false refl))
      at_next false e false d apart n =
          ap₂ (λ t u. with_more (only_if t (su b)) (only_if u (su a))) (whole (ad b)) (whole (ad a)) ∙ next_sum b apart n e d
          ∙ ap (λ t. only_if t (su_then b)) (sym (whole (ad a || ad b)))

      of : (t : Bool) → same_name a b ≡ t → (n : Bool) → is_next to b ≡ n
          → cond t None (cond n (next_delta old a b) (delta_at old.deltas b)) ≡ only_if (moved_at t n (ad a) (ad b) && not (moved_at t n (w a) (w b))) (su_then b)
      of true e n f = refl
      of false e true f =
          ap₂ (λ t u. cond (t || u) None (with_more (delta_at old.deltas b) (delta_at old.deltas a))) (owns_at a) (owns_at b)
          ∙ ap₂ (λ d z. cond (w a || w b) None (with_more d z)) (shows.deltas b) (shows.deltas a)
          ∙ at_next (w a) refl (w b) refl e f
      of false e false f =
          shows.deltas b
          ∙ ap (λ n. only_if (ad b && not (w b)) n)
          (same_sum (λ x. is_exactly (held s.told x) b) (λ x. is_exactly (moved x) b) (acts_by s)
          (each_act _ (λ x r. sym (moved_exactly b e (held s.told x)
          ∙ ap (λ t. cond t (is_exactly (held s.told x) a || is_exactly (held s.told x) b) (is_exactly (held s.told x) b)) f)) (acts_by s)))

  -- ---- all of it

  locks_then : (k : Class → Bool) (b : Name) (ns : List Name) → ((d : Name) → has_name ns d ≡ holds (λ x. held s.told x) k d (acts_by s))
      → has_name (locks.passed a to ns) b ≡ holds (λ x. moved x) k b (acts_by s)
  locks_then k b ns h =
      has_passed a b to ns ∙ ap₂ (λ t u. moved_at (same_name a b) (is_next to b) t u) (h a) (h b) ∙ sym (holds_moved k b)

  adders_then : (b : Name)
      → (has_name (locks.passed a to old.locks.adders) b && not (has_name (locks.passed a to old.locks.writers) b))
      ≡ adds (λ x. moved x) b (acts_by s)
  adders_then b =
      ap₂ (λ t u. t && not u) (has_passed a b to old.locks.adders)
      (has_passed a b to old.locks.writers ∙ ap₂ (λ t u. moved_at (same_name a b) (is_next to b) t u) (shows.writers a) (shows.writers b))
      ∙ of (same_name a b) (is_next to b) (has_name old.locks.adders a) (has_name old.locks.adders b) (ad a) (ad b) (w a) (w b)
      (ap (λ t. has_name old.locks.adders a && not t) (sym (shows.writers a)) ∙ shows.adders a)
      (ap (λ t. has_name old.locks.adders b && not t) (sym (shows.writers b)) ∙ shows.adders b)
      ∙ ap₂ (λ t u. t && not u) (sym (holds_moved is_add_class b)) (sym (holds_moved is_write_class b))
    where
      of : (t n la lb xa xb wa wb : Bool) → (la && not wa) ≡ (xa && not wa) → (lb && not wb) ≡ (xb && not wb)
          → (moved_at t n la lb && not (moved_at t n wa wb)) ≡ (moved_at t n xa xb && not (moved_at t n wa wb))
      of true n la lb xa xb wa wb h k = refl
      of false false la lb xa xb wa wb h k = k
      of false true la lb xa xb true wb h k = and_right (la || lb) false refl ∙ sym (and_right (xa || xb) false refl)
      of false true la lb xa xb false true h k = and_right (la || lb) false refl ∙ sym (and_right (xa || xb) false refl)
      of false true la lb xa xb false false h k =
          ap₂ (λ t u. (t || u) && true) (sym (whole la) ∙ h ∙ whole xa) (sym (whole lb) ∙ k ∙ whole xb)

  base_after : new.stack.base ≡ after_acts c (filter (λ x. is_none (moved x)) (acts_by s))
  unfolding base_then mine
  base_after = stack_then.base_is ∙ of to refl
    where
      stays : (p : Name) → to ≡ Some p → (o : Option Name) → is_none o ≡ is_none (cond (is_exactly o a) to o)
      stays p q None = refl
      stays p q (Some d) = at (same_name d a)
        where
          at : (t : Bool) → false ≡ is_none (cond t to (Some d))
          at true = sym (ap (λ o. is_none o) q)
          at false = refl

      of : (o : Option Name) → to ≡ o → base_then o ≡ after_acts c (filter (λ x. is_none (moved x)) (acts_by s))
      of None q = sym then_mine ∙ ap (λ o. after_acts c (filter (λ x. belongs_to o (moved x)) (acts_by s))) q
      of (Some p) q = shows.base ∙ ap (λ ys. after_acts c ys) (filter_agree _ _ (λ x. stays p q (held s.told x)) (acts_by s))

  versions_after : (b : Name)
      → version_at new.stack.versions b
      ≡ only_if (holds (λ x. moved x) is_write_class b (acts_by s)) (after_acts c (filter (λ x. is_held_above (moved x) b) (acts_by s)))
  versions_after b =
      stack_then.at b ∙ of (same_name a b) refl (is_next to b) refl
      ∙ ap (λ t. only_if t (after_acts c (filter (λ x. is_held_above (moved x) b) (acts_by s)))) (sym (holds_moved is_write_class b))
    where
      of : (t : Bool) → same_name a b ≡ t → (n : Bool) → is_next to b ≡ n
          → cond t None (cond n (only_if (w a || w b) mine) (version_at old.stack.versions b))
          ≡ only_if (moved_at t n (w a) (w b)) (after_acts c (filter (λ x. is_held_above (moved x) b) (acts_by s)))
      of true e n f = refl
      of false e true f =
          ap (λ v. only_if (w a || w b) v)
          (sym then_mine ∙ ap (λ o. after_acts c (filter (λ x. belongs_to o (moved x)) (acts_by s))) (exactly to b (next_is to b ∙ f)))
      of false e false f = shows.versions b ∙ at (w b) refl
        where
          at : (t : Bool) → w b ≡ t
              → only_if t (after_acts c (filter (λ x. is_held_above (held s.told x) b) (acts_by s)))
              ≡ only_if t (after_acts c (filter (λ x. is_held_above (moved x) b) (acts_by s)))
          at true h = ap (λ v. Some v) (sym (others_stay b e f h))
          at false h = refl

  moved_shows : ShowsActs c (λ x. moved x) (acts_by s) new
  moved_shows = record {
    base = base_after;
    versions = versions_after;
    rising = stack_then.rises;
    deltas = λ b. pass.deltas b ∙ deltas_then b;
    names_rise = pass.rising;
    readers = λ b. ap (λ l. has_name l.readers b) pass.locks ∙ locks_then is_read_class b old.locks.readers shows.readers;
    writers = λ b. ap (λ l. has_name l.writers b) pass.locks ∙ locks_then is_write_class b old.locks.writers shows.writers;
    adders = λ b. ap (λ l. has_name l.adders b && not (has_name l.writers b)) pass.locks ∙ adders_then b;
    known = shows.known;
  }

pub passed_shows : PassedShows
passed_shows c s old new a to before own next pass =
    from_acts c after new
    (subst (λ h. ShowsActs c h (acts_by s) new) (λ i x. same x i) (moved_shows c s old new a to before own next pass))
    (subst (λ ds. AreOrderly after.told ds) (deeds_of_acts after)
    (told_orderly s.told after.told fewer (acts_by s) (orderly_acts s before.orderly)))
  where
    after : Standing
    after = told_too (λ b. same_name b a) s

    fewer : (d : Name) → (same_name d a || s.told d) ≡ false → s.told d ≡ false
    fewer d h = of (same_name d a) h
      where
        of : (t : Bool) → (t || s.told d) ≡ false → s.told d ≡ false
        of true k = absurd (true≢false k)
        of false k = k

    same : (x : Act) → cond (is_exactly (held s.told x) a) to (held s.told x) ≡ held (λ b. same_name b a || s.told b) x
    same x = ap (λ o. cond (is_exactly (held s.told x) a) o (held s.told x)) next ∙ sym (holders_move s.told a (deed_of x).0)
