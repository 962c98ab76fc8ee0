-- An outcome that does not concern an object leaves it as it is, and so does a crash where nobody holds anything of it.
use Rattle.std.proofs.Common.{Bool, List, None, Option, Some, [], ap, ap₂, cond, false, filter, not, refl, sym, true, ℤ, ◌&&◌, ◌∙◌, ◌∷◌, ◌≡◌, ◌||◌}
use Rattle.std.specs.Prelude.{is_some}
use Rattle.std.proofs.lemmas.Bool.{false_from_ne_true, false≢true, or_left, or_parts, or_right}
use Rattle.std.specs.BTreeSet.{insert_key}
use Rattle.action_names.specs.Names.{Name, has_name, is_ancestor, is_top, name_cmp, parent_of, same_name}
use Rattle.values.specs.declared.content.Content.{Content}
use Rattle.atomic_types.specs.Operations.{is_write_class}
use Rattle.run_model.specs.Actions.{is_exactly}
use Rattle.run_model.specs.Keeping.{Performed, Standing}
use Rattle.run_model.specs.Telling.{holder_by}
use Rattle.run_model.specs.Versions.{is_held_above}
use Rattle.run_laws.proofs.Names.{any_name, clash, same_name_self, same_name_true}
use Rattle.local_laws.proofs.Acts.{acts_by, after_acts}
use Rattle.object_model.specs.Deltas.{delta_at, with_more}
use Rattle.object_model.specs.Locks as locks
use Rattle.object_model.specs.Objects.{IsCrashed, IsPassed, IsUndone, Seen, is_next, next_delta, owns, with_delta}
use Rattle.object_model.specs.Stacks.{inherited, owners_of}
use Rattle.object_laws.specs.Changes.{crashed, told_too, undone}
use Rattle.object_laws.specs.Laws.{is_concerned}
use Rattle.object_laws.specs.Shown.{Shows, only_if}
use Rattle.object_laws.proofs.Held.{held, holds, sum_acts, to_acts}
use Rattle.object_laws.proofs.Leaving.{crashed_shows, undone_shows}
use Rattle.object_laws.proofs.Passing.{passed_shows}
use Rattle.object_laws.proofs.Topmost.{has_owner}
use Rattle.atomic_object.specs.Ways.{AreLeft}
use Rattle.atomic_object.proofs.Passing.{owner_adds_nothing}

-- ---- who has no lock

-- a list without a name
without_name : (a : Name) (names : List Name) → has_name names a ≡ false → filter (λ b. not (same_name b a)) names ≡ names
without_name a [] h = refl
without_name a (b ∷ names) h =
    let p = or_parts (same_name b a) (has_name names a) h in
    ap (λ t. cond (not t) (b ∷ filter (λ d. not (same_name d a)) names) (filter (λ d. not (same_name d a)) names)) p.0 ∙ ap (λ l. b ∷ l) (without_name a names p.1)

-- nothing is handed on
nobody_passes : (a : Name) (to : Option Name) (names : List Name) → has_name names a ≡ false → names ≡ locks.passed a to names
nobody_passes a None names h = sym (without_name a names h)
nobody_passes a (Some p) names h = sym (ap (λ t. locks.all_but a (cond t (insert_key name_cmp names p) names)) h ∙ without_name a names h)

-- a list with nobody at or below a
without_below : (a : Name) (names : List Name) → locks.has_below names a ≡ false → filter (λ b. not (is_ancestor a b)) names ≡ names
without_below a [] h = refl
without_below a (b ∷ names) h =
    let p = or_parts (is_ancestor a b) (locks.has_below names a) h in
    ap (λ t. cond (not t) (b ∷ filter (λ d. not (is_ancestor a d)) names) (filter (λ d. not (is_ancestor a d)) names)) p.0 ∙ ap (λ l. b ∷ l) (without_below a names p.1)

-- so is a list of versions of which each owner is among such names
owners_stay : (a : Name) (names : List Name) (vs : List (Name × Content)) → locks.has_below names a ≡ false
    → ((b : Name) → has_name (owners_of vs) b ≡ true → has_name names b ≡ true) → filter (λ v. not (is_ancestor a v.0)) vs ≡ vs
owners_stay a names [] none own = refl
owners_stay a names (v ∷ vs) none own =
    ap (λ t. cond (not t) (v ∷ filter (λ w. not (is_ancestor a w.0)) vs) (filter (λ w. not (is_ancestor a w.0)) vs))
    (false_from_ne_true (is_ancestor a v.0) (λ h. clash (any_name (λ b. is_ancestor a b) names v.0 (own v.0 (or_left (same_name v.0 v.0) _ (same_name_self v.0))) h) none))
    ∙ ap (λ l. v ∷ l) (owners_stay a names vs none (λ b h. own b (or_right (same_name v.0 b) _ h)))

module _ (c : Content) (s : Standing) (object : Seen) (shows : Shows c s object) where
  -- an owner has a lock to write
  writes : (b : Name) → owns object b ≡ true → has_name object.locks.writers b ≡ true
  writes b w = (to_acts c s object shows).writers b ∙ at (holds (λ x. held s.told x) is_write_class b (acts_by s)) refl
    where
      at : (t : Bool) → holds (λ x. held s.told x) is_write_class b (acts_by s) ≡ t → holds (λ x. held s.told x) is_write_class b (acts_by s) ≡ true
      at true e = e
      at false e = absurd (false≢true (sym (ap (λ o. is_some o) ((to_acts c s object shows).versions b ∙ ap (λ t. only_if t (after_acts c (filter (λ x. is_held_above (held s.told x) b) (acts_by s)))) e)) ∙ w))

  -- so whoever has none owns nothing
  no_version : (b : Name) → has_name object.locks.writers b ≡ false → owns object b ≡ false
  no_version b h = false_from_ne_true (owns object b) (λ w. clash (writes b w) h)

  -- and whoever has none to add either adds nothing
  no_delta : (b : Name) → has_name object.locks.adders b ≡ false → delta_at object.deltas b ≡ None
  no_delta b h =
      let acts = to_acts c s object shows in
      acts.deltas b
      ∙ ap (λ t. only_if t (sum_acts (λ x. is_exactly (held s.told x) b) (acts_by s)))
      (sym (acts.adders b) ∙ ap (λ t. t && not (has_name object.locks.writers b)) h)

  -- ---- a commit

  module _ (a : Name) (none : is_concerned true object.locks a ≡ false) where
    unread : has_name object.locks.readers a ≡ false
    unread = (or_parts (has_name object.locks.readers a) _ none).0

    unwritten : has_name object.locks.writers a ≡ false
    unwritten = (or_parts (has_name object.locks.writers a) _ (or_parts (has_name object.locks.readers a) _ none).1).0

    unadded : has_name object.locks.adders a ≡ false
    unadded = (or_parts (has_name object.locks.writers a) _ (or_parts (has_name object.locks.readers a) _ none).1).1

    nothing_passed : (to : Option Name) → IsPassed a to object object
    nothing_passed to = record {
      stack = sym (ap₂ (λ t o. cond t (inherited object.stack a to) (with_delta object.stack to o)) (no_version a unwritten) (no_delta a unadded));
      deltas = λ b. same b (same_name a b) refl;
      rising = shows.names_rise;
      locks = λ i. record {
        readers = nobody_passes a to object.locks.readers unread i;
        writers = nobody_passes a to object.locks.writers unwritten i;
        adders = nobody_passes a to object.locks.adders unadded i;
      };
    }
      where
        beside : (b : Name) (t : Bool) → owns object b ≡ t → delta_at object.deltas b ≡ cond t None (delta_at object.deltas b)
        beside b true e = owner_adds_nothing c s object (Some b) shows e
        beside b false e = refl

        handed : (b : Name) (t : Bool) → delta_at object.deltas b ≡ cond t (next_delta object a b) (delta_at object.deltas b)
        handed b false = refl
        handed b true =
            beside b (owns object b) refl
            ∙ sym (ap₂ (λ t o. cond (t || owns object b) None (with_more (delta_at object.deltas b) o)) (no_version a unwritten) (no_delta a unadded))

        same : (b : Name) (t : Bool) → same_name a b ≡ t
            → delta_at object.deltas b ≡ cond t None (cond (is_next to b) (next_delta object a b) (delta_at object.deltas b))
        same b true e = ap (λ n. delta_at object.deltas n) (sym (same_name_true a b e)) ∙ no_delta a unadded
        same b false e = handed b (is_next to b)

    -- a telling that a committed changes nothing where a holds nothing
    pub commit_leaves : is_ancestor a a ≡ true → Shows c (told_too (λ b. same_name b a) s) object
    commit_leaves own = passed_shows c s object object a (holder_by s.told (parent_of a)) shows own refl (nothing_passed (holder_by s.told (parent_of a)))

  -- ---- an abort

  module _ (a : Name) (none : is_concerned false object.locks a ≡ false) where
    unread_below : locks.has_below object.locks.readers a ≡ false
    unread_below = (or_parts (locks.has_below object.locks.readers a) _ none).0

    unwritten_below : locks.has_below object.locks.writers a ≡ false
    unwritten_below = (or_parts (locks.has_below object.locks.writers a) _ (or_parts (locks.has_below object.locks.readers a) _ none).1).0

    unadded_below : locks.has_below object.locks.adders a ≡ false
    unadded_below = (or_parts (locks.has_below object.locks.writers a) _ (or_parts (locks.has_below object.locks.readers a) _ none).1).1

    nothing_dropped : IsUndone a object object
    nothing_dropped = record {
      stack = λ i. record {
        base = object.stack.base;
        versions = sym (owners_stay a object.locks.writers object.stack.versions unwritten_below (λ b h. writes b (sym (has_owner object.stack.versions b) ∙ h))) i;
      };
      deltas = λ b. same b (is_ancestor a b) refl;
      rising = shows.names_rise;
      locks = λ i. record {
        readers = sym (without_below a object.locks.readers unread_below) i;
        writers = sym (without_below a object.locks.writers unwritten_below) i;
        adders = sym (without_below a object.locks.adders unadded_below) i;
      };
    }
      where
        same : (b : Name) (t : Bool) → is_ancestor a b ≡ t → delta_at object.deltas b ≡ cond t None (delta_at object.deltas b)
        same b true e =
            no_delta b (false_from_ne_true (has_name object.locks.adders b) (λ h. clash (any_name (λ d. is_ancestor a d) object.locks.adders b h e) unadded_below))
        same b false e = refl

    -- a telling that a aborted changes nothing where neither a nor a descendant holds anything
    pub abort_leaves : is_ancestor a a ≡ true → s.told a ≡ false → Shows c (undone (λ b. same_name b a) s) object
    abort_leaves own untold = undone_shows c s object object a shows own untold nothing_dropped

  -- ---- a crash

  module _ (none : (b : Name) → is_concerned true object.locks b ≡ false) where
    nobody : (names : List Name) → ((b : Name) → has_name names b ≡ false) → names ≡ []
    nobody [] h = refl
    nobody (b ∷ names) h = absurd (clash (or_left (same_name b b) (has_name names b) (same_name_self b)) (h b))

    no_versions : (vs : List (Name × Content)) → ((b : Name) → has_name (owners_of vs) b ≡ false) → vs ≡ []
    no_versions [] h = refl
    no_versions (v ∷ vs) h = absurd (clash (or_left (same_name v.0 v.0) (has_name (owners_of vs) v.0) (same_name_self v.0)) (h v.0))

    nothing_lost : (stays : Name → Bool) → IsCrashed stays object object
    nothing_lost stays = record {
      base = refl;
      versions = versions ∙ sym (ap (λ vs. filter (λ v. stays v.0) vs) versions);
      deltas = λ b. either (stays b) (delta_at object.deltas b) (no_delta b (unadded b (none b)));
      rising = shows.names_rise;
      locks = λ i. record {
        readers = nobody object.locks.readers (λ b. unread b (none b)) i;
        writers = left object.locks.writers (nobody object.locks.writers (λ b. unwritten b (none b))) i;
        adders = left object.locks.adders (nobody object.locks.adders (λ b. unadded b (none b))) i;
      };
    }
      where
        versions : object.stack.versions ≡ []
        versions = no_versions object.stack.versions (λ b. has_owner object.stack.versions b ∙ no_version b (unwritten b (none b)))

        either : (t : Bool) (o : Option ℤ) → o ≡ None → o ≡ cond t o None
        either true o e = refl
        either false o e = e

        left : (names : List Name) → names ≡ [] → names ≡ filter stays names
        left names e = e ∙ sym (ap (λ l. filter stays l) e)

    -- a crash changes nothing where nobody holds anything
    pub crash_leaves : (outlives : Performed → Bool) (stays : Name → Bool) → ((a : Name) → stays a ≡ true → is_top a ≡ true) → AreLeft outlives stays s
        → Shows c (crashed outlives s) object
    crash_leaves outlives stays tops left = crashed_shows c s object object outlives stays shows tops left.0 left.1 (nothing_lost stays)
