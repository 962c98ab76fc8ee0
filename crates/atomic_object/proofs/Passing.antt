-- What the next holder is given, by holder.
use Rattle.std.proofs.Common.{◌≡◌, ℤ, Bool, true, false, not, ◌&&◌, List, [], ◌∷◌, Option, Some, None, refl, sym, ap, subst, ◌∙◌}
use Rattle.std.specs.Prelude.{is_some, if◌then◌else◌}
use Rattle.std.proofs.lemmas.Bool.{true≢false, false≢true}
use Rattle.action_names.specs.Names.{Name, same_name}
use Rattle.action_names.proofs.Ancestry.{same_is}
use Rattle.values.specs.declared.content.Content.{Content}
use Rattle.atomic_types.specs.Objects.{content_after}
use Rattle.atomic_types.specs.Operations.{is_add_class, is_write_class}
use Rattle.run_model.specs.Actions.{is_exactly}
use Rattle.run_model.specs.Keeping.{Standing}
use Rattle.local_laws.proofs.Acts.{acts_by}
use Rattle.object_model.specs.Stacks.{IsNextHolder, Stack, added, changed_at, version_at}
use Rattle.object_model.specs.Deltas.{delta_at, more_at, with_more}
use Rattle.object_model.specs.Objects.{Seen, is_next, owns, passed_delta}
use Rattle.object_laws.specs.Shown.{Shows, only_if}
use Rattle.object_laws.proofs.Held.{held, holds, sum_acts, to_acts}
use Rattle.object_laws.proofs.Standing.{owner_holds}
use Rattle.atomic_object.specs.Kept.{AddsNothing}
use Rattle.atomic_object.proofs.Rooms.{other_name}

-- nothing is changed where nobody of this name owns a version
changed_nowhere : (f : Content → Content) (vs : List (Name × Content)) (a : Name) → is_some (version_at vs a) ≡ false → changed_at f vs a ≡ vs
changed_nowhere f [] a h = refl
changed_nowhere f (v ∷ vs) a h = at (same_name v.0 a) refl (changed_nowhere f vs a) where
  at : (t : Bool) → same_name v.0 a ≡ t → (is_some (version_at vs a) ≡ false → changed_at f vs a ≡ vs) → changed_at f (v ∷ vs) a ≡ v ∷ vs
  at true e later = absurd (true≢false (sym (simp e refl) ∙ h))
  at false e later = simp e (ap (λ ws. v ∷ ws) (later (sym (simp e refl) ∙ h)))

-- what is added to a version that is not there changes nothing
pub added_nowhere : (s : Stack Content) (p : Name) (z : ℤ) → is_some (version_at s.versions p) ≡ false → s ≡ added content_after s (Some p) z
added_nowhere s p z h = sym (ap (λ (vs : List (Name × Content)). record { base = s.base; versions = vs }) (changed_nowhere (λ c. content_after c _) s.versions p h))

-- the delta of a holder that owns nothing, once more is put to it
pub put_at : (object : Seen) (p b : Name) (z : ℤ) (d : Option ℤ) → owns object p ≡ false
    → d ≡ (if same_name p b then more_at object.deltas p z else delta_at object.deltas b)
    → d ≡ (if is_next (Some p) b && not (owns object b) then more_at object.deltas b z else delta_at object.deltas b)
put_at object p b z d free e = e ∙ at (same_name p b) refl where
  at : (t : Bool) → same_name p b ≡ t
      → (if same_name p b then more_at object.deltas p z else delta_at object.deltas b)
      ≡ (if same_name p b && not (owns object b) then more_at object.deltas b z else delta_at object.deltas b)
  at true k =
      let same : p ≡ b = same_is p b k in
      let other : owns object b ≡ false = subst (λ x. owns object x ≡ false) same free in
      simp (k, other) (ap (λ x. more_at object.deltas x z) same)
  at false k = simp k refl

-- an owner's delta is not touched
pub owner_at : (object : Seen) (p b : Name) (z : ℤ) → owns object p ≡ true
    → delta_at object.deltas b ≡ (if is_next (Some p) b && not (owns object b) then more_at object.deltas b z else delta_at object.deltas b)
owner_at object p b z its = at (same_name p b) refl where
  at : (t : Bool) → same_name p b ≡ t
      → delta_at object.deltas b ≡ (if same_name p b && not (owns object b) then more_at object.deltas b z else delta_at object.deltas b)
  at true k = let own : owns object b ≡ true = subst (λ x. owns object x ≡ true) (same_is p b k) its in simp (k, own) refl
  at false k = simp k refl

-- where the action owns nothing: the deltas once its own, of this amount, was taken and given to the next holder, unless that owns a version
module _ (object : Seen) (a : Name) (to : Option Name) (next : IsNextHolder a to) (beside : AddsNothing object to) (free : owns object a ≡ false) where
  -- the next holder is not the action itself
  not_itself : (b : Name) → same_name a b ≡ true → is_next to b ≡ false
  not_itself b k = at to next where
    at : (o : Option Name) → IsNextHolder a o → is_next o b ≡ false
    at None n = refl
    at (Some p) n = subst (λ x. same_name p x ≡ false) (same_is a b k) (turned (same_name p a) refl) where
      turned : (t : Bool) → same_name p a ≡ t → same_name p a ≡ false
      turned false e = e
      turned true e = absurd (true≢false (sym (back e) ∙ other_name p a n)) where
        back : same_name p a ≡ true → same_name a p ≡ true
        back q = let same : p ≡ a = same_is p a q in subst (λ x. same_name x p ≡ true) same (subst (λ x. same_name p x ≡ true) (sym same) q)

  -- the next holder, where it owns a version, adds nothing
  nothing_there : (b : Name) → is_next to b ≡ true → owns object b ≡ true → delta_at object.deltas b ≡ None
  nothing_there b k own = at to beside k where
    at : (o : Option Name) → AddsNothing object o → is_next o b ≡ true → delta_at object.deltas b ≡ None
    at None w e = absurd (false≢true e)
    at (Some p) w e =
        let same : p ≡ b = same_is p b e in
        subst (λ x. delta_at object.deltas x ≡ None) same (w (subst (λ x. owns object x ≡ true) (sym same) own))

  pub passed_more : (b : Name) (z : ℤ) (d taken : Option ℤ) → delta_at object.deltas a ≡ Some z
      → taken ≡ (if same_name a b then None else delta_at object.deltas b)
      → d ≡ (if is_next to b && not (owns object b) then with_more taken (Some z) else taken)
      → d ≡ passed_delta object a to b
  passed_more b z d taken amount e f = f ∙ at (same_name a b) refl (is_next to b) refl (owns object b) refl where
    at : (t : Bool) → same_name a b ≡ t → (n : Bool) → is_next to b ≡ n → (o : Bool) → owns object b ≡ o
        → (if is_next to b && not (owns object b) then with_more taken (Some z) else taken) ≡ passed_delta object a to b
    at true k n q o r = simp (k, not_itself b k) (e ∙ simp k refl)
    at false k true q true r = simp (k, q, r, free) (e ∙ simp k (nothing_there b q r))
    at false k true q false r = simp (k, q, r, free, amount, e) refl
    at false k false q o r = simp (k, q) (e ∙ simp k refl)

  pub passed_none : (b : Name) (d : Option ℤ) → delta_at object.deltas a ≡ None
      → d ≡ (if same_name a b then None else delta_at object.deltas b)
      → d ≡ passed_delta object a to b
  passed_none b d amount e = e ∙ at (same_name a b) refl (is_next to b) refl (owns object b) refl where
    at : (t : Bool) → same_name a b ≡ t → (n : Bool) → is_next to b ≡ n → (o : Bool) → owns object b ≡ o
        → (if same_name a b then None else delta_at object.deltas b) ≡ passed_delta object a to b
    at true k n q o r = simp k refl
    at false k true q true r = simp (k, q, r, free) (nothing_there b q r)
    at false k true q false r = simp (k, q, r, free, amount) refl
    at false k false q o r = simp (k, q) refl

-- an owner adds nothing beside its version
pub owner_adds_nothing : (c : Content) (s : Standing) (object : Seen) (to : Option Name) → Shows c s object → AddsNothing object to
owner_adds_nothing c s object None shows = tt
owner_adds_nothing c s object (Some p) shows = λ own.
    let acts = to_acts c s object shows in
    acts.deltas p ∙ ap (λ t. only_if t (sum_acts (λ x. is_exactly (held s.told x) p) (acts_by s))) (none (holds (λ x. held s.told x) is_add_class p (acts_by s)) (owner_holds c (λ x. held s.told x) (acts_by s) object p acts own))
  where
    none : (t : Bool) → holds (λ x. held s.told x) is_write_class p (acts_by s) ≡ true → (t && not (holds (λ x. held s.told x) is_write_class p (acts_by s))) ≡ false
    none true e = ap not e
    none false e = refl
