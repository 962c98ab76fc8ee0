-- Who may be handed something once something was taken out.
use Rattle.std.proofs.Common.{◌≡◌, ℤ, Bool, true, false, not, ◌&&◌, ◌||◌, List, [], ◌∷◌, Option, Some, None, refl, sym, ap, ◌∙◌}
use Rattle.std.specs.Prelude.{is_some, if◌then◌else◌}
use Rattle.std.proofs.lemmas.Bool.{and_parts, false_from_ne_true, true≢false}
use Rattle.std.specs.Option.{IfSome}
use Rattle.action_names.specs.Names.{Name, has_name, is_ancestor, is_proper_ancestor, same_name}
use Rattle.action_names.proofs.Ancestry.{and_of, proper, same_is, same_refl, same_sym}
use Rattle.object_model.specs.Stacks.{IsNextHolder}
use Rattle.object_model.specs.Deltas.{HasDelta, HasNoneBelow, delta_at, with_more}
use Rattle.object_model.specs.Objects.{Seen, is_next, owns, passed_delta}
use Rattle.holders.specs.Held.{HasLessRoom, may_be_handed}
use Rattle.holders.proofs.Handing.{room_where, still}

-- room in two places is left where it is left in each
pub both_left : (t d l : Bool) {x y : Bool} → (t && d ≡ true → x ≡ true) → (t && l ≡ true → y ≡ true) → t && (d && l) ≡ true → x && y ≡ true
both_left t d l {x} {y} deltas locks h =
    let a = and_parts t (d && l) h in
    let b = and_parts d l a.1 in
    and_of x y (deltas (and_of t d a.0 b.0)) (locks (and_of t l a.0 b.1))

-- a proper ancestor has another name
pub other_name : (p a : Name) → is_proper_ancestor p a ≡ true → same_name a p ≡ false
other_name p a h = false_from_ne_true (same_name a p) (λ e. true≢false (sym (same_sym a p e) ∙ (proper p a h).1))

-- the next holder has its room still, where the action lost its own
kept_by : (a p : Name) (before after : List Name) → is_proper_ancestor p a ≡ true → HasLessRoom before after a → has_name before p ≡ true → has_name after p ≡ true
kept_by a p before after n less h = less p ∙ and_of (not (same_name a p)) (has_name before p) (ap not (other_name p a n)) h

-- it may still be handed what others add
pub next_may_be_handed : (a : Name) (to : Option Name) (old new : List (Name × ℤ)) (before after : List Name) → IsNextHolder a to → HasLessRoom before after a
    → (old ≡ [] → new ≡ []) → IfSome to (λ next. may_be_handed old before next ≡ true) → IfSome to (λ next. may_be_handed new after next ≡ true)
next_may_be_handed a None old new before after n less nobody h = h
next_may_be_handed a (Some p) old new before after n less nobody h = still old new before after p nobody (kept_by a p before after n less) h

-- and has room where the action added something
pub next_has_room : (a : Name) (to : Option Name) (old : List (Name × ℤ)) (before after : List Name) (z : ℤ) → IsNextHolder a to → HasLessRoom before after a
    → delta_at old a ≡ Some z → IfSome to (λ next. may_be_handed old before next ≡ true) → IfSome to (λ next. has_name after next ≡ true)
next_has_room a None old before after z n less adds h = h
next_has_room a (Some p) old before after z n less adds h =
    kept_by a p before after n less (room_where old before p (λ e. sym (ap is_some (sym adds ∙ ap (λ (ds : List (Name × ℤ)). delta_at ds a) e))) h)

-- where nobody adds anything there are no deltas
pub nobody_adds : (ds : List (Name × ℤ)) → ((b : Name) → delta_at ds b ≡ None) → ds ≡ []
nobody_adds [] none = refl
nobody_adds (d ∷ ds) none = absurd (true≢false (sym (simp (same_refl d.0) refl) ∙ ap is_some (none d.0)))

none_either : (t : Bool) (o : Option ℤ) → o ≡ None → (if t then None else o) ≡ None
none_either true o e = refl
none_either false o e = e

-- one that forgets what it adds, where nobody added anything
pub nobody_forgets : (old new : List (Name × ℤ)) (a : Name) → HasDelta old new a None → old ≡ [] → new ≡ []
nobody_forgets old new a left e = nobody_adds new (λ b. left b ∙ none_either (same_name a b) (delta_at old b) (ap (λ (ds : List (Name × ℤ)). delta_at ds b) e))

-- an action and its descendants that do
pub nobody_below : (old new : List (Name × ℤ)) (a : Name) → HasNoneBelow old new a → old ≡ [] → new ≡ []
nobody_below old new a left e = nobody_adds new (λ b. left b ∙ none_either (is_ancestor a b) (delta_at old b) (ap (λ (ds : List (Name × ℤ)). delta_at ds b) e))

none_passed : (same next owned : Bool) (d e : Option ℤ) → d ≡ None → e ≡ None → (if same then None else (if next then (if owned then None else with_more d e) else d)) ≡ None
none_passed true next owned d e p q = refl
none_passed false true true d e p q = refl
none_passed false true false d e p q = rw (p, q) refl
none_passed false false owned d e p q = p

-- and one that hands it on
pub nobody_passes : (object : Seen) (a : Name) (to : Option Name) (new : List (Name × ℤ)) → ((b : Name) → delta_at new b ≡ passed_delta object a to b)
    → object.deltas ≡ [] → new ≡ []
nobody_passes object a to new passed e =
    nobody_adds new (λ b. passed b
    ∙ none_passed (same_name a b) (is_next to b) (owns object a || owns object b) (delta_at object.deltas b) (delta_at object.deltas a)
    (ap (λ (ds : List (Name × ℤ)). delta_at ds b) e) (ap (λ (ds : List (Name × ℤ)). delta_at ds a) e))

-- one that adds nothing has nothing to forget
pub nothing_forgotten : (ds : List (Name × ℤ)) (p : Name) → is_some (delta_at ds p) ≡ false → HasDelta ds ds p None
nothing_forgotten ds p none = λ b. at b (same_name p b) refl where
  absent : (o : Option ℤ) → is_some o ≡ false → o ≡ None
  absent None e = refl
  absent (Some z) e = absurd (true≢false e)

  at : (b : Name) (t : Bool) → same_name p b ≡ t → delta_at ds b ≡ (if same_name p b then None else delta_at ds b)
  at b true k = rw k (ap (delta_at ds) (sym (same_is p b k)) ∙ absent (delta_at ds p) none)
  at b false k = rw k refl
