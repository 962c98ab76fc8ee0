-- Who may be handed what others hold.
use Rattle.std.proofs.Common.{◌≡◌, Bool, true, false, ◌||◌, List, [], ◌∷◌, refl, sym, subst}
use Rattle.std.proofs.lemmas.Bool.{false≢true}
use Rattle.action_names.specs.Names.{Name, same_name, has_name}
use Rattle.holders.specs.Held.{may_be_handed}

-- whoever has room may be handed it
pub enough : {X : Type 0} (held : List X) (room : List Name) (b : Name) → has_name room b ≡ true → may_be_handed held room b ≡ true
enough [] room b h = refl
enough (x ∷ xs) room b h = h

-- where somebody holds something, there is room
pub room_where : {X : Type 0} (held : List X) (room : List Name) (b : Name) → (held ≡ [] → false ≡ true) → may_be_handed held room b ≡ true
    → has_name room b ≡ true
room_where [] room b some h = absurd (false≢true (some refl))
room_where (x ∷ xs) room b some h = h

-- whoever might be handed it still may: nobody begins to hold, and room stays
pub still : {X Y : Type 0} (old : List X) (new : List Y) (before after : List Name) (b : Name) → (old ≡ [] → new ≡ [])
    → (has_name before b ≡ true → has_name after b ≡ true) → may_be_handed old before b ≡ true → may_be_handed new after b ≡ true
still {X} {Y} [] new before after b nobody room h = subst (λ (ys : List Y). may_be_handed ys after b ≡ true) (sym (nobody refl)) refl
still (x ∷ xs) new before after b nobody room h = enough new after b (room h)

-- once there is room for one more
pub one_more : {X : Type 0} (old new : List X) (before after : List Name) (a b : Name) → new ≡ old → has_name after b ≡ same_name a b || has_name before b
    → may_be_handed new after b ≡ same_name a b || may_be_handed old before b
one_more {X} old new before after a b same made = subst (λ (xs : List X). may_be_handed xs after b ≡ same_name a b || may_be_handed old before b) (sym same) (at old) where
  or_true : (t : Bool) → true ≡ t || true
  or_true true = refl
  or_true false = refl

  at : (xs : List X) → may_be_handed xs after b ≡ same_name a b || may_be_handed xs before b
  at [] = or_true (same_name a b)
  at (x ∷ xs) = made

-- where nobody holds anything, everybody may be handed that
pub nobody_holds : {X : Type 0} (old new : List X) (before after : List Name) (a b : Name) → old ≡ [] → new ≡ [] → may_be_handed new after b ≡ same_name a b || may_be_handed old before b
nobody_holds {X} old new before after a b was is =
    subst (λ (xs : List X). may_be_handed xs after b ≡ same_name a b || may_be_handed old before b) (sym is)
    (subst (λ (xs : List X). true ≡ same_name a b || may_be_handed xs before b) (sym was) (or_true (same_name a b))) where
      or_true : (t : Bool) → true ≡ t || true
      or_true true = refl
      or_true false = refl
