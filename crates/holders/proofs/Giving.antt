-- A row that is put at the place of its name or into its gap, and the value in it.
use Rattle.std.proofs.Common.{◌≡◌, ℕ, zero, suc, ◌||◌, List, [], ◌∷◌, get_or, set, refl, sym, ap, ◌∙◌, subst}
use Rattle.std.specs.Prelude.{Option, Some, None}
use Rattle.std.specs.BTreeMap.{insert_entry}
use Rattle.std.specs.List.Sorted.{IsStrictlySortedBy}
use Rattle.std.specs.Map.{keys_of}
use Rattle.std.specs.Option.{option_flatten}
use Rattle.std.specs.Ordering.{is_eq}
use Rattle.std.specs.declared.cmp.Ordering.{Ordering}
use Rattle.std.specs.declared.cmp.Ordering.TheVariants.{Less, Equal, Greater}
use Rattle.action_names.specs.Names.{Name, has_name, name_cmp, same_name}
use Rattle.action_names.proofs.Ancestry.{same_is}
use Rattle.holders.specs.Held.{Rows, held_in, with_row, with_value}
use Rattle.holders.specs.Places.{IsRowAt}
use Rattle.holders.proofs.Places.{behind_lesser}
use Rattle.holders.proofs.Rows.{flat, has_put, put_first, shown}
use Rattle.holders.proofs.Sorted.{StandBehind, at_name}

-- a row in the place of one of the same name
pub given_row : {R : Type 0} (rs : List (Name × R)) (a : Name) (i : ℕ) (r : Name × R) (w : R) → IsRowAt rs a i → r ≡ get_or rs i r
    → set rs i (r.0, w) ≡ insert_entry name_cmp rs a w
given_row [] a i r w here is = absurd here
given_row {R} (s ∷ rs) a zero r w here is =
    let rest : (s.0, w) ∷ rs ≡ insert_entry name_cmp (s ∷ rs) a w = simp here refl in ap (λ (t : Name × R). (t.0, w) ∷ rs) is ∙ rest
given_row (s ∷ rs) a (suc i) r w here is =
    let first : name_cmp a s.0 ≡ Greater = here.0 in simp first (ap (λ t. s ∷ t) (given_row rs a i r w here.1 is))

-- a value in such a row is given to its holder
given_held : {V : Type 0} (a : Name) (v : V) (rs : List (Name × Option V)) → IsStrictlySortedBy name_cmp (keys_of rs)
    → held_in (insert_entry name_cmp rs a (Some v)) ≡ with_value (held_in rs) a v
unfolding IsStrictlySortedBy
given_held a v [] s = refl
given_held {V} a v (r ∷ rs) s = by_case (given_held a v rs s.1) (name_cmp a r.0) refl r.1 where
  by_case : held_in (insert_entry name_cmp rs a (Some v)) ≡ insert_entry name_cmp (held_in rs) a v → (o : Ordering) → name_cmp a r.0 ≡ o → (x : Option V)
      → held_in (insert_entry name_cmp ((r.0, x) ∷ rs) a (Some v)) ≡ insert_entry name_cmp (with_row r.0 x (held_in rs)) a v
  by_case later Less k None = simp k (sym (put_first a v rs (behind_lesser a r.0 (keys_of rs) k s.0)))
  by_case later Less k (Some w) = simp k refl
  by_case later Equal k None =
      let same : r.0 ≡ a = same_is r.0 a (sym (at_name a r.0) ∙ ap is_eq k) in
      simp k (ap (λ x. (x, v) ∷ held_in rs) same ∙ sym (put_first a v rs (subst (λ x. StandBehind x (keys_of rs)) same s.0)))
  by_case later Equal k (Some w) = simp k refl
  by_case later Greater k None = simp k later
  by_case later Greater k (Some w) = simp k (ap (λ hs. (r.0, w) ∷ hs) later)

-- what stood in the row before
pub flat_is : {V : Type 0} (o : Option (Option V)) → option_flatten o ≡ flat o
flat_is None = refl
flat_is (Some o) = refl

-- what rows show then
module _ {V : Type 0} (s : Rows V) (rs new : List (Name × Option V)) (a n : Name) (v : V) (shows : shown rs ≡ s) (same : n ≡ a)
    (is : new ≡ insert_entry name_cmp rs n (Some v)) where
  is_given : new ≡ insert_entry name_cmp rs a (Some v)
  is_given = is ∙ ap (λ x. insert_entry name_cmp rs x (Some v)) same

  pub held_given : IsStrictlySortedBy name_cmp (keys_of rs) → held_in new ≡ with_value s.held a v
  held_given k = ap held_in is_given ∙ given_held a v rs k ∙ ap (λ (x : Rows V). with_value x.held a v) shows

  pub room_given : (b : Name) → has_name (keys_of new) b ≡ same_name a b || has_name s.room b
  room_given b =
      ap (λ (ns : List (Name × Option V)). has_name (keys_of ns) b) is_given ∙ has_put a b (Some v) rs
      ∙ ap (λ (x : Rows V). same_name a b || has_name x.room b) shows
