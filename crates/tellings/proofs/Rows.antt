-- Rows that stand behind others, and what is to be heard once the last of it was put.
use Rattle.std.proofs.Common.{Bool, List, None, Option, Some, [], ap, cond, false, get_or, length, refl, set, sym, true, ℕ, ◌++◌, ◌<◌, ◌∙◌, ◌∷◌, ◌≡◌}
use Rattle.std.specs.List.{AllByRecursion}
use Rattle.action_names.specs.Names.{Name, same_name}
use Rattle.places.specs.Placed.{place_in}
use Rattle.places.specs.Rows.{row_of}
use Rattle.places.proofs.Standing.{row_put}
use Rattle.run_model.specs.Telling.{or_else}
use Rattle.tellings.specs.Hearing.{HavePlaces, heard_in}
use Rattle.tellings.specs.declared.tellings.Told.{Told}

-- what holds of all rows holds of the last and of those before it
pub all_parts : {X : Type 0} (P : X → Type 0) (xs : List X) (x : X) → AllByRecursion P (xs ++ x ∷ []) → AllByRecursion P xs × P x
all_parts P [] x all = (tt, all.0)
all_parts P (y ∷ xs) x all = let rest = all_parts P xs x all.1 in ((all.0, rest.0), rest.1)

-- and the other way round
pub all_last : {X : Type 0} (P : X → Type 0) (xs : List X) (x : X) → AllByRecursion P xs → P x → AllByRecursion P (xs ++ x ∷ [])
all_last P [] x all last = (last, tt)
all_last P (y ∷ xs) x all last = (all.0, all_last P xs x all.1 last)

-- what follows from what holds of all rows holds of all
pub all_weaker : {X : Type 0} (P Q : X → Type 0) → ((x : X) → P x → Q x) → (xs : List X) → AllByRecursion P xs → AllByRecursion Q xs
all_weaker P Q from [] all = tt
all_weaker P Q from (x ∷ xs) all = (from x all.0, all_weaker P Q from xs all.1)

-- a row before the last is found first
heard_last : (names : List Name) (hs : List (ℕ × Told)) (x : ℕ × Told) (b : Name)
    → heard_in names (hs ++ x ∷ []) b ≡ or_else (heard_in names hs b) (cond (same_name (get_or names x.0 []) b) (Some x.1) None)
heard_last names [] x b = refl
heard_last names (h ∷ hs) x b = step (same_name (get_or names h.0 []) b) (heard_last names hs x b)
  where
    step : (t : Bool) → heard_in names (hs ++ x ∷ []) b ≡ or_else (heard_in names hs b) (cond (same_name (get_or names x.0 []) b) (Some x.1) None)
        → cond t (Some h.1) (heard_in names (hs ++ x ∷ []) b)
        ≡ or_else (cond t (Some h.1) (heard_in names hs b)) (cond (same_name (get_or names x.0 []) b) (Some x.1) None)
    step true later = refl
    step false later = later

-- the last of what is left is put: what is found is what it would be with all that is left
pub put_last : (names : List Name) (rest items : List (ℕ × Told)) (held new : List (Option Told)) (at : ℕ) (t : Told) → items ≡ rest ++ (at, t) ∷ []
    → new ≡ set held at (Some t) → at < length held → HavePlaces names items → (b : Name)
    → or_else (heard_in names rest b) (row_of names new b) ≡ or_else (heard_in names items b) (row_of names held b)
put_last names rest items held new at t left put within places b =
    let parts = all_parts (λ (h : ℕ × Told). place_in names (get_or names h.0 []) ≡ Some h.0) rest (at, t) (rw left at places) in
    ap (λ rows. or_else (heard_in names rest b) (row_of names rows b)) put
    ∙ ap (or_else (heard_in names rest b)) (row_put names (get_or names at []) at held t parts.1 within b)
    ∙ nested (heard_in names rest b) (same_name (get_or names at []) b)
    ∙ ap (λ o. or_else o (row_of names held b)) (sym (heard_last names rest (at, t) b))
    ∙ ap (λ hs. or_else (heard_in names hs b) (row_of names held b)) (sym left)
  where
    nested : (o : Option Told) (s : Bool) → or_else o (cond s (Some t) (row_of names held b)) ≡ or_else (or_else o (cond s (Some t) None)) (row_of names held b)
    nested (Some w) s = refl
    nested None true = refl
    nested None false = refl

-- what is left has places where all had
pub places_left : (names : List Name) (rest items : List (ℕ × Told)) (x : ℕ × Told) → items ≡ rest ++ x ∷ [] → HavePlaces names items → HavePlaces names rest
places_left names rest items x left places =
    (all_parts (λ (h : ℕ × Told). place_in names (get_or names h.0 []) ≡ Some h.0) rest x (rw left at places)).0

-- there is room for what is left, and for the last
pub fits_parts : (room new : ℕ) (rest items : List (ℕ × Told)) (x : ℕ × Told) → items ≡ rest ++ x ∷ [] → new ≡ room
    → AllByRecursion (λ (h : ℕ × Told). h.0 < room) items → AllByRecursion (λ (h : ℕ × Told). h.0 < new) rest × (x.0 < room)
fits_parts room new rest items x left same fits =
    let parts = all_parts (λ (h : ℕ × Told). h.0 < room) rest x (rw left at fits) in
    (rw same parts.0, parts.1)
