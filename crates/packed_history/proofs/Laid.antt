-- The events of rows that are laid behind one another.
use Rattle.std.proofs.Common.{◌≡◌, ℕ, List, [], ◌∷◌, ◌++◌, ◌<◌, ◌≤◌, length, take, get_or, zero, suc, refl, ap, ap₂, sym, ◌∙◌, subst, reverse, drop, Some, map}
use Rattle.std.specs.List.{AllByRecursion}
use Rattle.std.specs.Option.{option_map}
use Rattle.std.specs.Prelude.{slice_get}
use Rattle.std.proofs.lemmas.List.{map_push, reverse-append, reverse-reverse, take_all}
use Rattle.std.proofs.lemmas.Option.{none-some, same_Some, slice_get-get_or, slice_get-map, slice_get_read}
use Rattle.run_model.specs.declared.history.Event.{Event}
use Rattle.packed_history.specs.declared.arenas.Row.{Row}
use Rattle.packed_history.specs.Arenas.{AreLaid, HasRow, IsKept, Parts, event_in, events_in, parts_before}
use Rattle.packed_history.proofs.Growth.{HasMore, more_then, parts_cut, parts_same, row_has, row_same}

-- ---- the newest

events_same : (p q : Parts) (rows : List Row) → HasMore p q → AreLaid p rows → events_in q rows ≡ events_in p rows
events_same p q [] m h = refl
events_same p q (row ∷ rows) m h =
    let before = parts_before p row in
    ap₂ (λ e es. e ∷ es) (row_same p q row m h.0)
    (events_same before q rows (more_then before p q (parts_cut p row) m) h.1 ∙ sym (events_same before p rows (parts_cut p row) h.1))

module _ (old new : Parts) (rows all : List Row) (row : Row) (e : Event) (kept : IsKept old new row e) (pushed : all ≡ rows ++ row ∷ []) where
  newest_first : reverse all ≡ row ∷ reverse rows
  newest_first = ap reverse pushed ∙ reverse-append rows (row ∷ [])

  pub pushed_events : AreLaid old (reverse rows) → events_in new (reverse all) ≡ e ∷ events_in old (reverse rows)
  pushed_events h =
      let M : Parts → Type 0 = λ p. HasMore p new in
      ap (events_in new) newest_first
      ∙ ap₂ (λ e es. e ∷ es) kept.reads (events_same old new (reverse rows) (subst M kept.before (parts_cut new row)) h)

module _ (p : Parts) (rows all : List Row) (row : Row) (popped : all ≡ rows ++ row ∷ []) where
  newest_of : reverse all ≡ row ∷ reverse rows
  newest_of = ap reverse popped ∙ reverse-append rows (row ∷ [])

  laid_of : AreLaid p (reverse all) → AreLaid p (row ∷ reverse rows)
  laid_of h =
      let P : List Row → Type 0 = λ rs. AreLaid p rs in
      subst P newest_of h

  pub popped_events : AreLaid p (reverse all) → events_in (parts_before p row) (reverse rows) ≡ drop 1 (events_in p (reverse all))
  popped_events h =
      sym (ap (λ rs. drop 1 (events_in p rs)) newest_of ∙ events_same (parts_before p row) p (reverse rows) (parts_cut p row) (laid_of h).1)

-- ---- the event at a place

module _ {X : Type 0} (P : X → Type 0) where
  all_at : (xs : List X) (n : ℕ) (x : X) → AllByRecursion P xs → slice_get xs n ≡ Some x → P x
  all_at [] n x h there = absurd (none-some x there)
  all_at (y ∷ xs) zero x h there = subst P (same_Some y x there) h.0
  all_at (y ∷ xs) (suc n) x h there = all_at xs n x h.1 there

  all_push : (xs : List X) (x : X) → AllByRecursion P xs → P x → AllByRecursion P (xs ++ x ∷ [])
  all_push [] x h p = (p, tt)
  all_push (y ∷ xs) x h p = (h.0, all_push xs x h.1 p)

  all_reverse : (xs : List X) → AllByRecursion P xs → AllByRecursion P (reverse xs)
  all_reverse [] h = tt
  all_reverse (x ∷ xs) h =
      let Q : List X → Type 0 = λ ys. AllByRecursion P ys in
      subst Q (sym (reverse-append (x ∷ []) xs)) (all_push (reverse xs) x (all_reverse xs h.1) h.0)

all_have : (p q : Parts) (rows : List Row) → HasMore p q → AreLaid p rows → AllByRecursion (HasRow q) rows
all_have p q [] m h = tt
all_have p q (row ∷ rows) m h =
    (row_has p q row m h.0, all_have (parts_before p row) q rows (more_then (parts_before p row) p q (parts_cut p row) m) h.1)

-- the rows, the oldest first
pub has_at : (p : Parts) (rows : List Row) (n : ℕ) (row : Row) → AreLaid p (reverse rows) → slice_get rows n ≡ Some row → HasRow p row
has_at p rows n row h there =
    let Q : List Row → Type 0 = λ rs. AllByRecursion (HasRow p) rs in
    all_at (HasRow p) rows n row (subst Q (reverse-reverse rows) (all_reverse (HasRow p) (reverse rows) (all_have p p (reverse rows) (parts_same p) h))) there

map_reverse : {X Y : Type 0} (f : X → Y) (xs : List X) → map f (reverse xs) ≡ reverse (map f xs)
map_reverse f [] = refl
map_reverse f (x ∷ xs) =
    ap (map f) (reverse-append (x ∷ []) xs) ∙ map_push f (reverse xs) x ∙ ap (λ ys. ys ++ f x ∷ []) (map_reverse f xs)
    ∙ sym (reverse-append (f x ∷ []) (map f xs))

newest_events : (p : Parts) (rows : List Row) → events_in p (reverse rows) ≡ reverse (events_in p rows)
newest_events p rows = map_reverse (event_in p) rows

pub event_at : (p : Parts) (rows : List Row) (n : ℕ) → option_map (event_in p) (slice_get rows n) ≡ slice_get (reverse (events_in p (reverse rows))) n
event_at p rows n =
    sym (ap (λ es. slice_get (reverse es) n) (newest_events p rows) ∙ ap (λ es. slice_get es n) (reverse-reverse (events_in p rows)) ∙ slice_get-map (event_in p) rows n)

-- what a slice of these rows gives
pub row_read : (rows given : List Row) (n : ℕ) (row : Row) → given ≡ rows → n < length given → row ≡ get_or given n row → slice_get rows n ≡ Some row
row_read rows given n row same l read = ap (λ rs. slice_get rs n) (sym same) ∙ slice_get_read given (length given) n row refl l read

-- ---- all events

pub has_within : (p : Parts) (rows given : List Row) (n : ℕ) (d : Row) → given ≡ rows → AreLaid p (reverse rows) → n < length given → HasRow p (get_or given n d)
has_within p rows given n d same h l =
    has_at p rows n (get_or given n d) h (ap (λ rs. slice_get rs n) (sym same) ∙ slice_get-get_or given n d l)

pub events_all : (p : Parts) (rows given : List Row) (events : List Event) (n : ℕ) → given ≡ rows → length given ≤ n → events ≡ events_in p (take n given)
    → reverse events ≡ events_in p (reverse rows)
events_all p rows given events n same l read =
    ap reverse (read ∙ ap (events_in p) (take_all n given l ∙ same)) ∙ sym (newest_events p rows)
