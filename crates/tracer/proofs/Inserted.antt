-- Operations put into their places, the newest first, in a map whose keys are places.
use Rattle.std.proofs.Common.{◌≡◌, ℕ, suc, ◌<◌, Bool, true, false, cond, List, [], ◌∷◌, ◌++◌, length, map, filter, reverse, get_or, drop, Option, Some, None, refl, sym, ap, subst, ◌∙◌, arith}
use Rattle.std.specs.BTreeMap.{insert_entry}
use Rattle.std.specs.declared.cmp.Ordering.{Ordering}
use Rattle.std.specs.declared.cmp.Ordering.TheVariants.{Less, Equal, Greater}
use Rattle.std.specs.Ordering.{match_ordering, MatchOrdering}
use Rattle.std.specs.Cmp.Lexicographic.{slice_cmp}
use Rattle.std.proofs.lemmas.List.{append_assoc, append-nil, reverse-append}
use Rattle.std.proofs.lemmas.List.Elements.{filter-append}
use Rattle.action_names.specs.Names.{Name}
use Rattle.run_model.specs.declared.history.Event.{Event}
use Rattle.run_model.specs.Visibility.{is_visible}
use Rattle.run_model.specs.Keeping as keeping
use Rattle.run_model.specs.Keeping.{performed, performed_by}
use Rattle.run_model.specs.Places.{place_lt, place_of, insert_by_place, in_order_of_place, visible_by_grant, visible_by_place}
use Rattle.run_laws.proofs.Places.{places_differ}
use Rattle.tracer.specs.declared.explained.Performed.{Performed}
use Rattle.tracer.specs.declared.place.Place.{Place}
use Rattle.tracer.specs.Places.{step_cmp, place_numbers}
use Rattle.tracer.specs.Explained.{operation_of, Placed, placed, AreByPlace, listed, CameAfter, IsPlaced}
use Rattle.tracer.proofs.Placing.{PlacesCompare, places_compare}

-- so they did after fewer
came_after_fewer : (n : ℕ) (os : List keeping.Performed) → CameAfter (suc n) os → CameAfter n os
came_after_fewer n [] h = tt
came_after_fewer n (o ∷ os) h = (let first = h.0 in omega (arith, first), came_after_fewer n os h.1)

-- and where they stand by place
insert_came : (now : List Event) (n : ℕ) (o : keeping.Performed) (ps : List keeping.Performed) → n < o.number → CameAfter n ps
    → CameAfter n (insert_by_place now o ps)
insert_came now n o [] h k = (h, tt)
insert_came now n o (p ∷ ps) h k = step (place_lt (place_of p now) (place_of o now)) (insert_came now n o ps h k.1)
  where
    step : (t : Bool) → CameAfter n (insert_by_place now o ps) → CameAfter n (cond t (p ∷ insert_by_place now o ps) (o ∷ p ∷ ps))
    step true behind = (k.0, behind)
    step false behind = (h, k)

in_order_came : (now : List Event) (n : ℕ) (os : List keeping.Performed) → CameAfter n os → CameAfter n (in_order_of_place now os)
in_order_came now n [] h = tt
in_order_came now n (o ∷ os) h = insert_came now n o (in_order_of_place now os) h.0 (in_order_came now n os h.1)

-- a comparison of two places, where they are two operations' and differ
of_operations : (r : Ordering) (x y at_o at_p : List (Option ℕ)) → x ≡ at_o → y ≡ at_p → (at_o ≡ at_p → ⊥) → PlacesCompare r x y
    → MatchOrdering r (place_lt at_p at_o ≡ false) ⊥ (place_lt at_p at_o ≡ true)
of_operations Less x y at_o at_p e f differ h = sym (ap (λ z. place_lt z x) f ∙ ap (place_lt at_p) e) ∙ h
of_operations Equal x y at_o at_p e f differ h = differ (sym e ∙ h ∙ f)
of_operations Greater x y at_o at_p e f differ h = sym (ap (λ z. place_lt z x) f ∙ ap (place_lt at_p) e) ∙ h

module _ (now : List Event) (compare : Place → Place → Ordering) (same : (p q : Place) → compare p q ≡ slice_cmp step_cmp p.steps.items q.steps.items) where
  -- an operation is put where its place is
  pub inserted : (k : Place) (v : Performed) (entries : List (Place × Performed)) (ps : List keeping.Performed)
      → place_numbers k ≡ place_of (operation_of v) now → CameAfter v.number ps → AreByPlace entries ps now
      → AreByPlace (insert_entry compare entries k v) (insert_by_place now (operation_of v) ps) now
  inserted k v [] [] here later h = ap (λ x. (x, operation_of v) ∷ []) here
  inserted k v [] (p ∷ ps) here later h = absurd (no_entry (ap length h))
    where
      no_entry : {n : ℕ} → 0 ≡ suc n → ⊥
      no_entry e = omega (arith, e)
  inserted k v (e ∷ es) [] here later h = absurd (no_entry (ap length h))
    where
      no_entry : {n : ℕ} → suc n ≡ 0 → ⊥
      no_entry e = omega (arith, e)
  inserted k v (e ∷ es) (p ∷ ps) here later h =
      let first : placed e ≡ (place_of p now, p) = ap (λ l. get_or l 0 (placed e)) h in
      let differ : place_of (operation_of v) now ≡ place_of p now → ⊥ =
      λ one. let number = places_differ now (operation_of v) p one in let after = later.0 in omega (arith, number, after) in
      let told : PlacesCompare (compare k e.0) (place_numbers k) (place_numbers e.0) =
      subst (λ r. PlacesCompare r (place_numbers k) (place_numbers e.0)) (sym (same k e.0)) (places_compare k.steps.items e.0.steps.items) in
      step (compare k e.0) (place_lt (place_of p now) (place_of (operation_of v) now))
      (of_operations (compare k e.0) _ _ _ _ here (ap (λ x. x.0) first) differ told) first (inserted k v es ps here later.1 (ap (drop 1) h))
    where
      step : (r : Ordering) (t : Bool) → MatchOrdering r (t ≡ false) ⊥ (t ≡ true) → placed e ≡ (place_of p now, p)
          → AreByPlace (insert_entry compare es k v) (insert_by_place now (operation_of v) ps) now
          → AreByPlace (match_ordering r ((k, v) ∷ e ∷ es) ((e.0, v) ∷ es) (e ∷ insert_entry compare es k v))
          (cond t (p ∷ insert_by_place now (operation_of v) ps) (operation_of v ∷ p ∷ ps)) now
      step Less t before first behind =
          ap (λ x. (x, operation_of v) ∷ placed e ∷ map placed es) here
          ∙ ap (λ l. (place_of (operation_of v) now, operation_of v) ∷ l) h
          ∙ ap (λ b. map (λ o. (place_of o now, o)) (cond b (p ∷ insert_by_place now (operation_of v) ps) (operation_of v ∷ p ∷ ps))) (sym before)
      step Equal t never first behind = absurd never
      step Greater t after first behind =
          ap (λ x. x ∷ map placed (insert_entry compare es k v)) first
          ∙ ap (λ l. (place_of p now, p) ∷ l) behind
          ∙ ap (λ b. map (λ o. (place_of o now, o)) (cond b (p ∷ insert_by_place now (operation_of v) ps) (operation_of v ∷ p ∷ ps))) (sym after)

-- nothing is placed yet
pub placed_none : (a : Name) (now : List Event) → IsPlaced a now now []
placed_none a now = record {
  os = [];
  later = tt;
  front = sym (append-nil (visible_by_grant a now));
  by_place = refl;
}

-- all is placed
pub placed_all : (a : Name) (now : List Event) (entries : List (Place × Performed)) → IsPlaced a now [] entries
    → AreByPlace entries (visible_by_place a now) now
placed_all a now entries h = h.by_place ∙ ap (λ os. map (λ o. (place_of o now, o)) (in_order_of_place now os)) (sym h.front)

-- the operations of one event more stand in front of the later ones
front_more : (v : keeping.Performed → Bool) (these before os : List keeping.Performed) (seen : Option Performed) (all : List keeping.Performed)
    → listed seen ≡ filter v these → all ≡ reverse (filter v (these ++ before)) ++ os → all ≡ reverse (filter v before) ++ (listed seen ++ os)
front_more v these before os seen all here h =
    h
    ∙ ap (λ l. reverse l ++ os) (filter-append v these before ∙ ap (λ l. l ++ filter v before) (sym here))
    ∙ ap (λ l. l ++ os) (reverse-append (listed seen) (filter v before) ∙ ap (λ l. reverse (filter v before) ++ l) (one seen))
    ∙ append_assoc (reverse (filter v before)) (listed seen) os
  where
    one : (o : Option Performed) → reverse (listed o) ≡ listed o
    one None = refl
    one (Some p) = refl

module _ (a : Name) (now : List Event) where
  -- an event of which the action sees nothing
  pub placed_unseen : (e : Event) (past : List Event) (entries : List (Place × Performed))
      → [] ≡ filter (λ o. is_visible o.action a now) (performed_by (suc (length past)) e.step e.answer)
      → IsPlaced a now (e ∷ past) entries → IsPlaced a now past entries
  placed_unseen e past entries nothing h = record {
    os = h.os;
    later = came_after_fewer (length past) h.os h.later;
    front = front_more (λ o. is_visible o.action a now) (performed_by (suc (length past)) e.step e.answer) (performed past) h.os None _ nothing h.front;
    by_place = h.by_place;
  }

  -- an event whose operation the action sees
  pub placed_more : (e : Event) (past : List Event) (entries next : List (Place × Performed)) (k : Place) (v : Performed)
      → (compare : Place → Place → Ordering) → next ≡ insert_entry compare entries k v
      → ((p q : Place) → compare p q ≡ slice_cmp step_cmp p.steps.items q.steps.items)
      → operation_of v ∷ [] ≡ filter (λ o. is_visible o.action a now) (performed_by (suc (length past)) e.step e.answer)
      → v.number ≡ suc (length past) → place_numbers k ≡ place_of (operation_of v) now
      → IsPlaced a now (e ∷ past) entries → IsPlaced a now past next
  placed_more e past entries next k v compare is same seen number here h = record {
    os = operation_of v ∷ h.os;
    later = (omega (arith, number), came_after_fewer (length past) h.os h.later);
    front = front_more (λ o. is_visible o.action a now) (performed_by (suc (length past)) e.step e.answer) (performed past) h.os (Some v) _ seen h.front;
    by_place = subst (λ es. AreByPlace es (insert_by_place now (operation_of v) (in_order_of_place now h.os)) now) (sym is) (inserted now compare same k v entries (in_order_of_place now h.os) here
        (subst (λ n. CameAfter n (in_order_of_place now h.os)) (sym number) (in_order_came now (suc (length past)) h.os h.later)) h.by_place);
  }

-- what is in its places is the list itself
pub operations_by_place : (now : List Event) (entries : List (Place × Performed)) (os : List keeping.Performed) → AreByPlace entries os now
    → map (λ e. operation_of e.1) entries ≡ os
operations_by_place now entries os h = by_entries entries ∙ ap operations h ∙ by_operations os
  where
    operations : List Placed → List keeping.Performed
    operations l = map (λ (x : Placed). x.1) l

    by_entries : (es : List (Place × Performed)) → map (λ e. operation_of e.1) es ≡ operations (map placed es)
    by_entries [] = refl
    by_entries (e ∷ es) = ap (λ l. operation_of e.1 ∷ l) (by_entries es)

    by_operations : (ps : List keeping.Performed) → operations (map (λ o. (place_of o now, o)) ps) ≡ ps
    by_operations [] = refl
    by_operations (p ∷ ps) = ap (λ l. p ∷ l) (by_operations ps)
