-- Items put over others one by one, and what was there before put back.
use Rattle.std.proofs.Common.{◌≡◌, List, [], ◌∷◌, ◌++◌, Bool, true, false, Some, None, refl, sym, ap, ◌∙◌}
use Rattle.std.specs.Prelude.{ℤ, Option, cond, if◌then◌else◌}
use Rattle.std.specs.Cmp.{int_cmp_total}
use Rattle.std.specs.List.{AllByRecursion}
use Rattle.std.specs.List.Sorted.{IsStrictlySortedBy}
use Rattle.std.specs.Ordering.{int_cmp, is_eq, match_ordering}
use Rattle.std.specs.declared.cmp.Ordering.{Ordering}
use Rattle.std.specs.declared.cmp.Ordering.TheVariants.{Less, Equal, Greater}
use Rattle.std.specs.BTreeMap.{is_at, insert_entry}
use Rattle.std.specs.Map.{keys_of, remove_entry, set_value}
use Rattle.std.proofs.lemmas.Bool.{true≢false}
use Rattle.std.proofs.lemmas.Option.{none-some}
use Rattle.values.specs.declared.value.Value.{Value}
use Rattle.overlays.specs.RecordOverlays.{or_below}
use Rattle.overlays.specs.ArrayItems.{put_back_at, put_back_all}
use Rattle.overlays.specs.ArrayOverlays.{changed_at, put_over}
use Rattle.overlays.proofs.ArrayJoins.{none_at}
use Rattle.overlays.proofs.Places.{at_itself, at_another, is_same_index}

-- what was there, put back where an item was put over it
pub put_back_after : (k : ℤ) (v : Value) (es : List (ℤ × Value)) → IsStrictlySortedBy int_cmp (keys_of es)
    → put_back_at (insert_entry int_cmp es k v) k (changed_at es k) ≡ es
unfolding IsStrictlySortedBy
put_back_after k v [] s = rw (at_itself k) refl
put_back_after k v (e ∷ es) s = by_case (put_back_after k v es s.1) (int_cmp k e.0) refl where
  rest : List (ℤ × Value)
  rest = insert_entry int_cmp es k v

  before_all : int_cmp k e.0 ≡ Less → (ks : List ℤ) → AllByRecursion (λ j. int_cmp e.0 j ≡ Less) ks → AllByRecursion (λ j. int_cmp k j ≡ Less) ks
  before_all c [] h = h
  before_all c (j ∷ ks) h = (int_cmp_total.trans k e.0 j c h.0, before_all c ks h.1)

  put_behind : is_at (int_cmp k) e.0 ≡ false → (x : Option Value) → put_back_at rest k x ≡ es → put_back_at (e ∷ rest) k x ≡ e ∷ es
  put_behind other None later = ap (λ b. cond b rest (e ∷ remove_entry (is_at (int_cmp k)) rest)) other ∙ ap (λ fs. e ∷ fs) later
  put_behind other (Some w) later = ap (λ b. cond b ((e.0, w) ∷ rest) (e ∷ set_value (is_at (int_cmp k)) rest w)) other ∙ ap (λ fs. e ∷ fs) later

  by_case : put_back_at rest k (changed_at es k) ≡ es → (o : Ordering) → int_cmp k e.0 ≡ o
      → put_back_at (match_ordering o ((k, v) ∷ e ∷ es) ((e.0, v) ∷ es) (e ∷ rest)) k (cond (is_eq o) (Some e.1) (changed_at es k)) ≡ e ∷ es
  by_case later Less c =
      ap (λ x. put_back_at ((k, v) ∷ e ∷ es) k x) (none_at k es (before_all c (keys_of es) s.0))
      ∙ ap (λ b. cond b (e ∷ es) ((k, v) ∷ remove_entry (is_at (int_cmp k)) (e ∷ es))) (at_itself k)
  by_case later Equal c = ap (λ b. cond b ((e.0, e.1) ∷ es) ((e.0, v) ∷ set_value (is_at (int_cmp k)) es e.1)) (ap is_eq c)
  by_case later Greater c = put_behind (ap is_eq c) (changed_at es k) later

-- nothing is put where there is no item
pub put_nowhere : (k : ℤ) (v : Value) (es : List (ℤ × Value)) → changed_at es k ≡ None → set_value (is_at (int_cmp k)) es v ≡ es
put_nowhere k v [] h = refl
put_nowhere k v (e ∷ es) h = by_case (put_nowhere k v es) (is_at (int_cmp k) e.0) h where
  by_case : (changed_at es k ≡ None → set_value (is_at (int_cmp k)) es v ≡ es) → (t : Bool) → cond t (Some e.1) (changed_at es k) ≡ None
      → cond t ((e.0, v) ∷ es) (e ∷ set_value (is_at (int_cmp k)) es v) ≡ e ∷ es
  by_case later true h = absurd (none-some e.1 (sym h))
  by_case later false h = ap (λ fs. e ∷ fs) (later h)

-- the last is put back first
pub put_back_last : (rs : List (ℤ × Option Value)) (r : ℤ × Option Value) (es : List (ℤ × Value))
    → put_back_all (rs ++ r ∷ []) es ≡ put_back_all rs (put_back_at es r.0 r.1)
put_back_last [] r es = refl
put_back_last (q ∷ rs) r es = ap (λ fs. put_back_at fs q.0 q.1) (put_back_last rs r es)

-- the last item put, and then the others
pub put_last : (k : ℤ) (v : Value) (es old new : List (ℤ × Value))
    → ((q : ℤ) → changed_at new q ≡ (if is_at (int_cmp k) q then Some v else changed_at old q)) → (i : ℤ) → put_over None es new i ≡ put_over None (es ++ (k, v) ∷ []) old i
put_last k v [] old new updated i = updated i ∙ by_test (is_at (int_cmp i) k) refl where
  by_test : (t : Bool) → is_at (int_cmp i) k ≡ t → (if is_at (int_cmp k) i then Some v else changed_at old i) ≡ or_below (if is_at (int_cmp i) k then Some v else None) (changed_at old i)
  by_test true t =
      ap (λ b. if b then Some v else changed_at old i) (ap (is_at (int_cmp k)) (is_same_index i k t) ∙ at_itself k)
      ∙ sym (ap (λ b. or_below (if b then Some v else None) (changed_at old i)) t)
  by_test false t =
      ap (λ b. if b then Some v else changed_at old i) (at_another k i (λ same. true≢false (sym (ap (is_at (int_cmp i)) same ∙ at_itself i) ∙ t)))
      ∙ sym (ap (λ b. or_below (if b then Some v else None) (changed_at old i)) t)
put_last k v (e ∷ es) old new updated i = by_test (is_at (int_cmp i) e.0) (put_last k v es old new updated i) where
  by_test : (t : Bool) → put_over None es new i ≡ put_over None (es ++ (k, v) ∷ []) old i
      → or_below (cond t (Some e.1) (changed_at es i)) (changed_at new i) ≡ or_below (cond t (Some e.1) (changed_at (es ++ (k, v) ∷ []) i)) (changed_at old i)
  by_test true later = refl
  by_test false later = later
