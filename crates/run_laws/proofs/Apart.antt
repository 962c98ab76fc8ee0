-- Operations that are in nobody's way may be left out: nothing later asks of them.
use Rattle.std.proofs.Common.{Bool, List, [], ap, cond, false, filter, inl, inr, not, refl, subst, sym, true, ◌&&◌, ◌∙◌, ◌∷◌, ◌≡◌}
use Rattle.std.proofs.lemmas.Bool.{and_from, and_parts, false_from_ne_true, not-true}
use Rattle.action_names.specs.Names.{Name}
use Rattle.values.specs.declared.content.Content.{Content}
use Rattle.atomic_types.specs.TypeLaws.{objects_order_is_free}
use Rattle.atomic_types.specs.Objects.{content_after, reply_of}
use Rattle.atomic_types.specs.Operations.{conflicts}
use Rattle.run_model.specs.declared.history.Event.{Event}
use Rattle.run_model.specs.declared.step.ObjectId.{ObjectId}
use Rattle.run_model.specs.Keeping.{Performed, is_kept, performed, same_object}
use Rattle.run_model.specs.Openings.{Opening}
use Rattle.run_model.specs.Replay.{left_of}
use Rattle.run_model.specs.Runs.{IsRun}
use Rattle.run_model.specs.Visibility.{is_visible}
use Rattle.run_laws.specs.Laws.{Grants}
use Rattle.run_laws.proofs.Each.{Each, each_both, each_filter, each_map}
use Rattle.run_laws.proofs.Exchanged.{same_object_true}
use Rattle.run_laws.proofs.Granted.{each_performed, grant_cases, granted_before, granting}
use Rattle.run_laws.proofs.Growth.{Follows, earlier, follows_through, here, later, run_before}
use Rattle.run_laws.proofs.Kept.{kept_next}
use Rattle.run_laws.proofs.Names.{clash}
use Rattle.run_laws.proofs.Seen.{SeenIfInTheWay, granted_sees}
use Rattle.run_laws.proofs.Sorted.{EachPair}
use Rattle.run_laws.proofs.Visible.{visibility_carries_over, visible_stays}
use Rattle.atomic_types.specs.Operations as op

-- an operation after others that it does not conflict with leaves what it leaves before them
past_others : (c : Content) (o : Performed) (os : List Performed) → Each (λ p. conflicts p.operation o.operation ≡ false) os
    → content_after (left_of c os) o.operation ≡ left_of (content_after c o.operation) os
past_others c o [] h = refl
past_others c o (p ∷ ps) h =
    (objects_order_is_free (left_of c ps) p.operation o.operation h.0).0
    ∙ ap (λ d. content_after d p.operation) (past_others c o ps h.1)

-- and answers what it answers before them
same_reply : (c : Content) (wanted : op.Op) (os : List Performed) → Each (λ p. conflicts p.operation wanted ≡ false) os
    → reply_of (left_of c os) wanted ≡ reply_of c wanted
same_reply c wanted [] h = refl
same_reply c wanted (p ∷ ps) h =
    (objects_order_is_free (left_of c ps) p.operation wanted h.0).2 ∙ same_reply c wanted ps h.1

-- the newer one, where both pass the first test and it the second one, conflicts with the older one only where that passes the second
abbrev pub Clear : (Performed → Bool) → (Performed → Bool) → Performed → Performed → Type 0
Clear kept seen o p = kept o ≡ true → seen o ≡ true → kept p ≡ true → conflicts p.operation o.operation ≡ true → seen p ≡ true

-- of those that pass the first test, what does not pass the second may come last
pub others_last : (c : Content) (kept seen : Performed → Bool) (os : List Performed) → EachPair (Clear kept seen) os
    → left_of c (filter kept os) ≡ left_of (left_of c (filter (λ o. kept o && seen o) os)) (filter (λ o. kept o && not (seen o)) os)
others_last c kept seen [] h = refl
others_last c kept seen (o ∷ os) h = step (kept o) refl (seen o) refl (others_last c kept seen os h.1)
  where
    both : List Performed
    both = filter (λ p. kept p && seen p) os

    others : List Performed
    others = filter (λ p. kept p && not (seen p)) os

    step : (k : Bool) → kept o ≡ k → (s : Bool) → seen o ≡ s → left_of c (filter kept os) ≡ left_of (left_of c both) others
        → left_of c (cond k (o ∷ filter kept os) (filter kept os))
        ≡ left_of (left_of c (cond (k && s) (o ∷ both) both)) (cond (k && not s) (o ∷ others) others)
    step false ek s es e = e
    step true ek false es e = ap (λ d. content_after d o.operation) e
    step true ek true es e =
        ap (λ d. content_after d o.operation) e
        ∙ past_others (left_of c both) o others (each_filter _ (λ p. kept p && not (seen p)) os (each_map _ _ os apart h.0))
      where
        apart : (p : Performed) → Clear kept seen o p → (kept p && not (seen p)) ≡ true → conflicts p.operation o.operation ≡ false
        apart p k q =
            let f = and_parts (kept p) (not (seen p)) q in
            false_from_ne_true _ (λ t. clash (k ek es f.0 t) (not-true _ f.1))

-- So the reply is that of those that pass both, where what is left out does not conflict with it.
pub reply_of_seen : (c : Content) (wanted : op.Op) (kept seen : Performed → Bool) (os : List Performed)
    → Each (λ p. kept p ≡ true → conflicts p.operation wanted ≡ true → seen p ≡ true) os → EachPair (Clear kept seen) os
    → reply_of (left_of c (filter kept os)) wanted ≡ reply_of (left_of c (filter (λ o. kept o && seen o) os)) wanted
reply_of_seen c wanted kept seen os h k =
    ap (λ d. reply_of d wanted) (others_last c kept seen os k)
    ∙ same_reply (left_of c (filter (λ o. kept o && seen o) os)) wanted (filter (λ o. kept o && not (seen o)) os)
    (each_filter _ (λ o. kept o && not (seen o)) os (each_map _ _ os apart h))
  where
    apart : (p : Performed) → (kept p ≡ true → conflicts p.operation wanted ≡ true → seen p ≡ true)
        → (kept p && not (seen p)) ≡ true → conflicts p.operation wanted ≡ false
    apart p f q =
        let g = and_parts (kept p) (not (seen p)) q in
        false_from_ne_true _ (λ t. clash (f g.0 t) (not-true _ g.1))

-- what is kept was kept before
kept_before : (o : Performed) (e : Event) (before : List Event) {mid now : List Event} → Grants o e before → Follows (e ∷ before) mid
    → Follows mid now → is_kept o now ≡ true → is_kept o mid ≡ true
kept_before o e before g w here h = h
kept_before o e before g w (later {now = now} k v) h =
    kept_before o e before g w v
    (and_parts _ _ (sym (kept_next o k now (granted_before o e before g (follows_through w v))) ∙ h)).0

-- In a run, of what is kept on an object, what is in the way of a later one that a sees is seen by a.
pub clear_pairs : (opening : Opening) (x : ObjectId) (a : Name) (past : List Event) {now end : List Event} → IsRun opening end
    → Follows now past → Follows past end
    → EachPair (Clear (λ q. same_object q.object x && is_kept q past) (λ q. is_visible q.action a end)) (performed now)
clear_pairs opening x a past {now = []} r w v = tt
clear_pairs opening x a past {now = e ∷ now} {end = end} r w v = elim (grant_cases e now) [
  | inl h ↦ subst Pairs (sym h) (clear_pairs opening x a past r (earlier w) v)
  | inr h ↦ subst Pairs (sym h.1) (one h.0 h.2, clear_pairs opening x a past r (earlier w) v)
]
  where
    kept : Performed → Bool
    kept q = same_object q.object x && is_kept q past

    seen : Performed → Bool
    seen q = is_visible q.action a end

    Pairs : List Performed → Type 0
    Pairs os = EachPair (Clear kept seen) os

    one : (o : Performed) → Grants o e now → Each (λ p. Clear kept seen o p) (performed now)
    one o g =
        each_both (λ p. SeenIfInTheWay o.action o.object o.operation now p) Still (λ p. Clear kept seen o p) (performed now) clear
        (granted_sees o.action o.object o.operation now (granting opening o e now (run_before opening (follows_through w v) r) g).free)
        (each_performed now Still (λ p e' p' h f k. kept_before p e' p' h f (earlier w) (and_parts (same_object p.object x) (is_kept p past) k).1))
      where
        Still : Performed → Type 0
        Still p = kept p ≡ true → is_kept p now ≡ true

        clear : (p : Performed) → SeenIfInTheWay o.action o.object o.operation now p → Still p → Clear kept seen o p
        clear p sees still ko so kp c =
            let on_x = and_parts (same_object o.object x) (is_kept o past) ko in
            let p_on = and_parts (same_object p.object x) (is_kept p past) kp in
            let here : same_object p.object o.object ≡ true = ap (λ y. same_object p.object y) (same_object_true o.object x on_x.0) ∙ p_on.0 in
            let s = sees (and_from _ _ here (still kp)) c in
            visibility_carries_over a p.action o.action end so (visible_stays p.action o.action (follows_through (earlier w) v) s)
