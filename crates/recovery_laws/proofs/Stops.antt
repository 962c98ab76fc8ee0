-- Runs that go on from one another, however often: their contents, and their replies on one plain store.
use Rattle.std.proofs.Common.{Bool, List, [], ap, ap₂, cond, false, inl, inr, refl, reverse, subst, sym, true, ◌++◌, ◌∙◌, ◌∷◌, ◌≡◌}
use Rattle.std.proofs.lemmas.List.{reverse-append}
use Rattle.action_names.specs.Names.{Name}
use Rattle.atomic_types.specs.Objects.{content_after, reply_of}
use Rattle.run_model.specs.declared.history.Event.{Event}
use Rattle.run_model.specs.declared.step.ObjectId.{ObjectId}
use Rattle.run_model.specs.declared.answer.Refusal.TheVariants as why
use Rattle.run_model.specs.declared.step.Step.{Step}
use Rattle.run_model.specs.Keeping.{Performed, performed, same_object}
use Rattle.run_model.specs.Openings.{Opening, first_content}
use Rattle.run_model.specs.Places.{replies_given, visible_by_grant, visible_by_place}
use Rattle.run_model.specs.Refusals.{checks}
use Rattle.run_model.specs.Replay.{Store, replayed, store_after, updated}
use Rattle.run_model.specs.Runs.{IsRun}
use Rattle.run_model.specs.Visibility.{is_orphan, is_visible}
use Rattle.run_laws.specs.Laws.{Grants}
use Rattle.run_laws.proofs.Accepted.{NoneApplies, checked}
use Rattle.run_laws.proofs.Each.{Each, each_filter, each_reverse}
use Rattle.run_laws.proofs.Exchanged.{exchanges_leave_replies}
use Rattle.run_laws.proofs.Granted.{each_performed, grant_cases, grant_parts, seen_by}
use Rattle.run_laws.proofs.Growth.{Follows, earlier, here, run_before}
use Rattle.run_laws.proofs.Order.{grant_to_place}
use Rattle.run_laws.proofs.Replies.{reply_by_grant}
use Rattle.recovery_laws.specs.Numbers.{IsGuardian, IsNumbered}
use Rattle.recovery_laws.proofs.NewTops.{no_orphan}
use Rattle.recovery_laws.proofs.Guardians.{there_by}
use Rattle.run_laws.proofs.Exchanged.{exchanges_leave_contents}
use Rattle.recovery_laws.specs.Opened.{AreLives, ContentsThroughStops, Life, SerialThroughStops, first_opening, seen_through}
use Rattle.recovery_laws.proofs.Opened.{in_opening, opens_with_what_was_seen, stays_numbered}

-- ---- one store

-- what one operation more answers
replayed_snoc : (s : Store) (os : List Performed) (o : Performed)
    → replayed s (os ++ o ∷ []) ≡ replayed s os ++ reply_of (store_after s os o.object) o.operation ∷ []
replayed_snoc s [] o = refl
replayed_snoc s (p ∷ ps) o = ap (λ rs. reply_of (s p.object) p.operation ∷ rs) (replayed_snoc (updated s p.object p.operation) ps o)

-- one list after another
replayed_append : (s : Store) (os ps : List Performed) → replayed s (os ++ ps) ≡ replayed s os ++ replayed (store_after s os) ps
replayed_append s [] ps = refl
replayed_append s (o ∷ os) ps = ap (λ rs. reply_of (s o.object) o.operation ∷ rs) (replayed_append (updated s o.object o.operation) os ps)

given_append : (os ps : List Performed) → replies_given (os ++ ps) ≡ replies_given os ++ replies_given ps
given_append [] ps = refl
given_append (o ∷ os) ps = ap (λ rs. o.reply ∷ rs) (given_append os ps)

-- the replies to what an action that is no orphan sees, in order of grant, begun or not
serial_by_grant : (opening : Opening) (past : List Event) (a : Name) {end : List Event} → Follows past end → IsRun opening end
    → is_orphan a end ≡ false
    → replayed (first_content opening) (reverse (seen_by a end (performed past))) ≡ replies_given (reverse (seen_by a end (performed past)))
serial_by_grant opening [] a w r n = refl
serial_by_grant opening (e ∷ past) a {end = end} w r n = elim (grant_cases e past) [
  | inl h ↦ subst Holds (sym h) (serial_by_grant opening past a (earlier w) r n)
  | inr h ↦ subst Holds (sym h.1) (one h.0 h.2 (is_visible h.0.action a end) refl (serial_by_grant opening past a (earlier w) r n))
]
  where
    Holds : List Performed → Type 0
    Holds os = replayed (first_content opening) (reverse (seen_by a end os)) ≡ replies_given (reverse (seen_by a end os))

    older : List Performed
    older = seen_by a end (performed past)

    one : (o : Performed) → Grants o e past → (t : Bool) → is_visible o.action a end ≡ t
        → replayed (first_content opening) (reverse older) ≡ replies_given (reverse older)
        → replayed (first_content opening) (reverse (cond t (o ∷ older) older)) ≡ replies_given (reverse (cond t (o ∷ older) older))
    one o p false v rest = rest
    one o p true v rest =
        ap (replayed (first_content opening)) (reverse-append (o ∷ []) older) ∙ replayed_snoc (first_content opening) (reverse older) o
        ∙ ap₂ (λ rs r. rs ++ r ∷ []) rest (sym (reply_by_grant opening o e past a p (run_before opening w r) (earlier w) r n v))
        ∙ sym (ap replies_given (reverse-append (o ∷ []) older) ∙ given_append (reverse older) (o ∷ []))

-- and in order of place
serial_by_place : (opening : Opening) (past : List Event) (a : Name) → IsRun opening past → is_orphan a past ≡ false
    → replayed (first_content opening) (visible_by_place a past) ≡ replies_given (visible_by_place a past)
serial_by_place opening past a r n =
    exchanges_leave_replies (first_content opening) (visible_by_grant a past) (visible_by_place a past) (grant_to_place opening past r a n)
    (serial_by_grant opening past a here r n)

-- the store that is left after one list and another
left_append : (s : Store) (os ps : List Performed) → store_after s (os ++ ps) ≡ store_after (store_after s os) ps
left_append s [] ps = refl
left_append s (o ∷ os) ps = left_append (updated s o.object o.operation) os ps

-- ---- stores that are alike at the guardians of an opening

abbrev AreAlike : Opening → Store → Store → Type 0
AreAlike opening s s' = (x : ObjectId) → IsGuardian opening x.guardian → s x ≡ s' x

-- what is done at a guardian leaves them so
alike_after : (opening : Opening) (s s' : Store) (o : Performed) → AreAlike opening s s' → IsGuardian opening o.object.guardian
    → AreAlike opening (updated s o.object o.operation) (updated s' o.object o.operation)
alike_after opening s s' o same there x at = of (same_object o.object x)
  where
    of : (b : Bool) → cond b (content_after (s o.object) o.operation) (s x) ≡ cond b (content_after (s' o.object) o.operation) (s' x)
    of true = ap (λ c. content_after c o.operation) (same o.object there)
    of false = same x at

alike_replies : (opening : Opening) (s s' : Store) (os : List Performed) → AreAlike opening s s'
    → Each (λ o. IsGuardian opening o.object.guardian) os → replayed s os ≡ replayed s' os
alike_replies opening s s' [] same there = refl
alike_replies opening s s' (o ∷ os) same there =
    ap₂ (λ r rs. r ∷ rs) (ap (λ c. reply_of c o.operation) (same o.object there.0))
    (alike_replies opening (updated s o.object o.operation) (updated s' o.object o.operation) os (alike_after opening s s' o same there.0) there.1)

alike_left : (opening : Opening) (s s' : Store) (os : List Performed) → AreAlike opening s s'
    → Each (λ o. IsGuardian opening o.object.guardian) os → AreAlike opening (store_after s os) (store_after s' os)
alike_left opening s s' [] same there = same
alike_left opening s s' (o ∷ os) same there =
    alike_left opening (updated s o.object o.operation) (updated s' o.object o.operation) os (alike_after opening s s' o same there.0) there.1

-- what is done is done there
seen_there : (opening : Opening) (past : List Event) (a : Name) → IsRun opening past
    → Each (λ o. IsGuardian opening o.object.guardian) (visible_by_grant a past)
seen_there opening past a r =
    each_reverse There (seen_by a past (performed past))
    (each_filter There (λ o. is_visible o.action a past) (performed past) (each_performed past _ (λ o e before g w v.
    let P : Step → Type 0 = λ s. NoneApplies (checks opening s before) in
    there_by opening o.object.guardian (subst P (grant_parts o e before g).0 (checked opening e before (run_before opening w r)) why.NoGuardian))))
  where
    There : Performed → Type 0
    There o = IsGuardian opening o.object.guardian

-- ---- runs that stopped

-- what they leave: the numbers and contents with which the next begins, and replies
record IsLeft (lives : List Life) (next : Opening) : Type 0 where
  pub numbered : IsNumbered next
  pub contents : AreAlike next (first_content next) (store_after (first_content (first_opening lives next)) (seen_through lives))
  pub replies : replayed (first_content (first_opening lives next)) (seen_through lives) ≡ replies_given (seen_through lives)

-- the next goes on serially
goes_on : (lives : List Life) (next : Opening) (later : List Event) (a : Name) → IsLeft lives next → IsRun next later → is_orphan a later ≡ false
    → replayed (first_content (first_opening lives next)) (seen_through lives ++ visible_by_place a later)
    ≡ replies_given (seen_through lives ++ visible_by_place a later)
goes_on lives next later a left r free =
    replayed_append (first_content (first_opening lives next)) (seen_through lives) (visible_by_place a later)
    ∙ ap₂ (λ rs qs. rs ++ qs) left.replies
    (exchanges_leave_replies begun (visible_by_grant a later) (visible_by_place a later) (grant_to_place next later r a free)
    (sym (alike_replies next (first_content next) begun (visible_by_grant a later) left.contents (seen_there next later a r))
    ∙ serial_by_grant next later a here r free))
    ∙ sym (given_append (seen_through lives) (visible_by_place a later))
  where
    begun : Store
    begun = store_after (first_content (first_opening lives next)) (seen_through lives)

-- and so on
are_left : (lives : List Life) (next : Opening) → AreLives lives next → IsLeft lives next
are_left [] next h = record { numbered = h; contents = λ x there. refl; replies = refl }
are_left (l ∷ older) next h = one l older next h (are_left older l.opening h.4)
  where
    one : (l : Life) (older : List Life) (next : Opening) → AreLives (l ∷ older) next → IsLeft older l.opening → IsLeft (l ∷ older) next
    one l older next h left = record {
      numbered = stays_numbered l.opening next l.past left.numbered h.1 h.0;
      contents = contents;
      replies = goes_on older l.opening l.past l.last left h.1 free;
    }
      where
        free : is_orphan l.last l.past ≡ false
        free = no_orphan l.opening l.past h.1 l.last h.2 h.3

        begun : Store
        begun = store_after (first_content (first_opening older l.opening)) (seen_through older)

        by_place : (s : Store) (x : ObjectId) → store_after s (visible_by_grant l.last l.past) x ≡ store_after s (visible_by_place l.last l.past) x
        by_place s x =
            exchanges_leave_contents s (visible_by_grant l.last l.past) (visible_by_place l.last l.past)
            (grant_to_place l.opening l.past h.1 l.last free) x

        contents : AreAlike next (first_content next) (store_after (first_content (first_opening older l.opening)) (seen_through older ++ visible_by_place l.last l.past))
        contents x there =
            let before = in_opening h.0 x.guardian there in
            opens_with_what_was_seen l.opening next l.past x l.last left.numbered h.1 h.0 before h.2 h.3
            ∙ sym (by_place (first_content l.opening) x)
            ∙ alike_left l.opening (first_content l.opening) begun (visible_by_grant l.last l.past) left.contents (seen_there l.opening l.past l.last h.1) x before
            ∙ by_place begun x
            ∙ sym (ap (λ s. s x) (left_append (first_content (first_opening older l.opening)) (seen_through older) (visible_by_place l.last l.past)))

-- the laws

pub serial_through_stops : SerialThroughStops
serial_through_stops lives next later a h r free = goes_on lives next later a (are_left lives next h) r free

pub contents_through_stops : ContentsThroughStops
contents_through_stops lives next x h there = (are_left lives next h).contents x there
