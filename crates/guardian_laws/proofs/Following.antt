-- A store follows its guardian's history, event by event.
use Rattle.std.proofs.Common.{Bool, List, None, Option, Some, [], ap, ap₂, arith, cond, false, filter, is_some, length, max, option_map, refl, subst, suc, sym, true, ℕ, ◌&&◌, ◌+◌, ◌==◌, ◌∙◌, ◌∷◌, ◌≡◌, ◌||◌}
use Rattle.std.proofs.lemmas.Bool.{and_from, and_parts, eqb-true, false≢true}
use Rattle.std.specs.Cmp.{nat_cmp_total, unsigned_tied}
use Rattle.std.specs.FinMap as map
use Rattle.std.specs.FinSet as set
use Rattle.std.specs.List.{list_any}
use Rattle.std.specs.Ordering.{nat_cmp}
use Rattle.action_names.specs.Names.{Name, is_top, last_of, same_name}
use Rattle.atomic_types.specs.declared.part.Part.{Part}
use Rattle.run_model.specs.declared.answer.Answer.{Answer}
use Rattle.run_model.specs.declared.answer.Answer.TheVariants.{Began, Done, Granted, Refused, VoteNo, VoteYes, Waits}
use Rattle.run_model.specs.declared.history.Event.{Event}
use Rattle.run_model.specs.declared.step.ObjectId.{ObjectId}
use Rattle.run_model.specs.declared.step.Step.{Step}
use Rattle.run_model.specs.declared.step.Step.TheVariants.{Abort, Arms, Call, Close, Commit, Crash, Decide, NestedTop, Op, Prepare, Recover, Tell, Top}
use Rattle.run_model.specs.Actions.{step_recovers}
use Rattle.run_model.specs.LocalReadings.{Carried, LocalEvent, events_here, or_zero, outcome_in, prepared_here, says_committed, stable_base_here, standing_here}
use Rattle.run_model.specs.Openings.{Opening, first_content, objects_at, part_at}
use Rattle.run_model.specs.StableContent.{Prepared, installed_over, part_in, parts_by, stable_next_top, step_decides, step_told}
use Rattle.run_model.specs.Versions.{part_held}
use Rattle.run_model.specs.Visibility.{votes_yes}
use Rattle.stable_store.specs.Stored.{Stored, after_bump, after_discard, after_install, after_prepare, installed}
use Rattle.run_laws.proofs.Names.{same_name_self, same_name_true}
use Rattle.local_laws.specs.Reopened.{AreRising}
use Rattle.guardian_laws.specs.Outcomes.{AgreesOnVotes}
use Rattle.guardian_laws.specs.Stored.{AreStored, after_event, has_record, record_of}
use Rattle.guardian_laws.specs.StoreLaws.{NothingIsStored, StoreFollows}
use Rattle.guardian_laws.proofs.Laid.{laid_at, put_at, read_rises, taken_at, turned}

or_false : (b : Bool) → b ≡ (b || false)
or_false true = refl
or_false false = refl

pub nothing_is_stored : NothingIsStored
nothing_is_stored opening g s b p d c t = record {
  base = b;
  prepared = λ n. ap (λ m. map.get m n) p ∙ map.get-empty nat_cmp n;
  decided = λ n. d n ∙ or_false ((opening.stores g).decided (n ∷ []));
  count = let e : (opening.stores g).count ≡ (opening.stores g).count + 0 = omega arith in c ∙ e;
  next_top = t;
  tops = λ a h. absurd (false≢true h);
}

-- the parts of every record rise
record_rises : (opening : Opening) (g : ℕ) (t : Name) (here : List LocalEvent) (p : Prepared) → prepared_here opening g t here ≡ Some p → AreRising 0 p.parts
record_rises opening g t [] p h = absurd (let e : ◌≡◌ {A = Option Prepared} None (Some p) = h in cc)
record_rises opening g t (c ∷ here) p h = of (votes_yes c.event.step c.event.answer g t) (step_told c.event.step g t) h (record_rises opening g t here p)
  where
    held : Prepared
    held = record { home = or_zero c.carried.sender; parts = parts_by opening g (λ x. standing_here (c ∷ here) x) t }

    object : ℕ → ObjectId
    object n = record { guardian = g; number = n }

    all : AreRising 0 held.parts
    all = read_rises (λ n. part_held (first_content opening (object n)) (standing_here (c ∷ here) (object n)) t) (length (objects_at opening.setup g))

    of : (u v : Bool) → cond u (Some held) (cond v None (prepared_here opening g t here)) ≡ Some p
        → (prepared_here opening g t here ≡ Some p → AreRising 0 p.parts) → AreRising 0 p.parts
    of true v k ih =
        let e : ◌≡◌ {A = Option Prepared} (Some held) (Some p) = k in
        let same : held ≡ p = cc in
        subst (λ (q : Prepared). AreRising 0 q.parts) same all
    of false true k ih = absurd (let e : ◌≡◌ {A = Option Prepared} None (Some p) = k in cc)
    of false false k ih = ih k

abbrev event_of : ℕ → Step → Answer → Carried → LocalEvent
event_of n step answer m = record { stamp = n; event = record { step = step; answer = answer }; carried = m }

and_false : (b : Bool) → false ≡ (b && false)
and_false true = refl
and_false false = refl

-- one put among those found, and one taken from them
put_in : {X Y : Type 0} (f : X → Y) (x : X) (o : Option X) (b : Bool)
    → cond b (Some (f x)) (option_map f o) ≡ option_map f (cond (b && true) (Some x) o)
put_in f x o true = refl
put_in f x o false = refl

taken_in : {X Y : Type 0} (f : X → Y) (o : Option X) (b : Bool) → cond b None (option_map f o) ≡ option_map f (cond (b && true) None o)
taken_in f o true = refl
taken_in f o false = refl

-- what is taken that was not there leaves all as it was
none_taken : {X : Type 0} (b : Bool) (o : Option X) → (b ≡ true → o ≡ None) → o ≡ cond b None o
none_taken true o h = h refl
none_taken false o h = refl

still_there : {X : Type 0} (b : Bool) (o : Option X) → is_some (cond b None o) ≡ true → is_some o ≡ true
still_there true o h = absurd (false≢true h)
still_there false o h = h

none_installed : (b : Bool) (o : Option Part) → o ≡ installed_over (cond b None None) o
none_installed true o = refl
none_installed false o = refl

module _ (opening : Opening) (g : ℕ) (here : List LocalEvent) (s : Stored) (h : AreStored opening g here s) (stamp : ℕ) (carried : Carried) where
  abbrev Follows : Step → Answer → Type 0
  Follows step answer =
      AreStored opening g (event_of stamp step answer carried ∷ here) (after_event opening g (event_of stamp step answer carried) here s)

  -- a recovery is counted
  recovers : (k : ℕ) (answer : Answer) → Follows (Recover k) answer
  recovers k answer = of (k == g) refl
    where
      past : List Event
      past = filter (λ e. step_recovers e.step g) (events_here here)

      event : Event
      event = record { step = Recover k; answer = answer }

      of : (t : Bool) → (k == g) ≡ t → AreStored opening g (event_of stamp (Recover k) answer carried ∷ here) (cond t (after_bump s) s)
      of true e = record {
        base = h.base;
        prepared = h.prepared;
        decided = h.decided;
        count =
            let before : s.count ≡ (opening.stores g).count + length past = h.count in
            let more : s.count + 1 ≡ (opening.stores g).count + suc (length past) = omega arith in
            more ∙ ap (λ t. (opening.stores g).count + length (cond t (event ∷ past) past)) (sym e);
        next_top = h.next_top;
        tops = h.tops;
      }
      of false e = record {
        base = h.base;
        prepared = h.prepared;
        decided = h.decided;
        count = h.count ∙ ap (λ t. (opening.stores g).count + length (cond t (event ∷ past) past)) (sym e);
        next_top = h.next_top;
        tops = h.tops;
      }

  -- a decision is kept
  decides : (t : Name) (answer : Answer) → Follows (Decide t) answer
  decides [] answer = record { base = h.base; prepared = h.prepared; decided = h.decided; count = h.count; next_top = h.next_top; tops = h.tops }
  decides (m ∷ []) answer = record {
    base = h.base;
    prepared = h.prepared;
    decided = λ n.
        set.contains-insert nat_cmp_total s.decided m n
        ∙ ap₂ ◌||◌ (unsigned_tied n m ∙ turned n m) (h.decided n)
        ∙ between (m == n) ((opening.stores g).decided (n ∷ [])) (list_any (λ c. step_decides c.event.step (n ∷ [])) here);
    count = h.count;
    next_top = h.next_top;
    tops = h.tops;
  }
    where
      between : (a b c : Bool) → (a || (b || c)) ≡ (b || ((a && true) || c))
      between true true c = refl
      between true false c = refl
      between false b c = refl
  decides (m ∷ k ∷ t) answer = record {
    base = h.base;
    prepared = h.prepared;
    decided = λ n.
        h.decided n
        ∙ ap (λ b. (opening.stores g).decided (n ∷ []) || (b || list_any (λ c. step_decides c.event.step (n ∷ [])) here)) (and_false (m == n));
    count = h.count;
    next_top = h.next_top;
    tops = h.tops;
  }

  -- a yes vote elsewhere asks for nothing
  module _ (k : ℕ) (t : Name) (v : AgreesOnVotes g (event_of stamp (Prepare k t) VoteYes carried)) where
    abbrev voted : LocalEvent
    voted = event_of stamp (Prepare k t) VoteYes carried

    abbrev held : Name → Prepared
    held a = record { home = or_zero carried.sender; parts = parts_by opening g (λ x. standing_here (voted ∷ here) x) a }

    abbrev after : Stored
    after = after_prepare (last_of t) (or_zero carried.sender) (held t).parts s

    voted_elsewhere : (k == g) ≡ false → AreStored opening g (voted ∷ here) s
    voted_elsewhere e = record {
      base = h.base;
      prepared = λ n.
          h.prepared n
          ∙ ap (λ b. option_map record_of (cond (b && same_name t (n ∷ [])) (Some (held (n ∷ []))) (prepared_here opening g (n ∷ []) here))) (sym e);
      decided = h.decided;
      count = h.count;
      next_top =
          h.next_top
          ∙ ap (λ b. cond b (max (stable_next_top opening g (events_here here)) (suc (last_of t))) (stable_next_top opening g (events_here here))) (sym e);
      tops = λ a q.
          h.tops a (sym (ap (λ b. is_some (cond (b && same_name t a) (Some (held a)) (prepared_here opening g a here))) e) ∙ q);
    }

    tops_still : (a : Name) → is_some (prepared_here opening g a (voted ∷ here)) ≡ true → is_top a ≡ true
    tops_still a = of ((k == g) && same_name t a) refl
      where
        of : (b : Bool) → ((k == g) && same_name t a) ≡ b → is_some (cond b (Some (held a)) (prepared_here opening g a here)) ≡ true → is_top a ≡ true
        of true e q = v.top a e
        of false e q = h.tops a q

    -- one here prepares
    voted_here : (m : ℕ) → t ≡ m ∷ [] → (k == g) ≡ true → AreStored opening g (voted ∷ here) after
    voted_here m top e = record {
      base = h.base;
      prepared = λ n.
          put_at s.prepared (last_of t) n (record_of (held t))
          ∙ ap (λ o. cond (last_of t == n) (Some (record_of (held t))) o) (h.prepared n)
          ∙ found n;
      decided = h.decided;
      count = h.count;
      next_top =
          let one : last_of t + 1 ≡ suc (last_of t) = omega arith in
          ap₂ max h.next_top one
          ∙ ap (λ b. cond b (max (stable_next_top opening g (events_here here)) (suc (last_of t))) (stable_next_top opening g (events_here here))) (sym e);
      tops = tops_still;
    }
      where
        old : ℕ → Option Prepared
        old n = prepared_here opening g (n ∷ []) here

        named : (n : ℕ) → (m == n) ≡ true → m ∷ [] ≡ n ∷ []
        named n q = ap (λ j. j ∷ []) (eqb-true m n q)

        pick : (n : ℕ) (b : Bool) → (m == n) ≡ b
            → cond b (Some (record_of (held (m ∷ [])))) (option_map record_of (old n)) ≡ option_map record_of (cond (b && true) (Some (held (n ∷ []))) (old n))
        pick n true q = ap (λ a. Some (record_of (held a))) (named n q)
        pick n false q = refl

        found : (n : ℕ) → cond (last_of t == n) (Some (record_of (held t))) (option_map record_of (old n))
            ≡ option_map record_of (cond ((k == g) && same_name t (n ∷ [])) (Some (held (n ∷ []))) (old n))
        found n =
            ap (λ a. cond (last_of a == n) (Some (record_of (held a))) (option_map record_of (old n))) top
            ∙ pick n (m == n) refl
            ∙ ap (λ b. option_map record_of (cond (b && ((m == n) && true)) (Some (held (n ∷ []))) (old n))) (sym e)
            ∙ ap (λ a. option_map record_of (cond ((k == g) && same_name a (n ∷ [])) (Some (held (n ∷ []))) (old n))) (sym top)

  votes : (k : ℕ) (t : Name) → AgreesOnVotes g (event_of stamp (Prepare k t) VoteYes carried) → Follows (Prepare k t) VoteYes
  votes k t v = of (k == g) refl
    where
      ends : (u : Bool) → (k == g) ≡ u → AreStored opening g (event_of stamp (Prepare k t) VoteYes carried ∷ here) (cond u (after k t v) s)
      ends false e = voted_elsewhere k t v e
      ends true e = top t refl (v.top t (and_from _ _ e (same_name_self t)))
        where
          top : (a : Name) → t ≡ a → is_top a ≡ true → AreStored opening g (event_of stamp (Prepare k t) VoteYes carried ∷ here) (after k t v)
          top [] q i = absurd (false≢true i)
          top (m ∷ []) q i = voted_here k t v m q e
          top (m ∷ j ∷ a) q i = absurd (false≢true i)

      both : (u w : Bool) → w ≡ true → u ≡ (u && w)
      both true w q = sym q
      both false w q = refl

      of : (u : Bool) → (k == g) ≡ u → Follows (Prepare k t) VoteYes
      of u e =
          subst (λ b. AreStored opening g (event_of stamp (Prepare k t) VoteYes carried ∷ here) (cond b (after k t v) s))
          (both (k == g) (same_name t t) (same_name_self t)) (ends (k == g) refl)

  -- a telling
  module _ (k : ℕ) (a : Name) (answer : Answer) where
    abbrev told : LocalEvent
    told = event_of stamp (Tell k a) answer carried

    abbrev says : Bool
    says = says_committed (outcome_in carried.outcomes a)

    abbrev old_base : ℕ → Option Part
    old_base n = stable_base_here opening g n here

    abbrev old : Name → Option Prepared
    old b = prepared_here opening g b here

    -- what was not here, or has no record, changes nothing
    tops_after : (b : Name) → is_some (prepared_here opening g b (told ∷ here)) ≡ true → is_top b ≡ true
    tops_after b q = h.tops b (still_there ((k == g) && same_name a b) (old b) q)

    told_elsewhere : (k == g) ≡ false → AreStored opening g (told ∷ here) s
    told_elsewhere e = record {
      base = λ n. h.base n ∙ ap (λ b. installed_over (cond (b && says) (part_in (old a) n) None) (old_base n)) (sym e);
      prepared = λ n. h.prepared n ∙ ap (λ b. option_map record_of (cond (b && same_name a (n ∷ [])) None (old (n ∷ [])))) (sym e);
      decided = h.decided;
      count = h.count;
      next_top = h.next_top;
      tops = tops_after;
    }

    told_without : old a ≡ None → AreStored opening g (told ∷ here) s
    told_without none = record {
      base = λ n.
          h.base n ∙ none_installed ((k == g) && says) (old_base n)
          ∙ ap (λ o. installed_over (cond ((k == g) && says) (part_in o n) None) (old_base n)) (sym none);
      prepared = λ n. h.prepared n ∙ ap (λ o. option_map record_of o) (none_taken ((k == g) && same_name a (n ∷ [])) (old (n ∷ [])) (gone n));
      decided = h.decided;
      count = h.count;
      next_top = h.next_top;
      tops = tops_after;
    }
      where
        gone : (n : ℕ) → ((k == g) && same_name a (n ∷ [])) ≡ true → old (n ∷ []) ≡ None
        gone n q = subst (λ b. old b ≡ None) (same_name_true a (n ∷ []) (and_parts (k == g) (same_name a (n ∷ [])) q).1) none

    -- who has a record is taken from the prepared
    taken : (m : ℕ) → a ≡ m ∷ [] → (k == g) ≡ true → (n : ℕ)
        → map.get (map.remove s.prepared m) n ≡ option_map record_of (cond ((k == g) && same_name a (n ∷ [])) None (old (n ∷ [])))
    taken m top e n =
        taken_at s.prepared m n ∙ ap (λ o. cond (m == n) None o) (h.prepared n) ∙ taken_in record_of (old (n ∷ [])) (m == n)
        ∙ ap (λ b. option_map record_of (cond (b && ((m == n) && true)) None (old (n ∷ [])))) (sym e)
        ∙ ap (λ c. option_map record_of (cond ((k == g) && same_name c (n ∷ [])) None (old (n ∷ [])))) (sym top)

    told_committed : (m : ℕ) (p : Prepared) → a ≡ m ∷ [] → (k == g) ≡ true → old a ≡ Some p → says ≡ true
        → AreStored opening g (told ∷ here) (after_install m s)
    told_committed m p top e q c = record {
      base = λ n.
          ap (λ o. map.get (installed o s.base) n) stored
          ∙ laid_at p.parts 0 s.base n (record_rises opening g a here p q)
          ∙ ap (λ o. installed_over (part_at p.parts n) o) (h.base n)
          ∙ ap (λ o. installed_over (part_in o n) (old_base n)) (sym q)
          ∙ ap (λ b. installed_over (cond b (part_in (old a) n) None) (old_base n)) (sym (and_from (k == g) says e c));
      prepared = taken m top e;
      decided = h.decided;
      count = h.count;
      next_top = h.next_top;
      tops = tops_after;
    }
      where
        stored : map.get s.prepared m ≡ Some (record_of p)
        stored = h.prepared m ∙ ap (λ b. option_map record_of (old b)) (sym top) ∙ ap (λ o. option_map record_of o) q

    told_aborted : (m : ℕ) → a ≡ m ∷ [] → (k == g) ≡ true → says ≡ false → AreStored opening g (told ∷ here) (after_discard m s)
    told_aborted m top e c = record {
      base = λ n. h.base n ∙ ap (λ b. installed_over (cond b (part_in (old a) n) None) (old_base n)) (sym (neither (k == g) says c));
      prepared = taken m top e;
      decided = h.decided;
      count = h.count;
      next_top = h.next_top;
      tops = tops_after;
    }
      where
        neither : (x y : Bool) → y ≡ false → (x && y) ≡ false
        neither true y n = n
        neither false y n = refl

    abbrev settled : ℕ → Bool → Stored
    settled m c = cond c (after_install m s) (after_discard m s)

    told_top : (m : ℕ) → a ≡ m ∷ [] → (k == g) ≡ true → (o : Option Prepared) → old a ≡ o
        → AreStored opening g (told ∷ here) (cond (is_some o) (settled m says) s)
    told_top m top e None q = told_without q
    told_top m top e (Some p) q = of says refl
      where
        of : (c : Bool) → says ≡ c → AreStored opening g (told ∷ here) (settled m c)
        of true c = told_committed m p top e q c
        of false c = told_aborted m top e c

    -- only top actions have records
    no_record : is_top a ≡ false → old a ≡ None
    no_record q = of (old a) refl
      where
        of : (o : Option Prepared) → old a ≡ o → old a ≡ None
        of None e = e
        of (Some p) e = absurd (false≢true (sym q ∙ h.tops a (ap is_some e)))

  tells : (k : ℕ) (a : Name) (answer : Answer) → Follows (Tell k a) answer
  tells k a answer = of (k == g) refl
    where
      some_same : {X Y : Type 0} (f : X → Y) (o : Option X) → is_some o ≡ is_some (option_map f o)
      some_same f None = refl
      some_same f (Some x) = refl

      by_name : (b : Name) → a ≡ b → (k == g) ≡ true
          → AreStored opening g (told k a answer ∷ here) (cond (has_record s b) (settled k a answer (last_of b) (says k a answer)) s)
      by_name [] q e = told_without k a answer (no_record k a answer (ap is_top q))
      by_name (m ∷ []) q e =
          subst (λ t. AreStored opening g (told k a answer ∷ here) (cond t (settled k a answer m (says k a answer)) s))
          (some_same record_of (prepared_here opening g a here) ∙ ap (λ b. is_some (option_map record_of (prepared_here opening g b here))) q ∙ ap is_some (sym (h.prepared m)))
          (told_top k a answer m q e (prepared_here opening g a here) refl)
      by_name (m ∷ j ∷ b) q e = told_without k a answer (no_record k a answer (ap is_top q))

      of : (t : Bool) → (k == g) ≡ t
          → AreStored opening g (told k a answer ∷ here) (cond (t && has_record s a) (settled k a answer (last_of a) (says k a answer)) s)
      of true e = by_name a refl e
      of false e = told_elsewhere k a answer e

  follows : (step : Step) (answer : Answer) → AgreesOnVotes g (event_of stamp step answer carried) → Follows step answer
  follows (Prepare k t) VoteYes v = votes k t v
  follows (Prepare k t) VoteNo v = record { base = h.base; prepared = h.prepared; decided = h.decided; count = h.count; next_top = h.next_top; tops = h.tops }
  follows (Prepare k t) (Began names) v = record { base = h.base; prepared = h.prepared; decided = h.decided; count = h.count; next_top = h.next_top; tops = h.tops }
  follows (Prepare k t) (Granted r) v = record { base = h.base; prepared = h.prepared; decided = h.decided; count = h.count; next_top = h.next_top; tops = h.tops }
  follows (Prepare k t) (Waits names) v = record { base = h.base; prepared = h.prepared; decided = h.decided; count = h.count; next_top = h.next_top; tops = h.tops }
  follows (Prepare k t) (Done n) v = record { base = h.base; prepared = h.prepared; decided = h.decided; count = h.count; next_top = h.next_top; tops = h.tops }
  follows (Prepare k t) (Refused why) v = record { base = h.base; prepared = h.prepared; decided = h.decided; count = h.count; next_top = h.next_top; tops = h.tops }
  follows (Tell k a) answer v = tells k a answer
  follows (Decide t) answer v = decides t answer
  follows (Recover k) answer v = recovers k answer
  follows (Top k) answer v = record { base = h.base; prepared = h.prepared; decided = h.decided; count = h.count; next_top = h.next_top; tops = h.tops }
  follows (NestedTop a) answer v = record { base = h.base; prepared = h.prepared; decided = h.decided; count = h.count; next_top = h.next_top; tops = h.tops }
  follows (Call a k) answer v = record { base = h.base; prepared = h.prepared; decided = h.decided; count = h.count; next_top = h.next_top; tops = h.tops }
  follows (Arms a kinds) answer v = record { base = h.base; prepared = h.prepared; decided = h.decided; count = h.count; next_top = h.next_top; tops = h.tops }
  follows (Op a x wanted) answer v = record { base = h.base; prepared = h.prepared; decided = h.decided; count = h.count; next_top = h.next_top; tops = h.tops }
  follows (Commit a) answer v = record { base = h.base; prepared = h.prepared; decided = h.decided; count = h.count; next_top = h.next_top; tops = h.tops }
  follows (Close t) answer v = record { base = h.base; prepared = h.prepared; decided = h.decided; count = h.count; next_top = h.next_top; tops = h.tops }
  follows (Abort a) answer v = record { base = h.base; prepared = h.prepared; decided = h.decided; count = h.count; next_top = h.next_top; tops = h.tops }
  follows (Crash k) answer v = record { base = h.base; prepared = h.prepared; decided = h.decided; count = h.count; next_top = h.next_top; tops = h.tops }

pub store_follows : StoreFollows
store_follows opening g c here s h v = follows opening g here s h c.stamp c.carried c.event.step c.event.answer v
