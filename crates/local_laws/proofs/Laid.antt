-- What is installed of an object, laid on its content at the setup, is its base; and records say what their top actions hold.
use Rattle.std.proofs.Common.{Bool, List, None, Option, Some, [], ap, ap₂, cond, false, filter, filter_map, inl, inr, length, option_map, refl, subst, sym, true, ℕ, ◌&&◌, ◌<◌, ◌==◌, ◌∙◌, ◌∷◌, ◌≡◌, ◌≤◌, ◌||◌}
use Rattle.std.proofs.lemmas.Bool.{and_from, and_parts, eq-eqb, eqb-true, false_from_ne_true, false≢true, or_cases, or_left, or_parts, true_from_ne_false}
use Rattle.std.proofs.lemmas.List.Elements.{filter_agree}
use Rattle.std.specs.List.{list_any}
use Rattle.action_names.specs.Names.{Name, is_top, same_name}
use Rattle.values.specs.declared.content.Content.{Content}
use Rattle.atomic_types.specs.declared.part.Part.{Part}
use Rattle.atomic_types.specs.Objects.{knows}
use Rattle.atomic_types.specs.Operations.{is_write}
use Rattle.atomic_types.specs.Parts.{laid_where}
use Rattle.run_model.specs.declared.history.Event.{Event}
use Rattle.run_model.specs.declared.step.ObjectId.{ObjectId}
use Rattle.run_model.specs.declared.step.Step.{Step}
use Rattle.run_model.specs.declared.step.Step.TheVariants.{Tell}
use Rattle.run_model.specs.Actions.{home_of, is_begun, is_committed, is_ended}
use Rattle.run_model.specs.Keeping.{Performed, is_kept, kept_on, performed, same_object, standing_of}
use Rattle.run_model.specs.Lists.{up_to}
use Rattle.run_model.specs.Openings.{Opening, first_content, objects_at, set_up}
use Rattle.run_model.specs.Replay.{left_of}
use Rattle.run_model.specs.Runs.{IsRun}
use Rattle.run_model.specs.StableContent.{Prepared, installed_by, installed_over, part_in, parts_held, stable_base, stable_prepared, step_told}
use Rattle.run_model.specs.Telling.{holder_by, told_committed, told_since_crash}
use Rattle.run_model.specs.Versions.{base_of, part_held, version_by}
use Rattle.run_model.specs.Visibility.{has_prepared, votes_yes}
use Rattle.run_laws.proofs.Each.{Each, each_map}
use Rattle.run_laws.proofs.Ended.{closed_begun}
use Rattle.run_laws.proofs.Exchanged.{same_object_true}
use Rattle.run_laws.proofs.Granted.{each_performed}
use Rattle.run_laws.proofs.Growth.{run_before}
use Rattle.run_laws.proofs.Homes.{home_more}
use Rattle.run_laws.proofs.Kept.{prepared_closed}
use Rattle.run_laws.proofs.Names.{clash, same_name_self, same_name_true}
use Rattle.run_laws.proofs.NothingLost.{yes_facts}
use Rattle.local_laws.specs.Bases.{BasesAreLaid, RecordsAreHeld}
use Rattle.local_laws.proofs.Based.{all_granted, base_moves, base_stays, held_no_more, held_same, none_pass, told_next, version_same}
use Rattle.local_laws.proofs.Beside.{alone_beside, exactly}
use Rattle.local_laws.proofs.Numbered.{read_at}
use Rattle.local_laws.proofs.Orderly.{holder_is}
use Rattle.local_laws.proofs.Outcomes.{told_has_ended}
use Rattle.local_laws.proofs.Prepared.{granted_known, granted_number, top_told}
use Rattle.local_laws.proofs.Waiting.{runs_are_orderly}
use Rattle.local_laws.proofs.Written.{held_by, held_laid, held_of, in_base, is_held, laid_over, left_writing, part_is_held, same_held, standing, version_is, writing}

-- what was voted for is a top action
prepared_top : (opening : Opening) (past : List Event) (g : ℕ) (t : Name) → IsRun opening past → has_prepared g t past ≡ true → is_top t ≡ true
prepared_top opening [] g t r h = absurd (false≢true h)
prepared_top opening (e ∷ past) g t r h = elim (or_cases _ _ h) [
  | inl k ↦ (yes_facts opening e past g t r k).top
  | inr k ↦ prepared_top opening past g t r.2 k
]

-- the same writes and adds leave the same content
same_left : (c : Content) (os ps : List Performed) → writing os ≡ writing ps → left_of c os ≡ left_of c ps
same_left c os ps e = sym (left_writing c os) ∙ ap (λ qs. left_of c qs) e ∙ left_writing c ps

-- nothing passes
no_one : (os : List Performed) → filter (λ o. false) os ≡ []
no_one [] = refl
no_one (o ∷ os) = no_one os

-- who was told committed holds nothing
told_holds_none : (c : Content) (told : Name → Bool) (os : List Performed) (t : Name) → told t ≡ true → part_held c (standing told os) t ≡ None
told_holds_none c told os t h =
    part_is_held c told os t
    ∙ ap (λ ps. held_of (version_by c (standing told os) t) ps) (filter_agree (is_held told t) (λ o. false) not_held os ∙ no_one os)
  where
    not_held : (o : Performed) → is_held told t o ≡ false
    not_held o = false_from_ne_true _ (λ k. clash h (holder_is told o.action t (exactly (holder_by told o.action) t k)).1)

-- on an object that the guardian has not, nothing is kept
none_kept_outside : (opening : Opening) (past : List Event) (x : ObjectId) → IsRun opening past
    → (0 < x.number → x.number ≤ length (objects_at opening.setup x.guardian) → ⊥) → kept_on x past ≡ []
none_kept_outside opening past x r out =
    none_pass (λ o. same_object o.object x && is_kept o past) (performed past)
    (each_performed past _ (λ o e before p w. false_from_ne_true _ (λ h.
    let n = granted_number opening o e before (run_before opening w r) p in
    let on = same_object_true o.object x (and_parts _ _ h).0 in
    let m = subst (λ (y : ObjectId). (0 < y.number) × (y.number ≤ length (objects_at opening.setup y.guardian))) on n in
    out m.0 m.1)))

-- ---- one event

module _ (opening : Opening) (e : Event) (past : List Event) (r : IsRun opening (e ∷ past)) (x : ObjectId) (t : Name) (top : is_top t ≡ true)
    (voted : has_prepared x.guardian t past ≡ true) where
  abbrev c : Content
  c = first_content opening x

  abbrev told : Name → Bool
  told b = told_committed x.guardian b past

  abbrev told_then : Name → Bool
  told_then b = told_committed x.guardian b (e ∷ past)

  abbrev os : List Performed
  os = kept_on x past

  abbrev ps : List Performed
  ps = kept_on x (e ∷ past)

  -- until it is told the outcome of what it has voted for, that holds what it held
  pub holds_on : step_told e.step x.guardian t ≡ false
      → part_held (first_content opening x) (standing_of x (e ∷ past)) t ≡ part_held (first_content opening x) (standing_of x past) t
  holds_on s = by (told t) refl
    where
      by : (u : Bool) → told t ≡ u → part_held c (standing_of x (e ∷ past)) t ≡ part_held c (standing_of x past) t
      by true q =
          told_holds_none c told_then ps t (told_next opening e past x.guardian t r ∙ or_left _ _ q) ∙ sym (told_holds_none c told os t q)
      by false q =
          part_is_held c told_then ps t
          ∙ same_held (version_by c (standing told_then ps) t) (version_by c (standing told os) t) (held_by told_then t ps) (held_by told t os)
          (held_same opening e past r x t top voted s untold) versions
          ∙ sym (part_is_held c told os t)
        where
          untold : told_then t ≡ false
          untold =
              told_next opening e past x.guardian t r
              ∙ ap₂ (λ a b. a || (b && is_committed t past)) q (top_told e.step x.guardian t (told_since_crash x.guardian t past) (is_ended t past) top ∙ s)

          versions : list_any (λ o. is_write o.operation) (held_by told t os) ≡ true
              → version_by c (standing told_then ps) t ≡ version_by c (standing told os) t
          versions w =
              version_is c told_then ps t top
              ∙ same_left c (filter (λ o. in_base told_then o || is_held told_then t o) ps) (filter (λ o. in_base told o || is_held told t o) os)
              (version_same opening e past r x t top voted s untold (alone_beside told t top os (runs_are_orderly opening past x r.2) w))
              ∙ sym (version_is c told os t top)

  -- once it is, nothing
  pub holds_no_more : step_told e.step x.guardian t ≡ true → part_held (first_content opening x) (standing_of x (e ∷ past)) t ≡ None
  holds_no_more s =
      let ended = told_has_ended opening e past x.guardian t r (top_told e.step x.guardian t (told_since_crash x.guardian t past) (is_ended t past) top ∙ s) in
      let version = version_by c (standing told_then ps) t in
      part_is_held c told_then ps t
      ∙ same_held version version (held_by told_then t ps) [] (held_no_more opening e past r x t top voted s ended ∙ ap writing (no_one os)) (λ w. refl)

-- ---- records

-- a record's part of an object is what its top action holds of it
held_record : (opening : Opening) (past : List Event) (x : ObjectId) (t : Name) → IsRun opening past → has_prepared x.guardian t past ≡ true
    → part_in (stable_prepared opening x.guardian t past) x.number ≡ part_held (first_content opening x) (standing_of x past) t
held_record opening [] x t r h = absurd (false≢true h)
held_record opening (e ∷ past) x t r h =
    of (votes_yes e.step e.answer x.guardian t) (step_told e.step x.guardian t) refl h (λ k. held_record opening past x t r.2 k)
  where
    now : Option Part
    now = part_held (first_content opening x) (standing_of x (e ∷ past)) t

    read : Option Prepared
    read = Some (record { home = home_of t past; parts = parts_held opening x.guardian t (e ∷ past) })

    of : (v s : Bool) → step_told e.step x.guardian t ≡ s → (v || has_prepared x.guardian t past) ≡ true
        → (has_prepared x.guardian t past ≡ true
        → part_in (stable_prepared opening x.guardian t past) x.number ≡ part_held (first_content opening x) (standing_of x past) t)
        → part_in (cond v read (cond s None (stable_prepared opening x.guardian t past))) x.number ≡ now
    of true s q k ih =
        read_at (λ n. part_held (first_content opening (record { guardian = x.guardian; number = n })) (standing_of (record { guardian = x.guardian; number = n }) (e ∷ past)) t)
        (length (objects_at opening.setup x.guardian)) x.number
        (λ out. ap (λ os. part_held (first_content opening x) (standing (λ b. told_committed x.guardian b (e ∷ past)) os) t) (none_kept_outside opening (e ∷ past) x r out)
        ∙ part_is_held (first_content opening x) (λ b. told_committed x.guardian b (e ∷ past)) [] t)
    of false true q k ih = sym (holds_no_more opening e past r x t (prepared_top opening past x.guardian t r.2 k) k q)
    of false false q k ih = ih k ∙ sym (holds_on opening e past r x t (prepared_top opening past x.guardian t r.2 k) k q)

-- with no vote there is no record
none_unvoted : (opening : Opening) (past : List Event) (g : ℕ) (t : Name) → has_prepared g t past ≡ false → stable_prepared opening g t past ≡ None
none_unvoted opening [] g t h = refl
none_unvoted opening (e ∷ past) g t h =
    of (votes_yes e.step e.answer g t) (or_parts _ _ h).0 (step_told e.step g t) (none_unvoted opening past g t (or_parts _ _ h).1)
  where
    read : Option Prepared
    read = Some (record { home = home_of t past; parts = parts_held opening g t (e ∷ past) })

    of : (v : Bool) → v ≡ false → (s : Bool) → stable_prepared opening g t past ≡ None
        → cond v read (cond s None (stable_prepared opening g t past)) ≡ None
    of true q s ih = absurd (false≢true (sym q))
    of false q true ih = refl
    of false q false ih = ih

-- a record of these
abbrev made : ℕ → List (ℕ × Part) → Prepared
made home parts = record { home = home; parts = parts }

-- the law
pub records_are_held : RecordsAreHeld
records_are_held opening [] g t p r h = absurd (none h)
  where
    none : None ≡ Some p → ⊥
    none k = cc
records_are_held opening (e ∷ past) g t p r h =
    of (votes_yes e.step e.answer g t) refl (step_told e.step g t) refl h (λ k. records_are_held opening past g t p r.2 k)
  where
    -- what was voted for was begun
    at_home : is_begun t past ≡ true → made (home_of t past) (parts_held opening g t (e ∷ past)) ≡ made (home_of t (e ∷ past)) (parts_held opening g t (e ∷ past))
    at_home k = ap (λ n. made n (parts_held opening g t (e ∷ past))) (sym (home_more opening e past t r k))

    older : stable_prepared opening g t past ≡ Some p → step_told e.step g t ≡ false → p ≡ made (home_of t past) (parts_held opening g t past)
        → p ≡ made (home_of t (e ∷ past)) (parts_held opening g t (e ∷ past))
    older k s ih = ih ∙ same ∙ at_home (closed_begun opening past t r.2 (prepared_closed opening past g t r.2 voted))
      where
        voted : has_prepared g t past ≡ true
        voted = true_from_ne_false _ (λ n. let q : None ≡ Some p = sym (none_unvoted opening past g t n) ∙ k in cc)

        same : made (home_of t past) (parts_held opening g t past) ≡ made (home_of t past) (parts_held opening g t (e ∷ past))
        same =
            let at : ℕ → ObjectId = λ n. record { guardian = g; number = n } in
            let holds = λ (n : ℕ). sym (holds_on opening e past r (at n) t (prepared_top opening past g t r.2 voted) voted s) in
            λ i. made (home_of t past) (filter_map (λ n. option_map (λ q. (n, q)) (holds n i)) (up_to (length (objects_at opening.setup g))))

    of : (v : Bool) → votes_yes e.step e.answer g t ≡ v → (s : Bool) → step_told e.step g t ≡ s
        → cond v (Some (made (home_of t past) (parts_held opening g t (e ∷ past)))) (cond s None (stable_prepared opening g t past)) ≡ Some p
        → (stable_prepared opening g t past ≡ Some p → p ≡ made (home_of t past) (parts_held opening g t past))
        → p ≡ made (home_of t (e ∷ past)) (parts_held opening g t (e ∷ past))
    of true v s q k ih =
        let is : made (home_of t past) (parts_held opening g t (e ∷ past)) ≡ p = the_same k in
        sym is ∙ at_home (yes_facts opening e past g t r v).was_begun
      where
        the_same : {q : Prepared} → Some q ≡ Some p → q ≡ p
        the_same h = cc
    of false v true q k ih = absurd (let n : None ≡ Some p = k in cc)
    of false v false q k ih = older k q (ih k)

-- ---- bases

-- what is done on an object is known to its first content
all_known : (opening : Opening) (past : List Event) (x : ObjectId) → IsRun opening past
    → Each (λ o. knows (first_content opening x) o.operation ≡ true) (kept_on x past)
all_known opening past x r = each_map _ _ (kept_on x past) (λ o w.
    ap (λ y. knows (first_content opening y) o.operation) (sym w.on) ∙ granted_known opening o w.event w.before (run_before opening w.came r) w.grants)
    (all_granted x past)

-- a telling is of one action
one_told : (h g : ℕ) (t u : Name) → step_told (Tell h t) g u ≡ true → (h ≡ g) × (t ≡ u)
one_told h g t u k = let p = and_parts (h == g) (same_name t u) k in (eqb-true h g p.0, same_name_true t u p.1)

-- the law
pub bases_are_laid : BasesAreLaid
bases_are_laid opening [] x r = refl
bases_are_laid opening (e ∷ past) x r = of e.step refl (bases_are_laid opening past x r.2)
  where
    -- where nothing is told that was prepared, the base stays
    stays : ((t : Name) → step_told e.step x.guardian t ≡ true → is_committed t past ≡ true → has_prepared x.guardian t past ≡ true → ⊥)
        → base_of opening x past ≡ base_of opening x (e ∷ past)
    stays none =
        sym (same_left (first_content opening x) (filter (in_base (λ b. told_committed x.guardian b (e ∷ past))) (kept_on x (e ∷ past)))
        (filter (in_base (λ b. told_committed x.guardian b past)) (kept_on x past)) (base_stays opening e past r x none))

    -- where it is told that a top action committed, what that held is laid on the base
    moves : (t : Name) → step_told e.step x.guardian t ≡ true → is_committed t past ≡ true → has_prepared x.guardian t past ≡ true
        → laid_where (part_in (stable_prepared opening x.guardian t past) x.number) (base_of opening x past) ≡ base_of opening x (e ∷ past)
    moves t s k v =
        let top = prepared_top opening past x.guardian t r.2 v in
        ap (λ p. laid_where p (base_of opening x past)) (held_record opening past x t r.2 v)
        ∙ sym (held_laid (first_content opening x) (λ b. told_committed x.guardian b past) (kept_on x past) t top (runs_are_orderly opening past x r.2) (all_known opening past x r.2))
        ∙ version_is (first_content opening x) (λ b. told_committed x.guardian b past) (kept_on x past) t top
        ∙ sym (same_left (first_content opening x) (filter (in_base (λ b. told_committed x.guardian b (e ∷ past))) (kept_on x (e ∷ past)))
        (filter (λ o. in_base (λ b. told_committed x.guardian b past) o || is_held (λ b. told_committed x.guardian b past) t o) (kept_on x past))
        (base_moves opening e past r x t top v s k))

    of : (step : Step) → step ≡ e.step → laid_where (stable_base opening x.guardian x.number past) (set_up opening.setup x) ≡ base_of opening x past
        → laid_where (installed_over (installed_by step x.guardian x.number (λ t. stable_prepared opening x.guardian t past) (λ t. is_committed t past))
        (stable_base opening x.guardian x.number past)) (set_up opening.setup x)
        ≡ base_of opening x (e ∷ past)
    of (Tell h t) q ih = told ((h == x.guardian) && is_committed t past) refl
      where
        -- it is told of t, and of nothing else
        of_it : (u : Name) → step_told e.step x.guardian u ≡ true → (h ≡ x.guardian) × (t ≡ u)
        of_it u s = one_told h x.guardian t u (ap (λ z. step_told z x.guardian u) q ∙ s)

        told : (k : Bool) → ((h == x.guardian) && is_committed t past) ≡ k
            → laid_where (installed_over (cond ((h == x.guardian) && is_committed t past) (part_in (stable_prepared opening x.guardian t past) x.number) None)
            (stable_base opening x.guardian x.number past)) (set_up opening.setup x)
            ≡ base_of opening x (e ∷ past)
        told false k =
            ap (λ y. laid_where (installed_over (cond y (part_in (stable_prepared opening x.guardian t past) x.number) None)
            (stable_base opening x.guardian x.number past)) (set_up opening.setup x)) k
            ∙ ih ∙ stays (λ u s c v.
            let is = of_it u s in
            clash (and_from (h == x.guardian) _ (eq-eqb h x.guardian is.0) (ap (λ b. is_committed b past) is.1 ∙ c)) k)
        told true k =
            ap (λ y. laid_where (installed_over (cond y (part_in (stable_prepared opening x.guardian t past) x.number) None)
            (stable_base opening x.guardian x.number past)) (set_up opening.setup x)) k
            ∙ laid_over (part_in (stable_prepared opening x.guardian t past) x.number) (stable_base opening x.guardian x.number past) (set_up opening.setup x)
            ∙ ap (λ d. laid_where (part_in (stable_prepared opening x.guardian t past) x.number) d) ih
            ∙ by (has_prepared x.guardian t past) refl
          where
            by : (v : Bool) → has_prepared x.guardian t past ≡ v
                → laid_where (part_in (stable_prepared opening x.guardian t past) x.number) (base_of opening x past) ≡ base_of opening x (e ∷ past)
            by true v =
                moves t (ap (λ z. step_told z x.guardian t) (sym q) ∙ and_from (h == x.guardian) (same_name t t) (and_parts _ _ k).0 (same_name_self t))
                (and_parts (h == x.guardian) _ k).1 v
            by false v =
                ap (λ p. laid_where (part_in p x.number) (base_of opening x past)) (none_unvoted opening past x.guardian t v)
                ∙ stays (λ u s c y. clash (ap (λ b. has_prepared x.guardian b past) (of_it u s).1 ∙ y) v)
    of step q ih = ih ∙ stays (λ t s k v. false≢true (ap (λ z. step_told z x.guardian t) q ∙ s))
