-- What is settled of an object is what the kept operations leave of whose actions all has committed, up to the top.
use Rattle.std.proofs.Common.{Bool, List, None, Option, Some, [], ap, cond, false, filter, fold, inl, inr, is_some, refl, sym, true, ℕ, ◌&&◌, ◌∙◌, ◌∷◌, ◌≡◌, ◌||◌}
use Rattle.std.proofs.lemmas.Bool.{and_from, and_parts, false_from_ne_true, false≢true, or_cases, or_left, or_right}
use Rattle.std.specs.List.{list_all}
use Rattle.action_names.specs.Names.{Name, ancestors, has_name, is_ancestor, is_top, rising_names, top_of}
use Rattle.atomic_types.specs.declared.part.Part.{Part}
use Rattle.atomic_types.specs.Objects.{knows}
use Rattle.atomic_types.specs.Parts.{laid_where}
use Rattle.run_model.specs.declared.history.Event.{Event}
use Rattle.run_model.specs.declared.step.ObjectId.{ObjectId}
use Rattle.run_model.specs.Actions.{begun, is_begun, is_committed}
use Rattle.run_model.specs.Keeping.{Performed, kept_on}
use Rattle.run_model.specs.Openings.{Opening, first_content, set_up}
use Rattle.run_model.specs.Replay.{left_of}
use Rattle.run_model.specs.Runs.{IsRun}
use Rattle.run_model.specs.StableContent.{Prepared, is_stably_decided, stable_base, stable_prepared}
use Rattle.run_model.specs.Telling.{told_committed, was_told}
use Rattle.run_model.specs.Visibility.{has_prepared}
use Rattle.run_laws.proofs.Begun.{nameless}
use Rattle.run_laws.proofs.Each.{Each, each_map}
use Rattle.run_laws.proofs.Ended.{closed_begun, not_both}
use Rattle.run_laws.proofs.Granted.{granting}
use Rattle.run_laws.proofs.Growth.{run_before}
use Rattle.run_laws.proofs.Kept.{prepared_closed}
use Rattle.run_laws.proofs.Names.{all_ancestors_from, all_ancestors_use, same_name_self, top_facts}
use Rattle.local_laws.proofs.Based.{WasGranted, all_granted}
use Rattle.local_laws.proofs.Beside.{all_told, told_all}
use Rattle.local_laws.proofs.Kept.{filter_same}
use Rattle.local_laws.proofs.Laid.{bases_are_laid}
use Rattle.local_laws.proofs.Outcomes.{has_filter, has_rising}
use Rattle.local_laws.proofs.Prepared.{committed_prepared, granted_known, one_top, told_below}
use Rattle.local_laws.proofs.Rising.{Distinct, some_rising_distinct}
use Rattle.local_laws.proofs.Waiting.{runs_are_orderly}
use Rattle.local_laws.proofs.Written.{in_base}
use Rattle.recovery_laws.specs.Laws.{RecordsAlone}
use Rattle.recovery_laws.specs.Numbers.{DecidedAreOlder}
use Rattle.recovery_laws.specs.Settled.{is_recorded, settled_by, settled_over, settled_with, tops_of}
use Rattle.recovery_laws.proofs.Laying.{all_are, all_laid, both, with_all}
use Rattle.recovery_laws.proofs.Records.{comes_to_rest, recorded, recorded_prepared, recorded_top}

-- all above the action, and it too, has committed
abbrev pub is_all_committed : List Event → Name → Bool
is_all_committed past b = list_all (λ d. is_committed d past) (ancestors b)

-- ---- lists

-- what holds of each name that a list has
each_named : (P : Name → Type 0) (names : List Name) → ((a : Name) → has_name names a ≡ true → P a) → Each P names
each_named P [] f = tt
each_named P (a ∷ names) f =
    (f a (or_left _ (has_name names a) (same_name_self a)), each_named P names (λ b h. f b (or_right _ (has_name names b) h)))

pub filter_distinct : (p : Name → Bool) (names : List Name) → Distinct names → Distinct (filter p names)
filter_distinct p [] h = tt
filter_distinct p (a ∷ names) h = of (p a) (filter_distinct p names h.1)
  where
    of : (t : Bool) → Distinct (filter p names) → Distinct (cond t (a ∷ filter p names) (filter p names))
    of true k = (has_filter p names a ∙ ap (λ s. s && p a) h.0, k)
    of false k = k

-- ---- names without records

-- the law
pub records_alone : RecordsAlone
records_alone opening past g n names = of names (stable_base opening g n past)
  where
    f : Option Part → Name → Option Part
    f part t = settled_by opening g n past t part

    none : (t : Name) (part : Option Part) (o : Option Prepared) → stable_prepared opening g t past ≡ o → is_some o ≡ false → f part t ≡ part
    none t part None e h = ap (λ q. settled_with q (λ h. is_stably_decided opening h t past) n part) e
    none t part (Some q) e h = absurd (false≢true (sym h))

    of : (names : List Name) (part : Option Part) → fold f part names ≡ fold f part (filter (λ t. is_recorded opening g past t) names)
    of [] part = refl
    of (a ∷ names) part = by (is_recorded opening g past a) refl (of names (f part a))
      where
        by : (b : Bool) → is_recorded opening g past a ≡ b
            → fold f (f part a) names ≡ fold f (f part a) (filter (λ t. is_recorded opening g past t) names)
            → fold f (f part a) names
            ≡ fold f part (cond b (a ∷ filter (λ t. is_recorded opening g past t) names) (filter (λ t. is_recorded opening g past t) names))
        by true e ih = ih
        by false e ih =
            ih ∙ ap (λ p. fold f p (filter (λ t. is_recorded opening g past t) names)) (none a part (stable_prepared opening g a past) refl e)

-- ---- all records

module _ (opening : Opening) (past : List Event) (r : IsRun opening past) (x : ObjectId) (names : List Name)
    (all : (t : Name) → is_recorded opening x.guardian past t ≡ true → has_name names t ≡ true) where
  abbrev told : Name → Bool
  told d = told_committed x.guardian d past

  -- once the guardian was told all of these that have committed
  abbrev told_at_last : Name → Bool
  told_at_last = with_all (λ d. is_committed d past) names told

  at_last_committed : (d : Name) → told_at_last d ≡ true → is_committed d past ≡ true
  at_last_committed d h = elim (or_cases _ _ (sym (all_are (λ d. is_committed d past) names told d) ∙ h)) [
    | inl k ↦ (and_parts (has_name names d) (is_committed d past) k).1
    | inr k ↦ (and_parts (was_told x.guardian d past) (is_committed d past) k).1
  ]

  -- where all above an operation has committed, it was told that, or has the record
  told_of : (o : Performed) → WasGranted x o past → ((d : Name) → is_ancestor d o.action ≡ true → is_committed d past ≡ true)
      → (d : Name) → is_ancestor d o.action ≡ true → told_at_last d ≡ true
  told_of o w committed d k = all_are (λ d. is_committed d past) names told d ∙ of (is_top d) refl
    where
      run : IsRun opening (w.event ∷ w.before)
      run = run_before opening w.came r

      above : (is_top (top_of o.action) ≡ true) × (is_ancestor (top_of o.action) o.action ≡ true)
      above = top_facts o.action (nameless opening w.before o.action run.2 (granting opening o w.event w.before run w.grants).was_begun)

      prepared : has_prepared o.object.guardian (top_of o.action) past ≡ true
      prepared = committed_prepared opening o w.event w.before w.grants w.came r committed

      of : (b : Bool) → is_top d ≡ b → ((has_name names d && is_committed d past) || told d) ≡ true
      of false b =
          or_right _ (told d)
          (ap (λ y. told_committed y.guardian d past) (sym w.on)
          ∙ told_below opening o w.event w.before w.grants w.came r prepared (λ f l m. false_from_ne_true _ (λ q. not_both opening past f r (committed f l) q)) d k b)
      of true b =
          let is = one_top d (top_of o.action) o.action b above.0 k above.1 in
          let voted = ap (λ c. has_prepared x.guardian c past) is ∙ ap (λ y. has_prepared y.guardian (top_of o.action) past) (sym w.on) ∙ prepared in
          elim (recorded opening past x.guardian d voted) [
            | inl q ↦ or_left _ (told d) (and_from _ _ (all d (ap (λ p. is_some p) q.1)) (committed d k))
            | inr q ↦ or_right _ (told d) (and_from (was_told x.guardian d past) (is_committed d past) q (committed d k))
          ]

  -- So what belongs to the base then is that of which all has committed.
  base_at_last : (o : Performed) → WasGranted x o past → in_base told_at_last o ≡ is_all_committed past o.action
  base_at_last o w = both (in_base told_at_last o) (is_all_committed past o.action)
      (λ h. all_ancestors_from (λ d. is_committed d past) o.action (λ d k. at_last_committed d (all_told told_at_last o.action h d k)))
      (λ h. told_all told_at_last o.action (told_of o w (λ d k. all_ancestors_use (λ d. is_committed d past) o.action d h k)))

  -- names that are recorded
  settled_recorded : DecidedAreOlder opening → Distinct names → ((t : Name) → has_name names t ≡ true → is_recorded opening x.guardian past t ≡ true)
      → laid_where (settled_over opening x.guardian x.number past names) (set_up opening.setup x)
      ≡ left_of (first_content opening x) (filter (λ o. is_all_committed past o.action) (kept_on x past))
  settled_recorded older d are =
      all_laid told (first_content opening x) (kept_on x past) (runs_are_orderly opening past x r) known (set_up opening.setup x) (λ d. is_committed d past)
      (λ u part. settled_by opening x.guardian x.number past u part) names d
      (each_named _ names (λ a h. recorded_top opening past x.guardian a r (are a h)))
      (each_named _ names (λ a h part.
      comes_to_rest opening past r x older a (was_begun a (are a h)) (recorded_top opening past x.guardian a r (are a h)) part (set_up opening.setup x)))
      told (record { still = λ d h. h; below = λ d n. refl }) (λ u h. refl) (stable_base opening x.guardian x.number past) (bases_are_laid opening past x r)
      ∙ ap (left_of (first_content opening x))
      (filter_same (in_base told_at_last) (λ o. is_all_committed past o.action) (kept_on x past)
      (each_map _ _ (kept_on x past) base_at_last (all_granted x past)))
    where
      was_begun : (a : Name) → is_recorded opening x.guardian past a ≡ true → is_begun a past ≡ true
      was_begun a h =
          closed_begun opening past a r (prepared_closed opening past x.guardian a r (recorded_prepared opening past x.guardian a h))

      -- what is done on an object is known to its first content
      known : Each (λ o. knows (first_content opening x) o.operation ≡ true) (kept_on x past)
      known = each_map _ _ (kept_on x past) (λ o w.
          ap (λ y. knows (first_content opening y) o.operation) (sym w.on) ∙ granted_known opening o w.event w.before (run_before opening w.came r) w.grants)
          (all_granted x past)

-- What comes of the records of these names, if they have all of them.
pub at_rest : (opening : Opening) (past : List Event) (x : ObjectId) (names : List Name) → DecidedAreOlder opening → IsRun opening past
    → Distinct names → ((t : Name) → is_recorded opening x.guardian past t ≡ true → has_name names t ≡ true)
    → laid_where (settled_over opening x.guardian x.number past names) (set_up opening.setup x)
    ≡ left_of (first_content opening x) (filter (λ o. is_all_committed past o.action) (kept_on x past))
at_rest opening past x names older r d all =
    ap (λ p. laid_where p (set_up opening.setup x)) (records_alone opening past x.guardian x.number names)
    ∙ settled_recorded opening past r x (filter p names) (λ t h. has_filter p names t ∙ and_from _ _ (all t h) h) older
    (filter_distinct p names d) (λ t h. (and_parts (has_name names t) (p t) (sym (has_filter p names t) ∙ h)).1)
  where
    p : Name → Bool
    p t = is_recorded opening x.guardian past t

-- the top actions of a history have all records
pub tops_distinct : (past : List Event) → Distinct (tops_of past)
tops_distinct past = some_rising_distinct (λ a. is_top a) (begun past)

pub tops_recorded : (opening : Opening) (past : List Event) (g : ℕ) (t : Name) → IsRun opening past → is_recorded opening g past t ≡ true
    → has_name (tops_of past) t ≡ true
tops_recorded opening past g t r h =
    has_filter (λ a. is_top a) (rising_names (begun past)) t
    ∙ and_from _ _ (has_rising (begun past) t ∙ closed_begun opening past t r (prepared_closed opening past g t r (recorded_prepared opening past g t h)))
    (recorded_top opening past g t r h)

pub tops_at_rest : (opening : Opening) (past : List Event) (x : ObjectId) → DecidedAreOlder opening → IsRun opening past
    → laid_where (settled_over opening x.guardian x.number past (tops_of past)) (set_up opening.setup x)
    ≡ left_of (first_content opening x) (filter (λ o. is_all_committed past o.action) (kept_on x past))
tops_at_rest opening past x older r =
    at_rest opening past x (tops_of past) older r (tops_distinct past) (λ t h. tops_recorded opening past x.guardian t r h)
