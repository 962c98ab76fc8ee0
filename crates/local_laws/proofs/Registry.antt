-- The registry's history says of actions what the flat one says.
use Rattle.std.proofs.Common.{Bool, List, None, Option, [], ap, ap₂, cond, false, filter, length, map, not, refl, suc, sym, true, ℕ, ◌++◌, ◌+◌, ◌==◌, ◌∙◌, ◌∷◌, ◌≡◌, ◌||◌, Some}
use Rattle.std.proofs.lemmas.Bool.{false≢true, true≢false}
use Rattle.std.specs.List.{list_any}
use Rattle.action_names.specs.Names.{Name, has_name, parent_of, same_name}
use Rattle.action_names.specs.Deps.{lesser}
use Rattle.run_model.specs.declared.answer.Answer.{Answer}
use Rattle.run_model.specs.declared.history.Event.{Event}
use Rattle.run_model.specs.declared.step.Step.{Step}
use Rattle.run_model.specs.declared.step.Step.TheVariants.{Commit, Crash, Op, Recover, Close}
use Rattle.run_model.specs.Actions.{begins, begun, crashes, home_in, home_of, is_ended, made_by, maker_in, maker_of, names_begun, step_aborts, step_closes, step_commits, step_makes, closing_step}
use Rattle.run_model.specs.Answers.{granted_or_waits, outcome}
use Rattle.run_model.specs.Dependencies.{dependency, dependency_after, merged, own_entry}
use Rattle.run_model.specs.Keeping.{blockers}
use Rattle.run_model.specs.Lists.{guardians_of}
use Rattle.run_model.specs.LocalHistories.{RegistryEvent, Stamped, dependencies_of, dependency_there, events_of, events_there, new_action, new_least, registry_history, takes_registry, closing_there, numbered}
use Rattle.run_model.specs.LocalReadings.{after_commit, beside}
use Rattle.run_model.specs.Openings.{Opening, given_before}
use Rattle.run_model.specs.Runs.{IsRun}
use Rattle.run_model.specs.Visibility.{votes_yes}
use Rattle.run_model.specs.Votes.{step_votes}
use Rattle.run_laws.proofs.Accepted.{answered}
use Rattle.run_laws.proofs.Names.{same_name_true}
use Rattle.local_laws.specs.Registries.{RegistryDependenciesSame, RegistrySame, ClosingSame}
use Rattle.local_laws.proofs.Dependencies.{entries}

-- an event as the registry keeps it
abbrev registry_event : Opening → Stamped → List Stamped → RegistryEvent
registry_event opening s run = record { stamp = s.0; event = s.1; begun = map (λ b. new_action opening (s.1 ∷ events_of run) b) (names_begun s.1.answer) }

taken : (opening : Opening) (s : Stamped) (run : List Stamped) → takes_registry s.1.step ≡ true
    → registry_history opening (s ∷ run) ≡ registry_event opening s run ∷ registry_history opening run
taken opening s run n = ap (λ t. cond t (registry_event opening s run ∷ registry_history opening run) (registry_history opening run)) n

untaken : (opening : Opening) (s : Stamped) (run : List Stamped) → takes_registry s.1.step ≡ false
    → registry_history opening (s ∷ run) ≡ registry_history opening run
untaken opening s run n = ap (λ t. cond t (registry_event opening s run ∷ registry_history opening run) (registry_history opening run)) n

-- what does not take the registry begins nothing
begins_nothing : (opening : Opening) (e : Event) (past : List Event) → IsRun opening (e ∷ past) → takes_registry e.step ≡ false → names_begun e.answer ≡ []
begins_nothing opening e past r n = ap (λ x. names_begun x) (answered opening e past r) ∙ of e.step n
  where
    of : (step : Step) → takes_registry step ≡ false → names_begun (outcome opening step past) ≡ []
    of (Op a x wanted) n = none (blockers a x wanted past)
      where
        none : (bs : List Name) → names_begun (granted_or_waits opening x wanted past bs) ≡ []
        none [] = refl
        none (b ∷ bs) = refl
    of (Crash g) n = refl
    of (Recover g) n = refl
    of _ n = absurd (true≢false n)

any_there : (opening : Opening) (p : Event → Bool) → ((e : Event) → takes_registry e.step ≡ false → p e ≡ false) → (run : List Stamped)
    → list_any p (events_there (registry_history opening run)) ≡ list_any p (events_of run)
any_there opening p h [] = refl
any_there opening p h (s ∷ run) = of (takes_registry s.1.step) refl (any_there opening p h run)
  where
    of : (t : Bool) → takes_registry s.1.step ≡ t → list_any p (events_there (registry_history opening run)) ≡ list_any p (events_of run)
        → list_any p (events_there (registry_history opening (s ∷ run))) ≡ list_any p (s.1 ∷ events_of run)
    of true n q = ap (λ l. list_any p (events_there l)) (taken opening s run n) ∙ ap (λ t. p s.1 || t) q
    of false n q = ap (λ l. list_any p (events_there l)) (untaken opening s run n) ∙ q ∙ sym (ap (λ t. t || list_any p (events_of run)) (h s.1 n))

commits_take : (step : Step) (a : Name) → takes_registry step ≡ false → step_commits step a ≡ false
commits_take (Op b x w) a n = refl
commits_take (Crash g) a n = refl
commits_take (Recover g) a n = refl
commits_take _ a n = absurd (true≢false n)

aborts_take : (step : Step) (a : Name) → takes_registry step ≡ false → step_aborts step a ≡ false
aborts_take (Op b x w) a n = refl
aborts_take (Crash g) a n = refl
aborts_take (Recover g) a n = refl
aborts_take _ a n = absurd (true≢false n)

closes_take : (step : Step) (a : Name) → takes_registry step ≡ false → step_closes step a ≡ false
closes_take (Op b x w) a n = refl
closes_take (Crash g) a n = refl
closes_take (Recover g) a n = refl
closes_take _ a n = absurd (true≢false n)

makes_take : (step : Step) (a : Name) → takes_registry step ≡ false → step_makes step a ≡ false
makes_take (Op b x w) a n = refl
makes_take (Crash g) a n = refl
makes_take (Recover g) a n = refl
makes_take _ a n = absurd (true≢false n)

votes_take : (step : Step) (g : ℕ) (t : Name) → takes_registry step ≡ false → step_votes step g t ≡ false
votes_take (Op b x w) g t n = refl
votes_take (Crash h) g t n = refl
votes_take (Recover h) g t n = refl
votes_take _ g t n = absurd (true≢false n)

yes_take : (step : Step) (answer : Answer) (g : ℕ) (t : Name) → takes_registry step ≡ false → votes_yes step answer g t ≡ false
yes_take (Op b x w) answer g t n = refl
yes_take (Crash h) answer g t n = refl
yes_take (Recover h) answer g t n = refl
yes_take _ answer g t n = absurd (true≢false n)

begun_there : (opening : Opening) (run : List Stamped) → IsRun opening (events_of run)
    → begun (events_there (registry_history opening run)) ≡ begun (events_of run)
begun_there opening [] r = refl
begun_there opening (s ∷ run) r = of (takes_registry s.1.step) refl (begun_there opening run r.2)
  where
    of : (t : Bool) → takes_registry s.1.step ≡ t → begun (events_there (registry_history opening run)) ≡ begun (events_of run)
        → begun (events_there (registry_history opening (s ∷ run))) ≡ begun (s.1 ∷ events_of run)
    of true n q = ap (λ l. begun (events_there l)) (taken opening s run n) ∙ ap (λ l. names_begun s.1.answer ++ l) q
    of false n q =
        ap (λ l. begun (events_there l)) (untaken opening s run n) ∙ q
        ∙ sym (ap (λ l. l ++ begun (events_of run)) (begins_nothing opening s.1 (events_of run) r n))

home_there : (opening : Opening) (run : List Stamped) (a : Name) → IsRun opening (events_of run)
    → home_of a (events_there (registry_history opening run)) ≡ home_of a (events_of run)
home_there opening [] a r = refl
home_there opening (s ∷ run) a r = of (takes_registry s.1.step) refl (λ b. home_there opening run b r.2)
  where
    past : List Event
    past = events_of run

    there : List Event
    there = events_there (registry_history opening run)

    of : (t : Bool) → takes_registry s.1.step ≡ t → ((b : Name) → home_of b there ≡ home_of b past)
        → home_of a (events_there (registry_history opening (s ∷ run))) ≡ home_of a (s.1 ∷ past)
    of true n q =
        ap (λ l. home_of a (events_there l)) (taken opening s run n)
        ∙ (λ i. cond (begins s.1 a) (home_in s.1.step (λ b. q b i)) (q a i))
    of false n q =
        ap (λ l. home_of a (events_there l)) (untaken opening s run n) ∙ q a
        ∙ sym (ap (λ l. cond (has_name l a) (home_in s.1.step (λ b. home_of b past)) (home_of a past)) (begins_nothing opening s.1 past r n))

maker_there : (opening : Opening) (run : List Stamped) (a : Name) → IsRun opening (events_of run)
    → maker_of a (events_there (registry_history opening run)) ≡ maker_of a (events_of run)
maker_there opening [] a r = refl
maker_there opening (s ∷ run) a r = of (takes_registry s.1.step) refl (maker_there opening run a r.2)
  where
    past : List Event
    past = events_of run

    of : (t : Bool) → takes_registry s.1.step ≡ t → maker_of a (events_there (registry_history opening run)) ≡ maker_of a past
        → maker_of a (events_there (registry_history opening (s ∷ run))) ≡ maker_of a (s.1 ∷ past)
    of true n q = ap (λ l. maker_of a (events_there l)) (taken opening s run n) ∙ ap (λ o. cond (begins s.1 a) (maker_in s.1.step) o) q
    of false n q =
        ap (λ l. maker_of a (events_there l)) (untaken opening s run n) ∙ q
        ∙ sym (ap (λ l. cond (has_name l a) (maker_in s.1.step) (maker_of a past)) (begins_nothing opening s.1 past r n))

made_there : (opening : Opening) (run : List Stamped) (a : Name) → made_by a (events_there (registry_history opening run)) ≡ made_by a (events_of run)
made_there opening [] a = refl
made_there opening (s ∷ run) a = of (takes_registry s.1.step) refl (made_there opening run a)
  where
    past : List Event
    past = events_of run

    of : (t : Bool) → takes_registry s.1.step ≡ t → made_by a (events_there (registry_history opening run)) ≡ made_by a past
        → made_by a (events_there (registry_history opening (s ∷ run))) ≡ made_by a (s.1 ∷ past)
    of true n q = ap (λ l. made_by a (events_there l)) (taken opening s run n) ∙ ap (λ l. cond (step_makes s.1.step a) (names_begun s.1.answer) [] ++ l) q
    of false n q =
        ap (λ l. made_by a (events_there l)) (untaken opening s run n) ∙ q
        ∙ sym (ap (λ t. cond t (names_begun s.1.answer) [] ++ made_by a past) (makes_take s.1.step a n))

-- the law
pub registry_same : RegistrySame
registry_same opening run r = record {
  begun = begun_there opening run r;
  next = λ o a. ap (λ l. suc (given_before o a + length (filter (λ b. same_name (parent_of b) a) l))) (begun_there opening run r);
  home = λ a. home_there opening run a r;
  maker = λ a. maker_there opening run a r;
  committed = committed;
  aborted = aborted;
  closed = λ a. any_there opening _ (λ e n. closes_take e.step a n) run;
  busy = λ a. ap (λ l. list_any (λ b. not (is_ended b there)) l) (made_there opening run a)
      ∙ (λ i. list_any (λ b. not (committed b i || aborted b i)) (made_by a (events_of run)));
  voted = λ g t. any_there opening _ (λ e n. votes_take e.step g t n) run;
  prepared = λ g t. any_there opening _ (λ e n. yes_take e.step e.answer g t n) run;
}
  where
    there : List Event
    there = events_there (registry_history opening run)

    committed : (a : Name) → list_any (λ e. step_commits e.step a) there ≡ list_any (λ e. step_commits e.step a) (events_of run)
    committed a = any_there opening _ (λ e n. commits_take e.step a n) run

    aborted : (a : Name) → list_any (λ e. step_aborts e.step a) there ≡ list_any (λ e. step_aborts e.step a) (events_of run)
    aborted a = any_there opening _ (λ e n. aborts_take e.step a n) run

-- what is said of new actions
new_listed : (opening : Opening) (past : List Event) (names : List Name) (a : Name) (h : ℕ) → has_name names a ≡ true
    → list_any (λ k. k == h) (guardians_of opening) ≡ true → new_least (map (λ b. new_action opening past b) names) a h ≡ dependency a h past
new_listed opening past [] a h n k = absurd (false≢true n)
new_listed opening past (b ∷ names) a h n k = of (same_name b a) refl (new_listed opening past names a h)
  where
    of : (t : Bool) → same_name b a ≡ t
        → (has_name names a ≡ true → list_any (λ k. k == h) (guardians_of opening) ≡ true → new_least (map (λ b. new_action opening past b) names) a h ≡ dependency a h past)
        → cond (same_name b a) (beside (dependencies_of opening b past) h) (new_least (map (λ b. new_action opening past b) names) a h) ≡ dependency a h past
    of true q ih =
        ap (λ t. cond t (beside (dependencies_of opening b past) h) (new_least (map (λ b. new_action opening past b) names) a h)) q
        ∙ ap (λ c. beside (dependencies_of opening c past) h) (same_name_true b a q)
        ∙ entries (λ g. dependency a g past) (guardians_of opening) h
        ∙ ap (λ t. cond t (dependency a h past) None) k
    of false q ih =
        ap (λ t. cond t (beside (dependencies_of opening b past) h) (new_least (map (λ b. new_action opening past b) names) a h)) q
        ∙ ih (ap (λ t. t || has_name names a) (sym q) ∙ n) k

pub registry_dependencies_same : RegistryDependenciesSame
registry_dependencies_same opening [] a h r k = refl
registry_dependencies_same opening (s ∷ run) a h r k = of (takes_registry s.1.step) refl (λ b. registry_dependencies_same opening run b h r.2 k)
  where
    past : List Event
    past = events_of run

    registry : List RegistryEvent
    registry = registry_history opening run

    merges : (step : Step) (own : Option ℕ) → ((b : Name) → dependency_there b h registry ≡ dependency b h past)
        → after_commit step a (dependency_there a h registry) (λ d. dependency_there d h registry) ≡ dependency_after false step a (λ b. dependency b h past) own
    merges (Commit c) own ih = of (same_name (parent_of c) a)
      where
        of : (t : Bool) → cond t (lesser (dependency_there a h registry) (dependency_there c h registry)) (dependency_there a h registry)
            ≡ merged t c a (λ b. dependency b h past)
        of true = ap₂ lesser (ih a) (ih c)
        of false = ih a
    merges _ own ih = ih a

    same_after : (step : Step) (own : Option ℕ) → takes_registry step ≡ false → dependency_after false step a (λ b. dependency b h past) own ≡ dependency a h past
    same_after (Op b x w) own n = refl
    same_after (Crash g) own n = refl
    same_after (Recover g) own n = refl
    same_after _ own n = absurd (true≢false n)

    entry : Option ℕ
    entry = own_entry (home_of a (s.1 ∷ past)) h (crashes h past)

    of : (t : Bool) → takes_registry s.1.step ≡ t → ((b : Name) → dependency_there b h registry ≡ dependency b h past)
        → dependency_there a h (registry_history opening (s ∷ run)) ≡ dependency a h (s.1 ∷ past)
    of true n ih = ap (λ l. dependency_there a h l) (taken opening s run n) ∙ new (begins s.1 a) refl
      where
        new : (t : Bool) → begins s.1 a ≡ t
            → cond (begins s.1 a) (new_least (map (λ b. new_action opening (s.1 ∷ past) b) (names_begun s.1.answer)) a h)
            (after_commit s.1.step a (dependency_there a h registry) (λ d. dependency_there d h registry))
            ≡ dependency a h (s.1 ∷ past)
        new true q =
            ap (λ t. cond t (new_least (map (λ b. new_action opening (s.1 ∷ past) b) (names_begun s.1.answer)) a h)
            (after_commit s.1.step a (dependency_there a h registry) (λ d. dependency_there d h registry))) q
            ∙ new_listed opening (s.1 ∷ past) (names_begun s.1.answer) a h q k
        new false q =
            ap (λ t. cond t (new_least (map (λ b. new_action opening (s.1 ∷ past) b) (names_begun s.1.answer)) a h)
            (after_commit s.1.step a (dependency_there a h registry) (λ d. dependency_there d h registry))) q
            ∙ merges s.1.step entry ih
            ∙ sym (ap (λ t. dependency_after t s.1.step a (λ b. dependency b h past) entry) q)
    of false n ih =
        ap (λ l. dependency_there a h l) (untaken opening s run n) ∙ ih a
        ∙ sym (ap (λ l. dependency_after (has_name l a) s.1.step a (λ b. dependency b h past) entry) (begins_nothing opening s.1 past r n)
        ∙ same_after s.1.step entry n)

-- what closes takes the registry
closes_takes : (step : Step) (a : Name) → takes_registry step ≡ false → step_closes step a ≡ false
closes_takes (Close b) a n = absurd (true≢false n)
closes_takes (Commit b) a n = absurd (true≢false n)
closes_takes _ a n = refl

pub closing_same : ClosingSame
closing_same opening [] a = refl
closing_same opening (e ∷ past) a = of (takes_registry e.step) refl (closing_same opening past a)
  where
    s : Stamped
    s = (suc (length past), e)

    of : (u : Bool) → takes_registry e.step ≡ u → closing_there a (registry_history opening (numbered past)) ≡ closing_step a past
        → closing_there a (registry_history opening (numbered (e ∷ past))) ≡ closing_step a (e ∷ past)
    of true n ih =
        ap (λ l. closing_there a l) (taken opening s (numbered past) n)
        ∙ ap (λ o. cond (step_closes e.step a) (Some (suc (length past))) o) ih
    of false n ih =
        ap (λ l. closing_there a l) (untaken opening s (numbered past) n) ∙ ih
        ∙ sym (ap (λ t. cond t (Some (suc (length past))) (closing_step a past)) (closes_takes e.step a n))
