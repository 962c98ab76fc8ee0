-- What an event says of actions agrees with the guardian's own history.
use Rattle.std.proofs.Common.{Bool, List, None, Option, Some, [], ap, cond, eqb-true, false, filter, inl, inr, not, refl, true, ℕ, ◌==◌, ◌∙◌, ◌∷◌, ◌≡◌}
use Rattle.std.proofs.lemmas.Bool.{and_from, false≢true, not-false, or_cases}
use Rattle.std.specs.List.{list_all}
use Rattle.action_names.specs.Names.{Name, child_of, is_top, parent_of, same_name}
use Rattle.run_model.specs.declared.answer.Answer.{Answer}
use Rattle.run_model.specs.declared.answer.Refusal.TheVariants as why
use Rattle.run_model.specs.declared.history.Event.{Event}
use Rattle.run_model.specs.declared.step.Step.{Step}
use Rattle.run_model.specs.declared.step.Step.TheVariants.{Abort, Arms, Call, Close, Commit, Crash, Decide, NestedTop, Recover}
use Rattle.run_model.specs.Actions.{home_of, is_begun, maker_of, names_begun, next_number}
use Rattle.run_model.specs.Answers.{outcome}
use Rattle.run_model.specs.LocalHistories.{Stamped, dependencies_carried, dependencies_of, dependencies_sent, events_of, is_home_of, local_history, names_guardian, with_dependencies}
use Rattle.run_model.specs.Openings.{Opening}
use Rattle.run_model.specs.Refusals.{checks}
use Rattle.run_model.specs.Runs.{IsRun}
use Rattle.run_laws.proofs.Accepted.{NoneApplies, answered, checked}
use Rattle.run_laws.proofs.Begun.{nameless, parent_begun}
use Rattle.run_laws.proofs.Names.{parent_child, same_name_self}
use Rattle.local_laws.specs.Rosters.{own_events}
use Rattle.local_laws.proofs.Actions.{action_same}
use Rattle.guardian_laws.specs.Actions.{AgreesOnActions, has_maker, is_child, is_none_or, is_own, reaches_parent, was_begun}
use Rattle.guardian_laws.specs.Laws.{kept_event}
use Rattle.guardian_laws.proofs.Entries.{carried_rise}
use Rattle.guardian_laws.proofs.Fresh.{names_are_new}
use Rattle.guardian_laws.proofs.Made.{made_by_parent, made_here}

-- what is at home here was begun here
home_begun : (opening : Opening) (run : List Stamped) (g : ℕ) (a : Name) → IsRun opening (events_of run) → is_begun a (events_of run) ≡ true
    → (home_of a (events_of run) == g) ≡ true → is_begun a (own_events opening run g) ≡ true
home_begun opening run g a r b h = (action_same opening run g a r b (eqb-true (home_of a (events_of run)) g h)).begun ∙ b

child_is : (a : Name) (n : ℕ) → (a ≡ [] → ⊥) → is_child a (child_of a n) ≡ true
child_is a n named = and_from _ _ (ap not (below a n named)) (ap (λ b. same_name b a) (parent_child a n) ∙ same_name_self a)
  where
    below : (a : Name) (n : ℕ) → (a ≡ [] → ⊥) → is_top (child_of a n) ≡ false
    below [] n h = absurd (h refl)
    below (x ∷ []) n h = refl
    below (x ∷ y ∷ a) n h = refl

module _ (opening : Opening) (s : Stamped) (run : List Stamped) (g : ℕ) (r : IsRun opening (events_of (s ∷ run)))
    (named : names_guardian s.1.step (events_of run) g ≡ true) where
  abbrev past : List Event
  past = events_of run

  abbrev own : List Event
  own = own_events opening run g

  maker_there : has_maker s.1.step (names_begun s.1.answer) own ≡ true
  maker_there = of s.1.step s.1.answer (checked opening s.1 past r) (answered opening s.1 past r) named
    where
      of : (step : Step) (answer : Answer) → NoneApplies (checks opening step past) → answer ≡ outcome opening step past
          → names_guardian step past g ≡ true → has_maker step (names_begun answer) own ≡ true
      of (Call a h) answer f q n =
          ap (λ x. list_all (λ b. is_child a b) (names_begun x)) q
          ∙ and_from _ _ (child_is a (next_number opening a past) (nameless opening past a r.2 (not-false _ (f why.NoAction)))) refl
      of (NestedTop a) answer f q n = home_begun opening run g a r.2 (not-false _ (f why.NoAction)) n
      of (Arms a kinds) answer f q n = home_begun opening run g a r.2 (not-false _ (f why.NoAction)) n
      of _ answer f q n = refl

  known_there : was_begun s.1.step own ≡ true
  known_there = of s.1.step (checked opening s.1 past r) named
    where
      by_maker : (a : Name) → is_begun a past ≡ true → (o : Option Name) → maker_of a past ≡ o → is_home_of o past g ≡ true → is_begun a own ≡ true
      by_maker a b None q h = absurd (false≢true h)
      by_maker a b (Some m) q h = made_here opening run g a m r.2 b q (eqb-true (home_of m past) g h)

      of : (step : Step) → NoneApplies (checks opening step past) → names_guardian step past g ≡ true → was_begun step own ≡ true
      of (Commit a) f n =
          let b = not-false (is_begun a past) (f why.NoAction) in
          elim (or_cases (home_of a past == g) (home_of (parent_of a) past == g) n) [
            | inl h ↦ home_begun opening run g a r.2 b h
            | inr h ↦ by_maker a b (Some (parent_of a)) (made_by_parent opening past a r.2 b (f why.NotSub)) h
          ]
      of (Close t) f n = home_begun opening run g t r.2 (not-false _ (f why.NoAction)) n
      of (Decide t) f n = home_begun opening run g t r.2 (not-false _ (f why.NoAction)) n
      of (Abort a) f n =
          let b = not-false (is_begun a past) (f why.NoAction) in
          elim (or_cases (home_of a past == g) (is_home_of (maker_of a past) past g) n) [
            | inl h ↦ home_begun opening run g a r.2 b h
            | inr h ↦ by_maker a b (maker_of a past) refl h
          ]
      of _ f n = refl

  own_there : is_own g s.1.step ≡ true
  own_there = of s.1.step named
    where
      of : (step : Step) → names_guardian step past g ≡ true → is_own g step ≡ true
      of (Crash h) n = n
      of (Recover h) n = n
      of _ n = refl

  parent_there : reaches_parent s.1.step (dependencies_carried opening s.1 g past) own ≡ true
  parent_there =
      of s.1.step (with_dependencies opening (s.1 ∷ past) (filter (λ b. home_of b (s.1 ∷ past) == g) (names_begun s.1.answer))) (checked opening s.1 past r)
    where
      of : (step : Step) (new : List (Name × List (ℕ × ℕ))) → NoneApplies (checks opening step past)
          → reaches_parent step (dependencies_sent (λ a. home_of a past) (λ a. dependencies_of opening a past) step g new) own ≡ true
      of (Commit a) new f = reach (home_of (parent_of a) past == g) refl
        where
          reach : (t : Bool) → (home_of (parent_of a) past == g) ≡ t
              → is_none_or {X = Name × List (ℕ × ℕ)} (cond t ((a, dependencies_of opening a past) ∷ []) []) (is_begun (parent_of a) own) ≡ true
          reach false q = refl
          reach true q =
              home_begun opening run g (parent_of a) r.2
              (parent_begun opening past a r.2 (not-false _ (f why.NoAction)) (f why.NotSub)) q
      of _ new f = refl

  pub agrees_on_actions : AgreesOnActions g (kept_event opening s run g) (local_history opening run g)
  agrees_on_actions = record {
    new = names_are_new opening s run g r;
    made = maker_there;
    known = known_there;
    own = own_there;
    rising = carried_rise opening s.1 g past;
    reaches = parent_there;
  }
