-- What an event says of votes agrees with the guardian's own history.
use Rattle.std.proofs.Common.{List, None, Some, [], ap, arith, cond, false, inl, inr, length, nat_lt, subst, sym, true, ℕ, ◌==◌, ◌∙◌, ◌∷◌, ◌≡◌, ◌≤◌, ◌||◌}
use Rattle.std.proofs.lemmas.Bool.{and_parts, eqb-false, false≢true, not-false, or_parts}
use Rattle.action_names.specs.Names.{Name, same_name}
use Rattle.run_model.specs.declared.answer.Answer.{Answer}
use Rattle.run_model.specs.declared.answer.Answer.TheVariants.{VoteYes}
use Rattle.run_model.specs.declared.answer.Refusal.TheVariants as why
use Rattle.run_model.specs.declared.history.Event.{Event}
use Rattle.run_model.specs.declared.step.Step.{Step}
use Rattle.run_model.specs.declared.step.Step.TheVariants.{Arms, Call, NestedTop, Prepare, Top}
use Rattle.run_model.specs.Actions.{home_in, home_of, is_begun}
use Rattle.run_model.specs.Lists.{carried_from}
use Rattle.run_model.specs.LocalHistories.{Stamped, events_of}
use Rattle.run_model.specs.Openings.{Opening}
use Rattle.run_model.specs.Refusals.{checks}
use Rattle.run_model.specs.Runs.{IsRun}
use Rattle.run_model.specs.Visibility.{votes_yes}
use Rattle.run_laws.proofs.Accepted.{NoneApplies, checked}
use Rattle.run_laws.proofs.Begun.{begun_cases}
use Rattle.run_laws.proofs.Homes.{home_more}
use Rattle.run_laws.proofs.Names.{same_name_true}
use Rattle.run_laws.proofs.NothingLost.{yes_facts}
use Rattle.local_laws.proofs.Roster.{IsMaking, home_new, making}
use Rattle.guardian_laws.specs.Laws.{kept_event}
use Rattle.guardian_laws.specs.Outcomes.{AgreesOnVotes}

-- a guardian of the opening has a number from 1 on
numbered : (h n : ℕ) → ((h == 0) || nat_lt n h) ≡ false → 1 ≤ h
numbered h n f = positive h (eqb-false h 0 (or_parts _ _ f).0)
  where
    positive : (h : ℕ) → (h ≡ 0 → ⊥) → 1 ≤ h
    positive h e = omega arith

-- so has the home of every action
home_numbered : (opening : Opening) (past : List Event) (a : Name) → IsRun opening past → is_begun a past ≡ true → 1 ≤ home_of a past
home_numbered opening [] a r b = absurd (false≢true b)
home_numbered opening (e ∷ past) a r b = elim (begun_cases e past a b) [
  | inr k ↦ subst (λ h. 1 ≤ h) (sym (home_more opening e past a r k)) (home_numbered opening past a r.2 k)
  | inl k ↦
      subst (λ h. 1 ≤ h) (sym (home_new e past a k))
      (of e.step (making opening e past a r k) (checked opening e past r) (λ c q. home_numbered opening past c r.2 q))
]
  where
    of : (step : Step) → IsMaking step → NoneApplies (checks opening step past) → ((c : Name) → is_begun c past ≡ true → 1 ≤ home_of c past)
        → 1 ≤ home_in step (λ c. home_of c past)
    of (Top h) m f ih = numbered h (length opening.setup) (f why.NoGuardian)
    of (NestedTop c) m f ih = ih c (not-false _ (f why.NoAction))
    of (Call c h) m f ih = numbered h (length opening.setup) (f why.NoGuardian)
    of (Arms c kinds) m f ih = ih c (not-false _ (f why.NoAction))
    of _ m f ih = elim m [ ]

-- the home sends what a vote brings
sent_by_home : (opening : Opening) (e : Event) (past : List Event) (g : ℕ) (t : Name) → IsRun opening (e ∷ past)
    → votes_yes e.step e.answer g t ≡ true → carried_from e.step g past ≡ Some (home_of t past)
sent_by_home opening e past g t r v = of e.step e.answer v
  where
    of : (step : Step) (answer : Answer) → votes_yes step answer g t ≡ true → carried_from step g past ≡ Some (home_of t past)
    of (Prepare h b) VoteYes v =
        let p = and_parts (h == g) (same_name b t) v in
        ap (λ u. cond u (Some (home_of b past)) None) p.0 ∙ ap (λ c. Some (home_of c past)) (same_name_true b t p.1)
    of _ _ v = absurd (false≢true v)

module _ (opening : Opening) (s : Stamped) (run : List Stamped) (g : ℕ) (r : IsRun opening (events_of (s ∷ run))) where
  abbrev past : List Event
  past = events_of run

  pub agrees_on_votes : AgreesOnVotes g (kept_event opening s run g)
  agrees_on_votes = record {
    top = λ t v. (yes_facts opening s.1 past g t r v).top;
    sender = λ t v. (
      home_of t past,
      home_numbered opening past t r.2 (yes_facts opening s.1 past g t r v).was_begun,
      sent_by_home opening s.1 past g t r v,
    );
  }
