-- A guardian answers the operations of actions at home there as it should, and votes and counts so.
use Rattle.std.proofs.Common.{Bool, List, [], ap, ap₂, cond, eqb-true, false, not, refl, sym, true, ℕ, ◌==◌, ◌∙◌, ◌∷◌, ◌≡◌, ◌||◌}
use Rattle.std.proofs.lemmas.Bool.{or_left, or_right, and_from}
use Rattle.std.specs.List.{list_any}
use Rattle.action_names.specs.Names.{ancestors}
use Rattle.run_model.specs.declared.answer.Answer.{Answer}
use Rattle.run_model.specs.declared.history.Event.{Event}
use Rattle.run_model.specs.declared.step.Step.TheVariants.{Op}
use Rattle.run_model.specs.Actions.{home_of, is_begun, is_busy, is_done, is_gone}
use Rattle.run_model.specs.Answers.{answer_of, operated_by, refused_or}
use Rattle.run_model.specs.Keeping.{standing_of}
use Rattle.run_model.specs.Lists.{guardians_of, is_below, is_known_orphan}
use Rattle.run_model.specs.LocalHistories.{events_of, local_history, with_dependencies}
use Rattle.run_model.specs.LocalReadings.{LocalEvent, facts_here, least_of, standing_here, is_at_home}
use Rattle.run_model.specs.Refusals.{checks, checks_by, first_refusal}
use Rattle.run_model.specs.Openings.{first_content}
use Rattle.run_model.specs.Votes.{is_number}
use Rattle.run_laws.proofs.Names.{eqb_self, same_name_self}
use Rattle.local_laws.specs.Answering.{OperationsSame, OrphansSame, TellingsSame, VotesSame}
use Rattle.local_laws.specs.Rosters.{IsActionSame, own_events}
use Rattle.local_laws.proofs.Actions.{action_same}
use Rattle.local_laws.proofs.Bare.{counts_same, objects_alike}
use Rattle.local_laws.proofs.Counts.{crashes_same}
use Rattle.local_laws.proofs.Dependencies.{dependencies_same, listed}
use Rattle.local_laws.proofs.Kept.{any_same}
use Rattle.local_laws.proofs.Lists.{aborts_same}
use Rattle.local_laws.proofs.Roster.{guardian_same}
use Rattle.atomic_types.specs.Operations as op
use Rattle.run_model.specs.declared.answer.Refusal.TheVariants as why
use Rattle.run_laws.proofs.Accepted.{refused_anyway}

-- tests of the numbers of a list that agree there
any_of : (p q : ℕ → Bool) (ns : List ℕ) → ((n : ℕ) → list_any (λ k. k == n) ns ≡ true → p n ≡ q n) → list_any p ns ≡ list_any q ns
any_of p q [] h = refl
any_of p q (n ∷ ns) h =
    ap₂ ◌||◌ (h n (or_left _ _ (eqb_self n))) (any_of p q ns (λ m k. h m (or_right _ _ k)))

-- who is known as an orphan
pub orphans_same : OrphansSame
orphans_same opening run g a r b h =
    ap₂ ◌||◌
    (any_same _ _ (ancestors a) (λ c. aborts_same opening run g c r))
    (any_of _ _ (guardians_of opening) (λ k q. ap₂ is_below (dependencies_same opening run g a k r b h q) (crashes_same opening run g k r)))

-- the law
pub operations_same : OperationsSame
unfolding answer_of
operations_same opening run g a x wanted r b h = ap (λ cs. refused_or (first_refusal cs) own) same_checks ∙ decide (x.guardian == home_of a past) refl
  where
    past : List Event
    past = events_of run

    here : List LocalEvent
    here = local_history opening run g

    own : Answer
    own = operated_by (first_content opening x) (standing_here here x) a wanted

    flat : Answer
    flat = operated_by (first_content opening x) (standing_of x past) a wanted

    s : IsActionSame a (own_events opening run g) past
    s = action_same opening run g a r b h

    at_home : is_at_home g a here ≡ is_begun a past
    at_home = and_from _ _ (s.begun ∙ b) (ap (λ k. k == g) (s.home ∙ h) ∙ eqb_self g) ∙ sym b

    same_checks : checks_by opening (facts_here opening g here) (Op a x wanted) ≡ checks opening (Op a x wanted) past
    same_checks =
        ap (λ t. checks_by opening (record (facts_here opening g here) { begun = λ c. t }) (Op a x wanted)) at_home
        ∙ ap (λ t. checks_by opening (record (facts_here opening g here) { begun = λ c. is_begun a past; done = λ c. t }) (Op a x wanted)) s.done
        ∙ ap (λ t. checks_by opening (record (facts_here opening g here) { begun = λ c. is_begun a past; done = λ c. is_done a past; busy = λ c. t }) (Op a x wanted)) s.busy
        ∙ ap (λ t. checks_by opening (record (facts_here opening g here) { begun = λ c. is_begun a past; done = λ c. is_done a past; busy = λ c. is_busy a past; gone = λ c. t }) (Op a x wanted)) s.gone
        ∙ ap (λ n. checks_by opening (record (facts_here opening g here) { begun = λ c. is_begun a past; done = λ c. is_done a past; busy = λ c. is_busy a past; gone = λ c. is_gone a past; home = λ c. n }) (Op a x wanted)) s.home
        ∙ ap (λ t. checks_by opening (record (facts_here opening g here) { begun = λ c. is_begun a past; done = λ c. is_done a past; busy = λ c. is_busy a past; gone = λ c. is_gone a past; home = λ c. home_of a past; orphan = λ c. t }) (Op a x wanted))
        (orphans_same opening run g a r b h ∙ ap (λ k. is_known_orphan opening a k past) (sym h))

    decide : (t : Bool) → (x.guardian == home_of a past) ≡ t
        → refused_or (first_refusal (checks opening (Op a x wanted) past)) own ≡ refused_or (first_refusal (checks opening (Op a x wanted) past)) flat
    decide true q =
        let there : x.guardian ≡ g = eqb-true x.guardian (home_of a past) q ∙ h in
        ap (λ o. refused_or (first_refusal (checks opening (Op a x wanted) past)) o)
        (ap (λ k. operated_by (first_content opening x) (standing_here (local_history opening run k) x) a wanted) (sym there)
        ∙ (objects_alike opening run x r).operated (first_content opening x) a wanted)
    decide false q =
        refused_anyway why.Elsewhere (checks opening (Op a x wanted) past) own flat (ap not q)

pub votes_same : VotesSame
votes_same opening run g t answer r k =
    ap₂ is_number
    (ap (λ l. least_of l t g) (ap (λ u. cond u (with_dependencies opening (events_of run) (t ∷ [])) []) (eqb_self g))
    ∙ listed opening (events_of run) (t ∷ []) t g (or_left _ _ (same_name_self t)) k)
    (guardian_same opening run g r).crashes

pub tellings_same : TellingsSame
tellings_same opening run g a r = counts_same opening run g _ a r
