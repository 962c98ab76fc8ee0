-- What agrees with the history of a guardian that is lent agrees with it as it is.
use Rattle.std.proofs.Common.{Bool, List, ap, false, if◌then◌else◌, not, refl, subst, sym, true, ℕ, ◌&&◌, ◌==◌, ◌≡◌, ◌||◌}
use Rattle.std.proofs.lemmas.Bool.{false≢true}
use Rattle.run_model.specs.declared.answer.Answer.TheVariants.{Done}
use Rattle.run_model.specs.declared.history.Event.{Event}
use Rattle.run_model.specs.declared.step.Step.{Step}
use Rattle.run_model.specs.declared.step.Step.TheVariants.{Abort, Arms, Call, Close, Commit, Crash, Decide, NestedTop, Op, Prepare, Recover, Tell, Top}
use Rattle.run_model.specs.Actions.{is_committed}
use Rattle.run_model.specs.Answers.{answer_by, refused_or}
use Rattle.run_model.specs.LocalHistories.{answer_lent, carried_lent, events_there, names_guardian}
use Rattle.run_model.specs.LocalReadings.{Carried, LocalEvent, count_here, told_committed_here}
use Rattle.run_model.specs.Openings.{Opening}
use Rattle.run_model.specs.Refusals.{checks_by, first_refusal}
use Rattle.guardian_laws.specs.Laws.{Agrees}
use Rattle.layer_contracts.specs.Forests.{ForestState}
use Rattle.layer_contracts.specs.Guardians.{GuardianState, lent_two, stamped}
use Rattle.world_steps.specs.Keeping.{AgreesTwo}
use Rattle.world_steps.specs.Lending.{IsTellable, facts_two, results_told}

pub agrees_at : (f : ForestState) (a b x : GuardianState) (e : Event) (m : Carried) → x.opening ≡ f.opening → x.past ≡ lent_two a b x.number
    → ((a.number == x.number) || (b.number == x.number)) ≡ true → m ≡ carried_lent f.opening e x.number f.registry (lent_two a b)
    → AgreesTwo f a b e → names_guardian e.step (events_there f.registry) x.number ≡ true
    → Agrees x.opening x.number (stamped 0 (record { event = e; carried = m })) x.past
agrees_at f a b x e m s p q c h n =
    let P : Opening → List LocalEvent → Carried → Type 0 = λ opening past m. Agrees opening x.number (stamped 0 (record { event = e; carried = m })) past in
    subst (λ opening. P opening x.past m) (sym s)
    (subst (λ past. P f.opening past m) (sym p)
    (subst (λ m. P f.opening (lent_two a b x.number) m) (sym c) (h x.number q n)))

-- a count for a telling that the forest bears out is that of the guardian's history
told_as_here : (t u : Bool) (n : ℕ) → (t ≡ true → u ≡ true) → (if t && not u then 0 else n) ≡ n
told_as_here false u n h = refl
told_as_here true true n h = refl
told_as_here true false n h = absurd (false≢true (h refl))

pub tellable : (f : ForestState) (a b : GuardianState) (step : Step) → IsTellable f a b step
    → answer_by f.opening (facts_two f a b) (results_told f a b) step ≡ answer_lent f.opening f.registry (lent_two a b) step
tellable f a b (Tell g c) h =
    ap (λ n. refused_or (first_refusal (checks_by f.opening (facts_two f a b) (Tell g c))) (Done n))
    (told_as_here (told_committed_here c (lent_two a b g)) (is_committed c (events_there f.registry))
    (count_here f.opening g c (is_committed c (events_there f.registry)) (lent_two a b g)) h)
tellable f a b (Top g) h = refl
tellable f a b (NestedTop c) h = refl
tellable f a b (Call c g) h = refl
tellable f a b (Arms c kinds) h = refl
tellable f a b (Op c x wanted) h = refl
tellable f a b (Commit c) h = refl
tellable f a b (Close t) h = refl
tellable f a b (Prepare g t) h = refl
tellable f a b (Decide t) h = refl
tellable f a b (Abort c) h = refl
tellable f a b (Crash g) h = refl
tellable f a b (Recover g) h = refl
