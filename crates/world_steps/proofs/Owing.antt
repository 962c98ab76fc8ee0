-- What a step brings to the guardians that it was lent is what their own histories ask of it.
use Rattle.std.proofs.Common.{List, None, Option, Some, [], ap, cond, eqb-true, nat_lt, length, refl, subst, sym, true, ℕ, ◌==◌, ◌∙◌, ◌∷◌, ◌≡◌, ◌||◌}
use Rattle.std.proofs.lemmas.Bool.{false≢true}
use Rattle.run_model.specs.declared.answer.Answer.{Answer}
use Rattle.run_model.specs.declared.answer.Answer.TheVariants.{Done, VoteNo, VoteYes}
use Rattle.run_model.specs.declared.answer.Refusal.{Refusal}
use Rattle.run_model.specs.declared.history.Event.{Event}
use Rattle.run_model.specs.declared.step.Step.{Step}
use Rattle.run_model.specs.declared.step.Step.TheVariants.{Abort, Arms, Call, Close, Commit, Crash, Decide, NestedTop, Op, Prepare, Recover, Tell, Top}
use Rattle.run_model.specs.Actions.{crashes, is_committed}
use Rattle.run_model.specs.Answers.{outcome_by, refused_or}
use Rattle.run_model.specs.Lists.{guardians_of}
use Rattle.run_model.specs.Runs.{is_accepted}
use Rattle.run_model.specs.LocalHistories.{answer_lent, carried_lent, dependency_there, entries_of, events_there, facts_lent, names_guardian, results_lent}
use Rattle.run_model.specs.LocalReadings.{Carried, LocalEvent, beside, count_here, events_here, least_of, outcome_in, says_committed}
use Rattle.run_model.specs.Refusals.{checks_by, first_refusal}
use Rattle.run_model.specs.Openings.{Opening}
use Rattle.run_model.specs.Votes.{is_number}
use Rattle.run_laws.proofs.Accepted.{NoneApplies, none_applies}
use Rattle.run_laws.proofs.Names.{same_name_self}
use Rattle.local_laws.specs.Owed.{IsOwed}
use Rattle.local_laws.proofs.Dependencies.{entries}
use Rattle.local_laws.proofs.Lent.{in_setup}
use Rattle.layer_contracts.specs.Guardians.{GuardianState, lent_two, stamped}
use Rattle.layer_contracts.specs.Forests.{ForestState}
use Rattle.layer_contracts.specs.Messages.{is_operation}
use Rattle.world_steps.specs.Keeping.{IsAnswered}
use Rattle.run_model.specs.declared.answer.Refusal.TheVariants as why

-- an answer that is accepted is no refusal
pub none_if_accepted : (o : Option Refusal) (x : Answer) → is_accepted (refused_or o x) ≡ true → o ≡ None
none_if_accepted None x h = refl
none_if_accepted (Some n) x h = absurd (false≢true h)

pub refuses_none : (f : ForestState) (histories : ℕ → List LocalEvent) (step : Step) (answer : Answer) → answer ≡ answer_lent f.opening f.registry histories step
    → is_accepted answer ≡ true → first_refusal (checks_by f.opening (facts_lent f.opening f.registry histories) step) ≡ None
refuses_none f histories step answer h k = none_if_accepted _ (outcome_by (facts_lent f.opening f.registry histories).next (results_lent f.opening f.registry histories) step) (sym (ap is_accepted h) ∙ k)

pub answers_outcome : (f : ForestState) (histories : ℕ → List LocalEvent) (step : Step) (answer : Answer) → answer ≡ answer_lent f.opening f.registry histories step
    → is_accepted answer ≡ true → answer ≡ outcome_by (facts_lent f.opening f.registry histories).next (results_lent f.opening f.registry histories) step
answers_outcome f histories step answer h k =
    h ∙ ap (λ o. refused_or o (outcome_by (facts_lent f.opening f.registry histories).next (results_lent f.opening f.registry histories) step)) (refuses_none f histories step answer h k)

owed : (f : ForestState) (histories : ℕ → List LocalEvent) (g : ℕ) (answer : Answer) (step : Step)
    → answer ≡ outcome_by (facts_lent f.opening f.registry histories).next (results_lent f.opening f.registry histories) step
    → NoneApplies (checks_by f.opening (facts_lent f.opening f.registry histories) step)
    → (is_operation step ≡ true → IsOwed f.opening g (stamped 0 (record { event = record { step = step; answer = answer }; carried = carried_lent f.opening (record { step = step; answer = answer }) g f.registry histories })) (histories g) step)
    → names_guardian step (events_there f.registry) g ≡ true
    → IsOwed f.opening g (stamped 0 (record { event = record { step = step; answer = answer }; carried = carried_lent f.opening (record { step = step; answer = answer }) g f.registry histories })) (histories g) step
owed f histories g answer (Op a x wanted) h k o n = o refl
owed f histories g answer (Prepare p t) h k o n = λ q.
    let same : p ≡ g = eqb-true p g q in
    let member = in_setup f.opening g (ap (λ m. (m == 0) || nat_lt (length f.opening.setup) m) (sym same) ∙ (k why.NoGuardian)) in
    let deps : ℕ → Option ℕ = λ m. dependency_there t m f.registry in
    let came : least_of (cond (p == g) ((t, entries_of f.opening deps) ∷ []) []) t g ≡ deps g =
    ap (λ s. least_of (cond s ((t, entries_of f.opening deps) ∷ []) []) t g) q
    ∙ ap (λ s. cond s (beside (entries_of f.opening deps) g) None) (same_name_self t)
    ∙ entries deps (guardians_of f.opening) g ∙ ap (λ s. cond s (deps g) None) member in
    h ∙ ap (λ m. cond (is_number (deps m) (crashes m (events_here (histories m)))) VoteYes VoteNo) same
    ∙ ap (λ d. cond (is_number d (crashes g (events_here (histories g)))) VoteYes VoteNo) (sym came)
owed f histories g answer (Tell p a) h k o n =
    let same : p ≡ g = eqb-true p g n in
    let said : says_committed (outcome_in (cond (p == g) ((a, is_committed a (events_there f.registry)) ∷ []) []) a) ≡ is_committed a (events_there f.registry) =
    ap (λ t. says_committed (outcome_in (cond t ((a, is_committed a (events_there f.registry)) ∷ []) []) a)) n
    ∙ ap (λ t. says_committed (cond t (Some (is_committed a (events_there f.registry))) None)) (same_name_self a) in
    h ∙ ap (λ m. Done (count_here f.opening m a (is_committed a (events_there f.registry)) (histories m))) same
    ∙ ap (λ c. Done (count_here f.opening g a c (histories g))) (sym said)
owed f histories g answer (Top p) h k o n = tt
owed f histories g answer (NestedTop a) h k o n = tt
owed f histories g answer (Call a p) h k o n = tt
owed f histories g answer (Arms a kinds) h k o n = tt
owed f histories g answer (Commit a) h k o n = tt
owed f histories g answer (Close t) h k o n = tt
owed f histories g answer (Decide t) h k o n = tt
owed f histories g answer (Abort a) h k o n = tt
owed f histories g answer (Crash p) h k o n = tt
owed f histories g answer (Recover p) h k o n = tt

pub owed_at : (f : ForestState) (a b x : GuardianState) (e : Event) (m : Carried) → x.opening ≡ f.opening → x.past ≡ lent_two a b x.number
    → m ≡ carried_lent f.opening e x.number f.registry (lent_two a b) → IsAnswered f a b e → names_guardian e.step (events_there f.registry) x.number ≡ true
    → IsOwed x.opening x.number (stamped 0 (record { event = e; carried = m })) x.past e.step
owed_at f a b x e m s p c i n =
    let P : Opening → List LocalEvent → Carried → Type 0 = λ opening past m. IsOwed opening x.number (stamped 0 (record { event = e; carried = m })) past e.step in
    let first = owed f (lent_two a b) x.number e.answer e.step (answers_outcome f (lent_two a b) e.step e.answer i.answer i.accepted)
    (none_applies _ (refuses_none f (lent_two a b) e.step e.answer i.answer i.accepted)) (λ o. i.operation x.number o n) n in
    subst (λ opening. P opening x.past m) (sym s) (subst (λ past. P f.opening past m) (sym p) (subst (λ m. P f.opening (lent_two a b x.number) m) (sym c) first))
