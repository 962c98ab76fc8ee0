-- An operation that is lent: no message comes with it, and its guardian alone keeps it.
use Rattle.std.proofs.Common.{List, [], ap, eqb-true, false, refl, subst, sym, true, ℕ, ◌==◌, ◌∙◌, ◌∷◌, ◌≡◌}
use Rattle.std.proofs.lemmas.Bool.{false≢true}
use Rattle.action_names.specs.Names.{Name}
use Rattle.atomic_types.specs.Operations as op
use Rattle.atomic_types.specs.declared.op.Reply.{Reply}
use Rattle.values.specs.declared.content.Content.{Content}
use Rattle.run_model.specs.declared.answer.Answer.{Answer}
use Rattle.run_model.specs.declared.answer.Answer.TheVariants.{Granted}
use Rattle.run_model.specs.declared.history.Event.{Event}
use Rattle.run_model.specs.declared.step.ObjectId.{ObjectId}
use Rattle.run_model.specs.declared.step.Step.{Step}
use Rattle.run_model.specs.declared.step.Step.TheVariants.{Op}
use Rattle.run_model.specs.Actions.{home_of}
use Rattle.run_model.specs.Answers.{granted_by}
use Rattle.run_model.specs.Keeping.{Performed, Standing, blockers_by}
use Rattle.run_model.specs.LocalHistories.{answer_lent, carried_lent, events_there, names_guardian, registry_after}
use Rattle.run_model.specs.LocalReadings.{LocalEvent, nothing_carried, standing_here}
use Rattle.run_model.specs.Openings.{first_content}
use Rattle.run_model.specs.Runs.{is_accepted}
use Rattle.run_model.specs.Versions.{under}
use Rattle.layer_contracts.specs.Forests.{ForestState}
use Rattle.layer_contracts.specs.Guardians.{GuardianState, IsNext, after_step, by_itself, kept, lent_two, stamped}
use Rattle.layer_contracts.specs.Messages.{is_operation}
use Rattle.world_steps.specs.Keeping.{IsAnswered, IsLentAt}
use Rattle.world_steps.proofs.Agreed.{agrees_at}
use Rattle.world_steps.proofs.Left.{named_is, unnamed_is}
use Rattle.world_steps.proofs.Owing.{answers_outcome, owed_at}

granted : (c : Content) (kept : List Performed) (wanted : op.Op) (names : List Name) (answer : Answer) → answer ≡ granted_by c kept wanted names
    → is_accepted answer ≡ true → (r : Reply) × (answer ≡ Granted r)
granted c kept wanted [] answer is accepted = (_, is)
granted c kept wanted (b ∷ names) answer is accepted = absurd (false≢true (sym (ap is_accepted is) ∙ accepted))

-- what an accepted operation is answered
answer_is : (f : ForestState) (histories : ℕ → List LocalEvent) (c : Name) (x : ObjectId) (wanted : op.Op) (answer : Answer)
    → answer ≡ answer_lent f.opening f.registry histories (Op c x wanted) → is_accepted answer ≡ true → (r : Reply) × (answer ≡ Granted r)
answer_is f histories c x wanted answer is accepted =
    let s : Standing = standing_here (histories x.guardian) x in
    granted (under (first_content f.opening x) (λ b. true) s.restored) s.kept wanted (blockers_by s c wanted) answer
    (answers_outcome f histories (Op c x wanted) answer is accepted) accepted

module _ (f : ForestState) (a b : GuardianState) (e : Event) (answered : IsAnswered f a b e) (is : is_operation e.step ≡ true) where
  -- it brings nothing to anybody
  pub brings_nothing : (g : ℕ) → nothing_carried ≡ carried_lent f.opening e g f.registry (lent_two a b)
  brings_nothing g = of e.step refl is
    where
      of : (step : Step) → e.step ≡ step → is_operation step ≡ true → nothing_carried ≡ carried_lent f.opening e g f.registry (lent_two a b)
      of (Op c x wanted) same h =
          let r = answer_is f (lent_two a b) c x wanted e.answer (answered.answer ∙ ap (λ s. answer_lent f.opening f.registry (lent_two a b) s) same) answered.accepted in
          let event : e ≡ record { step = Op c x wanted; answer = Granted r.0 } = λ i. record { step = same i; answer = r.1 i } in
          subst (λ k. nothing_carried ≡ carried_lent f.opening k g f.registry (lent_two a b)) (sym event) refl
      of _ same h = absurd (false≢true h)

  -- nor does the forest keep it
  pub forest_stays : (stands : ForestState → Type 0) (n : ℕ) → stands f → stands (record f { registry = registry_after f.opening (n, e) f.registry (lent_two a b) })
  forest_stays stands n at = of e.step refl is
    where
      of : (step : Step) → e.step ≡ step → is_operation step ≡ true → stands (record f { registry = registry_after f.opening (n, e) f.registry (lent_two a b) })
      of (Op c x wanted) same h =
          subst (λ s. stands (record f { registry = registry_after f.opening (n, record { step = s; answer = e.answer }) f.registry (lent_two a b) })) (sym same) at
      of _ same h = absurd (false≢true h)

-- of two guardians an operation names one at most
pub one_named : (step : Step) (past : List Event) (g h : ℕ) → is_operation step ≡ true → names_guardian step past g ≡ true → (g == h) ≡ false
    → names_guardian step past h ≡ false
one_named (Op c x wanted) past g h is named apart = ap (λ k. k == h) (eqb-true (home_of c past) g named) ∙ apart
one_named _ past g h is named apart = absurd (false≢true is)

module _ {stands : ForestState → Type 0} {one : GuardianState → Type 0} {f : ForestState} {a b : GuardianState} {e : Event} {x : GuardianState}
    (at : IsLentAt stands one f a b e x) (is : is_operation e.step ≡ true) where
  -- at the guardian that it names it may come next
  pub next_at : names_guardian e.step (events_there f.registry) x.number ≡ true → IsNext x (by_itself e)
  next_at named = record {
    accepted = at.answered.accepted;
    owed = owed_at f a b x e nothing_carried at.opening at.lent.past (brings_nothing f a b e at.answered is x.number) at.answered named;
    agrees =
        agrees_at f a b x e nothing_carried at.opening at.lent.past at.lent.number (brings_nothing f a b e at.answered is x.number) at.answered.agrees named;
  }

  -- which keeps it
  pub kept_at : (n : ℕ) → names_guardian e.step (events_there f.registry) x.number ≡ true
      → kept x (stamped n (by_itself e)) ≡ after_step x (n, e) f.registry (lent_two a b)
  kept_at n named =
      ap (λ m. kept x (stamped n (record { event = e; carried = m }))) (brings_nothing f a b e at.answered is x.number)
      ∙ named_is f a b x e n at.opening at.lent.past named

  -- and another stands where it stood
  pub passed_at : (n : ℕ) → names_guardian e.step (events_there f.registry) x.number ≡ false → one (after_step x (n, e) f.registry (lent_two a b))
  passed_at n other = subst one (unnamed_is f a b x e n at.lent.past other) at.here
