-- Making steps one after another, and that each leaves a run.
use Rattle.std.proofs.Common.{◌≡◌, ◌∙◌, List, [], ◌∷◌, ◌++◌, ap, ap₂, refl, subst, sym, append_assoc, append-nil, None, Result, Ok, Err, IfErr, IfOk, IsErrAnd, OnErr}
use Rattle.run_model.specs.declared.step.Step.{Step}
use Rattle.run_model.specs.declared.answer.Answer.{Answer}
use Rattle.run_model.specs.declared.history.Event.{Event}
use Rattle.run_model.specs.Answers.{answer_of}
use Rattle.run_model.specs.Openings.{Opening, opening_in}
use Rattle.run_model.specs.Runs.{World, IsRun, answers_from, history_from, history_after, world_after}
use Rattle.run_laws.specs.Laws.{OrphanWhereRefused}
use Rattle.run_laws.specs.Serving.{IsServed}
use Rattle.run_laws.proofs.Orphans.{refused_orphans_are_orphans}
use Rattle.run_laws.proofs.Runs.{run_more}
use Rattle.run_laws.proofs.Serving.{runs_are_served}
use Rattle.stable_store.specs.Calls.{View}
use Rattle.layer_contracts.specs.declared.guardian.Fault.{Fault}
use Rattle.stepping.specs.Stepping.{AreMade}
use Rattle.stepping.proofs.Making.{join}
use Rattle.world.specs.Running.{Ran, run_of}
use Rattle.world.specs.Worlds.{InWorld, LeavesStores}

-- one step more at the end: its answer, and its history
answers_snoc : (opening : Opening) (past : List Event) (steps : List Step) (step : Step)
    → answers_from opening past (steps ++ step ∷ []) ≡ answers_from opening past steps ++ answer_of opening step (history_from opening past steps) ∷ []
answers_snoc opening past [] step = refl
answers_snoc opening past (s ∷ steps) step =
    ap (λ l. answer_of opening s past ∷ l) (answers_snoc opening (history_after s (answer_of opening s past) past) steps step)

history_snoc : (opening : Opening) (past : List Event) (steps : List Step) (step : Step)
    → history_from opening past (steps ++ step ∷ [])
    ≡ history_after step (answer_of opening step (history_from opening past steps)) (history_from opening past steps)
history_snoc opening past [] step = refl
history_snoc opening past (s ∷ steps) step = history_snoc opening (history_after s (answer_of opening s past) past) steps step

module _ {S : Type 0} (seen : S → View) where
  -- where no step was made
  pub ran_none : (w : InWorld S) (before : List Answer) → Ran seen w w [] before before
  ran_none w before = record { answers = sym (append-nil before); same_opening = refl; history = refl; made = refl }

  -- where a step more was made
  pub ran_more : (old now new : InWorld S) (steps more : List Step) (step : Step) (answer : Answer) (before after longer : List Answer)
      → more ≡ steps ++ step ∷ [] → longer ≡ after ++ answer ∷ [] → Ran seen old now steps before after
      → answer ≡ answer_of (opening_in now.run.lists) step now.run.past → new.run ≡ world_after now.run step answer
      → LeavesStores seen step None now new → Ran seen old new more before longer
  ran_more old now new steps more step answer before after longer m l r a w leaves =
      let opening = opening_in old.run.lists in
      let past = history_from opening old.run.past steps in
      let same : answer ≡ answer_of opening step past = a ∙ ap₂ (λ l p. answer_of (opening_in l) step p) r.same_opening r.history in
      record {
        answers =
            l ∙ ap₂ (λ bs b. bs ++ b ∷ []) r.answers same ∙ append_assoc before (answers_from opening old.run.past steps) (answer_of opening step past ∷ [])
            ∙ ap (λ bs. before ++ bs) (sym (answers_snoc opening old.run.past steps step)) ∙ ap (λ ss. before ++ answers_from opening old.run.past ss) (sym m);
        same_opening = ap (λ v. v.lists) w ∙ r.same_opening;
        history =
            ap (λ v. v.past) w ∙ ap₂ (λ b p. history_after step b p) same r.history ∙ sym (history_snoc opening old.run.past steps step)
            ∙ ap (λ ss. history_from opening old.run.past ss) (sym m);
        made = subst (λ ss. AreMade run_of (LeavesStores seen) ss old new) (sym m)
            (join run_of (LeavesStores seen) steps (step ∷ []) old now new r.made
            (new, record { after = w ∙ ap (λ b. world_after now.run step b) a; stores = leaves }, refl));
      }

-- the fault that is passed on
pub passed_on : {T : Type 0} (result : Result T Fault) (fault : Fault) (P : Fault → Type 0) → IsErrAnd result (λ e. e ≡ fault)
    → P fault → IfErr result P
passed_on (Ok x) fault P is p = tt
passed_on (Err e) fault P is p = subst P (sym is) p

-- a step of a run leaves a run, also where it failed
pub step_served : {E : Type 0} (old new : World) (step : Step) (result : Result Answer E) → IsRun (opening_in old.lists) old.past
    → IfOk result (λ answer. answer ≡ answer_of (opening_in old.lists) step old.past) → IfOk result (λ answer. new ≡ world_after old step answer)
    → OnErr result (new ≡ old) → IsServed (opening_in new.lists) new.past
step_served old new step (Ok answer) r a w e =
    let after : new ≡ world_after old step (answer_of (opening_in old.lists) step old.past) = w ∙ ap (λ b. world_after old step b) a in
    subst (λ v. IsServed (opening_in v.lists) v.past) (sym after) (runs_are_served (opening_in old.lists) _ (run_more (opening_in old.lists) step old.past r))
step_served old new step (Err fault) r a w e = subst (λ v. IsServed (opening_in v.lists) v.past) (sym e) (runs_are_served (opening_in old.lists) old.past r)

-- whom a step refuses as an orphan
pub step_orphans : {E : Type 0} (old : World) (step : Step) (result : Result Answer E) → IsRun (opening_in old.lists) old.past
    → IfOk result (λ answer. answer ≡ answer_of (opening_in old.lists) step old.past) → IfOk result (λ answer. OrphanWhereRefused step answer old.past)
step_orphans old step (Ok answer) r a = subst (λ b. OrphanWhereRefused step b old.past) (sym a) (refused_orphans_are_orphans (opening_in old.lists) old.past step r)
step_orphans old step (Err fault) r a = tt
