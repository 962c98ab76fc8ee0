use Rattle.std.proofs.Common.{Err, List, Ok, ◌≡◌, ◌+◌, ◌++◌, ◌∷◌, [], ◌∙◌, ap, inl, inr, length, refl, slice_get, Some, subst, sym, take}
use Rattle.std.proofs.lemmas.List.{take_more}
use Rattle.std.proofs.lemmas.Option.{slice_get_read}
use Rattle.run_laws.specs.Serving.{IsServed}
use Rattle.run_laws.proofs.Serving.{runs_are_served}
use Rattle.run_model.specs.Openings.{opening_in}
use Rattle.run_model.specs.declared.answer.Answer.{Answer}
use Rattle.run_model.specs.declared.step.Step.{Step}
use Rattle.layer_contracts.specs.declared.guardian.Fault.TheVariants.{Memory}
use Rattle.world.specs.Running.{Ran, RanBefore}
use Rattle.world.proofs.Leaving.{leaves_stores}
use Rattle.world.proofs.Running.{passed_on, ran_more, ran_none}
use Rattle.world.proofs.world.World.run.Goals as goal

pub loop-step-init : goal.loop-step-init
loop-step-init g c = record {
  ran = ran_none g.S.Stable.seen c.args.self.now c.args.answers.now.items;
  served = subst (λ w. IsServed (opening_in w.run.lists) w.run.past) c.self.view_is (runs_are_served _ _ c.self.invariant.is_run);
}

pub loop-step-preserved : goal.loop-step-preserved
loop-step-preserved g c =
    let steps : List Step = c.args.steps.now in
    let i = c.loop-step.step-index in
    let step : Step = c.step-item.result in
    let answer = c.in_ok-answer.answer in
    let before : List Answer = c.loop-step.answers.items in
    let after : List Answer = c.push_reserved.new.self.items in
    let made : take (i + 1) steps ≡ take i steps ++ step ∷ [] =
    ◌∙◌ {A = List Step} (take_more steps i step c.loop-step-test.true) (ap (λ s. take i steps ++ s ∷ []) (sym c.step-item.is)) in
    let longer : after ≡ before ++ answer ∷ [] =
    ◌∙◌ {A = List Answer} c.push_reserved.ensures.items (ap (λ l. l ++ answer ∷ []) c.reserve.ensures.items) in
    let leaves = leaves_stores g.S.Stable.seen step c.loop-step.self c.step.new.self (Ok answer) c.in_ok-answer.ensures.stores c.in_ok-answer.ensures.cause
    c.step.ensures.stop c.in_ok-answer.ensures.up in
    record {
      ran =
          ran_more g.S.Stable.seen c.args.self.now c.loop-step.self c.step.new.self (take i steps) (take (i + 1) steps) step answer c.args.answers.now.items before after
          made longer c.loop-step.invariant.ran c.in_ok-answer.ensures.answer c.in_ok-answer.ensures.after leaves;
      served = c.step.ensures.served;
    }

pub returns-in_err-answer-clause-err : goal.returns-in_err-answer-clause-err
returns-in_err-answer-clause-err g c =
    let seen = g.S.Stable.seen in
    let steps : List Step = c.args.steps.now in
    let i = c.loop-step.step-index in
    let step : Step = c.step-item.result in
    let fault = c.in_err-answer.field-0.0 in
    passed_on c.from_residual-in_err-answer.result fault
    (λ fault. RanBefore seen c.args.self.now c.step.new.self steps fault c.args.answers.now.items c.reserve.new.self.items)
    c.from_residual-in_err-answer.ensures.1
    (record {
      count = i;
      step = step;
      there = slice_get_read steps (length steps) i step refl c.loop-step-test.true c.step-item.is;
      left = c.loop-step.self;
      ran = subst (λ l. Ran seen c.args.self.now c.loop-step.self (take i steps) c.args.answers.now.items l) (sym c.reserve.ensures.items) c.loop-step.invariant.ran;
      same = c.in_err-answer.ensures.err;
      stores = inr (leaves_stores seen step c.loop-step.self c.step.new.self (Err fault) c.in_err-answer.ensures.stores c.in_err-answer.ensures.cause c.step.ensures.stop
          c.in_err-answer.ensures.up);
    })

pub returns-in_err-reserve-clause-err : goal.returns-in_err-reserve-clause-err
returns-in_err-reserve-clause-err g c =
    let seen = g.S.Stable.seen in
    let steps : List Step = c.args.steps.now in
    let i = c.loop-step.step-index in
    let step : Step = c.step-item.result in
    passed_on c.from_residual.result Memory
    (λ fault. RanBefore seen c.args.self.now c.loop-step.self steps fault c.args.answers.now.items c.reserve.new.self.items)
    c.from_residual.ensures.1
    (record {
      count = i;
      step = step;
      there = slice_get_read steps (length steps) i step refl c.loop-step-test.true c.step-item.is;
      left = c.loop-step.self;
      ran = subst (λ l. Ran seen c.args.self.now c.loop-step.self (take i steps) c.args.answers.now.items l) (sym c.reserve.ensures.items) c.loop-step.invariant.ran;
      same = refl;
      stores = inl (refl, refl);
    })
