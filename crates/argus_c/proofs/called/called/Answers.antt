use Rattle.std.proofs.Common.{Some, subst, sym}
use Rattle.std.specs.Prelude.{◌≢◌}
use Rattle.argus_c.specs.Keeping.{CallsNone}
use Rattle.argus_c.proofs.StepCalls.{decide_calls, other_calls, prepare_calls, recover_calls, tell_calls}
use Rattle.argus_c.proofs.called.called.Goals as goal

pub returns-in-Prepare : goal.returns-in-Prepare
returns-in-Prepare c = prepare_calls c.args.world.now c.args.step.now c.in-Prepare.guardian c.in-Prepare.field-1 c.in-Prepare.is

pub returns-in-Recover : goal.returns-in-Recover
returns-in-Recover c = recover_calls c.args.world.now c.args.step.now c.in-Recover.guardian c.in-Recover.is

pub returns-in-Tell : goal.returns-in-Tell
returns-in-Tell c =
    subst (λ o. CallsNone c.args.world.now c.args.step.now (λ g. o ≢ Some g)) (sym c.then_some.ensures)
    (tell_calls c.args.world.now c.args.step.now c.in-Tell.guardian c.in-Tell.action c.has_record.result c.history.ensures.stores c.in-Tell.is c.has_record.ensures)

pub returns-in-Decide : goal.returns-in-Decide
returns-in-Decide c =
    decide_calls c.args.world.now c.args.step.now c.in-Decide.top c.home.result c.history.ensures.served.is_run c.history.ensures.stores c.in-Decide.is c.home.ensures

pub returns-in_default : goal.returns-in_default
returns-in_default c =
    other_calls c.args.world.now c.args.step.now c.in_default.not-Prepare c.in_default.not-Recover c.in_default.not-Tell c.in_default.not-Decide
