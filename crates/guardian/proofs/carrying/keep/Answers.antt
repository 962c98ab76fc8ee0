use Rattle.std.proofs.Common.{sym, ◌∙◌}
use Rattle.run_model.proofs.Events.{step_is}
use Rattle.guardian.proofs.Whole.{crash_of, down_of, record_is, up_of}
use Rattle.guardian.proofs.carrying.keep.Goals as goal

pub crash-requires-clause-planned : goal.crash-requires-clause-planned
crash-requires-clause-planned g c =
    let planned = c.requires.planned in
    let stored = planned.5 (crash_of c.in-Crash.field-0 c.args.event.now.step (step_is c.event.view_is ∙ c.in-Crash.is)) in (
      planned.0,
      planned.1,
      planned.2,
      planned.3,
      planned.4,
      λ a. c.recorded_in.ensures a ∙ record_is planned.0.opening planned.0.number planned.0.past (g.S.Stable.seen c.args.store.now).content stored a,
    )

pub crash-requires-clause-down : goal.crash-requires-clause-down
crash-requires-clause-down g c =
    let planned = c.requires.planned in
    down_of c.in-Crash.field-0 c.args.event.now planned.2 planned.3 planned.4 (step_is c.event.view_is ∙ c.in-Crash.is)

pub keep-requires-clause-planned : goal.keep-requires-clause-planned
keep-requires-clause-planned g c = let planned = c.requires.planned in (planned.0, planned.1, planned.2, planned.3, planned.4)

pub keep-requires-clause-up : goal.keep-requires-clause-up
keep-requires-clause-up g c =
    up_of c.args.memory.now.number c.args.event.now.step
    (λ k is. c.in_default.not-Crash k (sym (step_is c.event.view_is) ∙ is))

pub returns-in-Crash : goal.returns-in-Crash
returns-in-Crash g c = λ h news at of same recorded.
    c.crash.ensures h news at of same
    (λ a. c.recorded_in.ensures a ∙ record_is h.opening h.number h.past (g.S.Stable.seen c.args.store.now).content
    (recorded (crash_of c.in-Crash.field-0 c.args.event.now.step (step_is c.event.view_is ∙ c.in-Crash.is))) a)

pub returns-in_default : goal.returns-in_default
returns-in_default g c = λ h news at of same recorded. c.keep.ensures h news at of same
