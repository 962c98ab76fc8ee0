use Rattle.std.proofs.Common.{ap, refl, sym, ◌∙◌}
use Rattle.guardian_objects.proofs.Operated.{on_err}
use Rattle.run_model.proofs.Events.{step_is}
use Rattle.layer_contracts.specs.Messages.{is_operation}
use Rattle.volatile_state.proofs.Kept.{may_operate, next_within, operated_follows, operated_within}
use Rattle.volatile_state.proofs.Operated.{no_operation}
use Rattle.volatile_state.proofs.Sound.{inside, sound_same}
use Rattle.volatile_state.proofs.memory.Memory.operate.Goals as goal

pub unreachable-requires : goal.unreachable-requires
unreachable-requires g c =
    no_operation c.event.inside.step.now (ap is_operation (sym (step_is c.event.view_is)) ∙ c.requires.operation) c.in_default.not-Op

pub grant-requires : goal.grant-requires
grant-requires g c =
    let next = next_within c.self.view_is c.requires.next in
    may_operate next.1 next.2 c.in-Op.action c.in-Op.object c.in-Op.operation (step_is c.event.view_is ∙ c.in-Op.is)

pub returns-in_err-grant-clause-err : goal.returns-in_err-grant-clause-err
returns-in_err-grant-clause-err g c =
    on_err c.from_residual.result
    (λ s at. sound_same (λ h here k. k) refl (λ here k. k) refl (λ h here k. k) c.in_err-grant.ensures.err c.grant.ensures.guardian (inside c.self.view_is at))

pub invariant_of-self : goal.invariant_of-self
invariant_of-self g c =
    (_, sound_same (λ h here k. k) refl (λ here k. k) refl (λ h here k. k) c.in_err-grant.ensures.err c.grant.ensures.guardian c.self.invariant.1)

pub invariant_of-self-2 : goal.invariant_of-self-2
invariant_of-self-2 g c =
    let next = next_within c.self.view_is c.requires.next in (
      _,
      operated_follows _ c.args.event.now c.draw.result _ c.in-Op.action c.in-Op.object c.in-Op.operation (step_is c.event.view_is ∙ c.in-Op.is)
          c.in_ok-grant.ensures.operates c.grant.ensures.guardian next.0 next.1 next.2,
    )

pub returns-clause-kept : goal.returns-clause-kept
returns-clause-kept g c =
    operated_within c.self.view_is
    (operated_follows _ c.args.event.now c.draw.result _ c.in-Op.action c.in-Op.object c.in-Op.operation (step_is c.event.view_is ∙ c.in-Op.is)
    c.in_ok-grant.ensures.operates c.grant.ensures.guardian)
