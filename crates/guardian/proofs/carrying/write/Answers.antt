use Rattle.std.proofs.Common.{None, Some, ap, subst, sym, ◌∙◌}
use Rattle.layer_contracts.specs.Guardians.{stamped}
use Rattle.layer_contracts.specs.Stores.{LeavesStore}
use Rattle.layer_contracts.proofs.Stores.{refused_before, stays_same}
use Rattle.guardian_laws.specs.Stored.{after_event, asks_store}
use Rattle.guardian.proofs.Stores.{answers, fault_of, memory_in}
use Rattle.guardian.proofs.carrying.write.Goals as goal

pub returns-in_err-write-clause-leaves : goal.returns-in_err-write-clause-leaves
returns-in_err-write-clause-leaves g c = λ h news at of same.
    let s = g.S.Stable.seen c.args.store.now in
    subst (λ f. LeavesStore h news s s f) (sym (memory_in c.from_residual.result c.from_residual.ensures.0 c.from_residual.ensures.1))
    (refused_before (asks_store h.number (stamped 0 news) s.content) (after_event h.opening h.number (stamped 0 news) h.past s.content) s s (stays_same s)
    at.store.found at.store.rests)

pub returns-in-Ok-clause-leaves : goal.returns-in-Ok-clause-leaves
returns-in-Ok-clause-leaves g c = λ h news at of same.
    answers g.S.Stable.seen h news c.args.store.now c.perform.new.store c.in_ok-write.write c.perform.result None
    (c.in_ok-write.ensures.asked h news at of same) (c.in_ok-write.ensures.written h news at of same) c.perform.ensures.none c.perform.ensures.makes (ap fault_of c.in-Ok.is)

pub returns-in-Err-clause-leaves : goal.returns-in-Err-clause-leaves
returns-in-Err-clause-leaves g c = λ h news at of same.
    answers g.S.Stable.seen h news c.args.store.now c.perform.new.store c.in_ok-write.write c.perform.result
    (Some c.fault_of.result) (c.in_ok-write.ensures.asked h news at of same) (c.in_ok-write.ensures.written h news at of same) c.perform.ensures.none c.perform.ensures.makes
    (ap fault_of c.in-Err.is ∙ ap (λ f. Some f) (sym c.fault_of.ensures))
