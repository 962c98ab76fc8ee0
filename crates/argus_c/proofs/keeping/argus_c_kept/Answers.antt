use Rattle.std.proofs.Common.{ap, refl, sym, ◌∙◌}
use Rattle.argus_c.proofs.Steps.{some_session}
use Rattle.argus_c.proofs.Telling.{keeps_store}
use Rattle.argus_c.proofs.keeping.argus_c_kept.Goals as goal

pub returns : goal.returns
returns c =
    keeps_store c.args.guardian c.args.handle.now c.told-2.new.self c.deref_mut.result.now _ c.told-2.result
    (c.in-Some.ensures.some ∙ ap some_session (sym c.deref_mut.ensures.value)) (c.told-2.ensures.same ∙ c.put.ensures.held)
    (record { world = refl; last = refl; changed = c.keep.ensures }) c.told-2.ensures.number c.told-2.ensures.error
    (c.told-2.ensures.held c.put.ensures.marked)
