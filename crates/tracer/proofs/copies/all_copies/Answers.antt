use Rattle.std.proofs.Common.{[], arith}
use Rattle.tracer.specs.Copies.{copies_from}
use Rattle.tracer.proofs.Copying.{history_copied}
use Rattle.tracer.proofs.copies.all_copies.Goals as goal

pub loop-before-preserved : goal.loop-before-preserved
loop-before-preserved c =
    history_copied c.loop-before.before (copies_from 0 [] c.args.registry.now) c.args.guardians.now c.index-guardians-before.result c.deref.result.now
    c.loop-before.copies.items c.add_copies-in-loop-before.new.copies.items (omega arith) c.index-guardians-before.is c.deref.ensures.value
    c.loop-before.invariant c.in_ok-add_copies-2.ensures
