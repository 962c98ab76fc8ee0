use Rattle.std.proofs.Common.{◌<◌, ap, length, get_or, arith}
use Rattle.std.proofs.lemmas.List.{get_or_default}
use Rattle.std.proofs.lemmas.List.Edits.{map_over_more}
use Rattle.version_stack.specs.Layers.{lowered}
use Rattle.version_stack.proofs.rows.lower_all.Goals as goal

pub loop-end-preserved : goal.loop-end-preserved
loop-end-preserved c =
    let es = c.args.ends.now.items in
    let now = c.loop-end.end-items in
    let at = c.loop-end.end-index in
    let end = get_or now at 0 in
    let within : at < length es = omega (arith, ap length c.deref_mut-end-items.ensures.value) in
    let inside : at < length now = omega arith in
    rw c.lowered.ensures (map_over_more (lowered c.args.place) es now at end within c.loop-end.invariant (get_or_default now at 0 end inside))
