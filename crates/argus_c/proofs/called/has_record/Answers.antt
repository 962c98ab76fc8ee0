use Rattle.std.proofs.Common.{ap, is_some, nat_cmp, sym, ◌∙◌}
use Rattle.std.specs.BTreeMap.{is_at}
use Rattle.std.specs.Map.{lookup}
use Rattle.argus_c.proofs.Holding.{held_is, unrecorded}
use Rattle.argus_c.proofs.called.has_record.Goals as goal

pub returns-then-is_top : goal.returns-then-is_top
returns-then-is_top c none i s inside number holds =
    let k = c.in-Some-kept.kept.now in
    let same =
    held_is c.args.world.now c.args.guardian i c.in-Some.found.now c.store.result.now k s c.in-Some.ensures.found c.store.ensures c.in-Some-kept.ensures number holds in
    unrecorded k s c.args.action.now same
    (ap (λ n. is_some (lookup (is_at (nat_cmp n)) k.prepared.entries)) (sym c.last.ensures) ∙ sym c.contains_key.ensures ∙ none)
