use Rattle.std.proofs.Common.{arith, sym, ◌∙◌}
use Rattle.packed_history.proofs.Named.{child_split}
use Rattle.packed_history.proofs.names.Begun.of.Goals as goal

pub returns-in-len1-up : goal.returns-in-len1-up
returns-in-len1-up c =
    child_split c.components.result.now c.args.action.now c.args.name.now (omega (arith, c.in-len1-up.len_at_least)) (sym c.eq.ensures ∙ c.if-eq.true)
    c.components.ensures.numbers
