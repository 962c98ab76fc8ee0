use Rattle.std.proofs.Common.{sym, ap, ◌∙◌}
use Rattle.std.specs.Option.{option_copied}
use Rattle.overlays.proofs.Fields.{value_unplaced, value_placed}
use Rattle.overlays.proofs.record.changed_value.Goals as goal

pub returns-in_err-at : goal.returns-in_err-at
returns-in_err-at c =
    ap option_copied c.from_residual.ensures ∙ sym (value_unplaced c.args.changed.now c.args.name.now (sym c.in_err-at.ensures))

pub returns : goal.returns
returns c = sym (value_placed c.args.changed.now c.args.name.now c.in_ok-at.at c.index-changed-at.result (sym c.in_ok-at.ensures))
