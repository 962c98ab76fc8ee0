use Rattle.std.proofs.Common.{ap, sym, ◌∙◌}
use Rattle.std.specs.Cmp.{nat_cmp_total}
use Rattle.std.specs.FinSet as set
use Rattle.store_recovery.proofs.settling.has_decided.Goals as goal

pub returns : goal.returns
returns g c =
    c.contains.ensures ∙ sym (set.contains-from_list nat_cmp_total c.kept_in.result.now.decided.keys c.args.top)
    ∙ sym (ap (λ s. set.contains s.decided c.args.top) c.kept_in.ensures)
