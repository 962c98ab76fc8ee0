use Rattle.std.proofs.Common.{◌∙◌, ap}
use Rattle.holders.specs.Indexed.{ordered}
use Rattle.holders.proofs.Rows.{shown}
use Rattle.holders.proofs.Indexed.{ordered_none}
use Rattle.holders.proofs.index.Index.new.Goals as goal

pub returns : goal.returns
returns g c = ap (λ rs. shown (ordered rs)) c.new.ensures.empty ∙ ap shown ordered_none
