use Rattle.std.proofs.Common.{◌∙◌, ap}
use Rattle.std.specs.Prelude.{is_some}
use Rattle.holders.proofs.Rows.{holds_some}
use Rattle.holders.proofs.Looks.{some_copied}
use Rattle.holders.proofs.holders.Holders.holds.Goals as goal

pub returns : goal.returns
returns g c = c.is_some.ensures ∙ some_copied c.get.result ∙ ap is_some c.get.ensures ∙ holds_some c.args.self.now.held c.args.holder.now
