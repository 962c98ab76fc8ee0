use Rattle.std.proofs.Common.{◌∙◌, sym, ap}
use Rattle.std.specs.Option.{option_copied}
use Rattle.holders.proofs.Rows.{flat, found_at}
use Rattle.holders.proofs.trees.TreeHolders.get.Goals as goal

pub returns-in_err-get : goal.returns-in_err-get
returns-in_err-get g c =
    ap option_copied c.from_residual.ensures ∙ ap (λ o. flat (option_copied o)) (sym c.in_err-get.was)
    ∙ found_at _ c.self.inside.rows.entries _ c.self.view_is c.self.invariant _ c.get.ensures.value

pub returns : goal.returns
returns g c =
    c.as_ref.ensures.value ∙ ap (λ o. flat (option_copied o)) (sym c.in_ok-get.was)
    ∙ found_at _ c.self.inside.rows.entries _ c.self.view_is c.self.invariant _ c.get.ensures.value
