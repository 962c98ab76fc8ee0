use Rattle.std.proofs.Common.{◌∙◌, sym, ap}
use Rattle.std.specs.Option.{option_copied}
use Rattle.holders.specs.Indexed.{ordered}
use Rattle.holders.proofs.Rows.{flat, found_at}
use Rattle.holders.proofs.Indexed.{found, ordered_sorted}
use Rattle.holders.proofs.index.Index.get.Goals as goal

pub returns-in_err-get : goal.returns-in_err-get
returns-in_err-get g c =
    let rows = c.self.inside.rows.entries in
    ap option_copied c.from_residual.ensures ∙ ap (λ o. flat (option_copied o)) (sym c.in_err-get.was)
    ∙ found_at _ (ordered rows) _ c.self.view_is (ordered_sorted rows) _ (c.get.ensures.value ∙ found rows c.args.name.now)

pub returns : goal.returns
returns g c =
    let rows = c.self.inside.rows.entries in
    c.as_ref.ensures.value ∙ ap (λ o. flat (option_copied o)) (sym c.in_ok-get.was)
    ∙ found_at _ (ordered rows) _ c.self.view_is (ordered_sorted rows) _ (c.get.ensures.value ∙ found rows c.args.name.now)
