use Rattle.std.proofs.Common.{◌∙◌, sym, ap}
use Rattle.std.specs.Option.{option_copied}
use Rattle.holders.proofs.Rows.{flat, found_at}
use Rattle.holders.proofs.few.FewHolders.get.Goals as goal

pub returns-in_err-find : goal.returns-in_err-find
returns-in_err-find g c =
    ap option_copied c.from_residual.ensures ∙ ap (λ o. flat (option_copied o)) (sym c.in_err-find.was)
    ∙ found_at _ c.self.inside.rows.items _ c.self.view_is c.self.invariant _ (rw c.deref.ensures.value at c.find.ensures)

pub returns : goal.returns
returns g c =
    c.as_ref.ensures.value ∙ ap (λ o. flat (option_copied o)) (sym c.in_ok-find.was)
    ∙ found_at _ c.self.inside.rows.items _ c.self.view_is c.self.invariant _ (rw c.deref.ensures.value at c.find.ensures)
