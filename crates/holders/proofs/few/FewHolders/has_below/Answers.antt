use Rattle.std.proofs.Common.{sym, ap, ◌∙◌}
use Rattle.std.specs.List.{list_any}
use Rattle.action_names.specs.Names.{is_ancestor}
use Rattle.holders.specs.Held.{Rows, names_of}
use Rattle.holders.proofs.Rows.{any_held}
use Rattle.holders.proofs.few.FewHolders.has_below.Goals as goal

pub returns : goal.returns
returns g c =
    let a = c.args.action.now in
    let found = rw c.deref.ensures.value at c.any_below.ensures in
    found ∙ sym (any_held (is_ancestor a) c.self.inside.rows.items) ∙ ap (λ (s : Rows _). list_any (is_ancestor a) (names_of s.held)) c.self.view_is
