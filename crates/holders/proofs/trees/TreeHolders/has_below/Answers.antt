use Rattle.std.proofs.Common.{sym, ap, ◌∙◌}
use Rattle.std.specs.List.{list_any}
use Rattle.action_names.specs.Names.{is_ancestor}
use Rattle.holders.specs.Held.{Rows, names_of}
use Rattle.holders.proofs.Rows.{any_held}
use Rattle.holders.proofs.trees.TreeHolders.has_below.Goals as goal

pub returns : goal.returns
returns g c =
    let a = c.args.action.now in
    c.any_below.ensures ∙ sym (any_held (is_ancestor a) c.self.inside.rows.entries) ∙ ap (λ (s : Rows _). list_any (is_ancestor a) (names_of s.held)) c.self.view_is
