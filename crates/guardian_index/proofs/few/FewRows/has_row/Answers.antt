use Rattle.std.proofs.Common.{◌∙◌, ap, sym}
use Rattle.std.specs.Prelude.{is_some}
use Rattle.std.specs.Map.{keys_of}
use Rattle.action_names.specs.Names.{has_name}
use Rattle.holders.proofs.Looks.{some_copied}
use Rattle.guardian_index.specs.Held.{Rows}
use Rattle.holders.proofs.Rows.{has_row}
use Rattle.guardian_index.proofs.FewRows.{keys_shown}
use Rattle.guardian_index.proofs.few.FewRows.has_row.Goals as goal

pub returns : goal.returns
returns c =
    let a = c.args.holder.now in
    let es = c.self.inside.rows.items in
    c.is_some.ensures ∙ some_copied c.find.result ∙ ap is_some (rw c.deref.ensures.value at c.find.ensures) ∙ has_row a es
    ∙ ap (λ ns. has_name ns a) (sym (keys_shown es)) ∙ ap (λ (rs : Rows). has_name (keys_of rs) a) c.self.view_is
