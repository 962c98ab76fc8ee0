use Rattle.std.proofs.Common.{◌==◌, ap, sym, ◌∙◌}
use Rattle.action_names.proofs.Entries.{len_of}
use Rattle.action_names.proofs.deps.Deps.is_empty.Goals as goal

pub returns : goal.returns
returns c =
    rw (← c.self.view_is) (c.is_empty.ensures ∙ ap (λ n. n == 0) (sym (len_of c.self.inside.least.items c.self.invariant)))
