use Rattle.std.proofs.Common.{sym, ◌∙◌}
use Rattle.action_names.proofs.Entries.{len_of}
use Rattle.action_names.proofs.deps.Deps.len.Goals as goal

pub returns : goal.returns
returns c = rw (← c.self.view_is) (c.len.ensures.value ∙ sym (len_of c.self.inside.least.items c.self.invariant))
