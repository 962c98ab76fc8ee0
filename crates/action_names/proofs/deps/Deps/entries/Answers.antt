use Rattle.std.proofs.Common.{sym, ◌∙◌}
use Rattle.action_names.proofs.Entries.{entries_of}
use Rattle.action_names.proofs.deps.Deps.entries.Goals as goal

pub returns : goal.returns
returns c = rw (← c.self.view_is) (c.as_slice.ensures ∙ sym (entries_of c.self.inside.least.items c.self.invariant))
