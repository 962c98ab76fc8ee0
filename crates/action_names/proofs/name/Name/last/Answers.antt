use Rattle.std.proofs.Common.{sym}
use Rattle.action_names.proofs.Paths.{last_of-at}
use Rattle.action_names.proofs.name.Name.last.Goals as goal

pub returns : goal.returns
returns c = rw (c.as_slice-numbers.ensures, ← c.self.view_is) (sym (last_of-at c.self.inside.parts 0 c.self.invariant.not_empty))
