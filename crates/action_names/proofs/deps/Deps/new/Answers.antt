use Rattle.action_names.proofs.Entries.{empty_of}
use Rattle.action_names.proofs.deps.Deps.new.Goals as goal

pub returns : goal.returns
returns c = rw c.new.ensures.items empty_of
