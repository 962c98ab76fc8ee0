use Rattle.action_names.proofs.Entries.{empty_of}
use Rattle.places.proofs.children.Children.new.Goals as goal

pub returns : goal.returns
returns c = rw c.new.ensures.items empty_of
