use Rattle.object_laws.proofs.Leaving.{undone_shows}
use Rattle.atomic_object.specs.Kept.{seen}
use Rattle.atomic_object.proofs.object.Object.told_abort.Goals as goal

pub returns-clause-shows : goal.returns-clause-shows
returns-clause-shows c = λ d s shows untold.
    undone_shows d s (seen c.args.self.now) (seen c.drop_below.new.self) c.args.action.now shows c.requires.named untold c.drop_below.ensures.undone
