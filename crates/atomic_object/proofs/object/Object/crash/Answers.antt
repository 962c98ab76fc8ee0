use Rattle.object_laws.proofs.Leaving.{crashed_shows}
use Rattle.atomic_object.specs.Kept.{seen}
use Rattle.atomic_object.proofs.object.Object.crash.Goals as goal

pub returns : goal.returns
returns g c = record {
  shows = λ d s outlives shows left.
      crashed_shows d s (seen c.args.self.now) (seen c.keep.new.self) outlives (g.S.Survivors.stays c.args.survivors.now) shows c.requires.tops left.0 left.1 c.keep.ensures;
}
