use Rattle.std.proofs.Common.{None, [], ap, filter, refl, ◌∙◌}
use Rattle.std.specs.Prelude.{if◌then◌else◌}
use Rattle.object_model.specs.Deltas.{delta_at}
use Rattle.version_stack.specs.Layers.{kept_lowest}
use Rattle.atomic_object.specs.Kept.{Kept}
use Rattle.atomic_object.proofs.Crashing.{base_is, left_is}
use Rattle.atomic_object.proofs.object.Object.keep.Goals as goal

pub returns : goal.returns
returns g c =
    let stays = g.S.Survivors.stays c.args.survivors.now in
    let tops = c.requires.tops in
    let now = c.args.self.now in
    let keeps = c.keeps_lowest-keeps.result in
    let kept = c.keep_lowest.ensures ∙ ap (λ (k : Kept). kept_lowest k.stack keeps) c.self.view_is in record {
      base = base_is stays tops now.stack c.keep_lowest.new.self keeps kept;
      versions =
          left_is stays tops now.stack.base now.stack.versions now.stack c.keep_lowest.new.self refl c.keeps_lowest-keeps.ensures.rising
          (kept ∙ ap (λ t. kept_lowest now.stack t) c.keeps_lowest-keeps.ensures.stays);
      deltas = λ b. c.keep.ensures.left b ∙ ap (λ (k : Kept). if stays b then delta_at k.deltas.held b else None) c.self.view_is;
      rising = c.keep.ensures.rising;
      locks =
          c.crash.ensures
          ∙ ap (λ (k : Kept). record { readers = []; writers = filter stays k.locks.locks.writers; adders = filter stays k.locks.locks.adders }) c.self.view_is;
    }
