use Rattle.std.proofs.Common.{subst}
use Rattle.atomic_types.specs.Objects.{content_after}
use Rattle.overlays.specs.Overlays.{Covers}
use Rattle.overlays.specs.ContentOverlays.{laid_content}
use Rattle.overlays.proofs.ContentNotes.{covers_counter, left_by_add}
use Rattle.overlays.proofs.content.ContentLayered.add_in.Goals as goal

pub add_in-requires : goal.add_in-requires
add_in-requires c = record { covers = covers_counter c.in-Counter.number (subst (Covers content_after laid_content) c.in-Counter.is c.requires.covers) }

pub returns-in_default : goal.returns-in_default
returns-in_default c =
    let o = c.args.overlay.now in
    record {
      added = λ x fits. left_by_add x o c.args.by c.in_default.not-Counter c.in_default.not-Replaced c.requires.covers fits;
      fits = λ x fits. fits;
      covers = c.requires.covers;
    }
