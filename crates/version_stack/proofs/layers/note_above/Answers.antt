use Rattle.std.proofs.Common.{ap, ◌∙◌}
use Rattle.version_stack.proofs.Under.{noted_above}
use Rattle.version_stack.proofs.layers.note_above.Goals as goal

pub returns-clause-ok : goal.returns-clause-ok
returns-clause-ok g c =
    let t = g.T.Layered in
    let after = g.T.AtomicType.after in
    let x = c.args.content.now in
    let os = c.args.overlays.now.items in
    let o = c.note.new.overlay in
    let noted = c.in_ok-reply.ensures.noted ∙ ap (λ y. after y c.args.op.now) (c.nothing-overlay.ensures.laid _) in
    rw c.in_ok-put_above.ensures.ok (noted_above t.laid t.fits after x os o c.args.op.now c.requires.sound
    (rw c.deref.ensures.value at c.in_ok-reply.ensures.fits) c.in_ok-reply.ensures.covers (rw c.deref.ensures.value at noted))
