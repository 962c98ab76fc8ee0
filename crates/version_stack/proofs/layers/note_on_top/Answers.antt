use Rattle.std.proofs.Common.{◌≡◌, [], ◌∷◌, ◌++◌, List, Option, Some, ap, ◌∙◌, subst}
use Rattle.std.specs.Option.{option_to_list}
use Rattle.overlays.specs.Overlays.{AllFit}
use Rattle.version_stack.specs.Layers.{AllCover, AreSound}
use Rattle.version_stack.proofs.Under.{fit_front, cover_front, noted_on_top, on_ok_all}
use Rattle.version_stack.proofs.layers.note_on_top.Goals as goal

-- the overlays were those that are left, and above them the one that was taken
parted : {O : Type 0} (os below : List O) (taken : Option O) (top : O) → os ≡ below ++ option_to_list taken → taken ≡ Some top
    → os ≡ below ++ top ∷ []
parted {O} os below taken top e f = e ∙ ap (λ r. below ++ option_to_list r) f

pub note-noted-requires-clause-covers : goal.note-noted-requires-clause-covers
note-noted-requires-clause-covers g c = λ adds.
    let t = g.T.Layered in
    let after = g.T.AtomicType.after in
    let below = c.pop.new.self.items in
    let top = c.unwrap-top.result in
    let was = parted c.args.overlays.now.items below c.pop.result top c.pop.ensures.items c.unwrap-top.ensures in
    (cover_front t.laid t.fits after below top (subst (AllCover t.laid after) was c.requires.sound.cover)).1

pub note-noted-requires-clause-below : goal.note-noted-requires-clause-below
note-noted-requires-clause-below g c =
    let t = g.T.Layered in
    let x = c.args.content.now in
    let below = c.pop.new.self.items in
    let top = c.unwrap-top.result in
    let was = parted c.args.overlays.now.items below c.pop.result top c.pop.ensures.items c.unwrap-top.ensures in
    rw c.deref.ensures.value (fit_front t.laid t.fits x below top (subst (AllFit t.laid t.fits x) was c.requires.sound.fit)).0

pub note-noted-requires-clause-fits : goal.note-noted-requires-clause-fits
note-noted-requires-clause-fits g c =
    let t = g.T.Layered in
    let x = c.args.content.now in
    let below = c.pop.new.self.items in
    let top = c.unwrap-top.result in
    let was = parted c.args.overlays.now.items below c.pop.result top c.pop.ensures.items c.unwrap-top.ensures in
    rw c.deref.ensures.value (fit_front t.laid t.fits x below top (subst (AllFit t.laid t.fits x) was c.requires.sound.fit)).1

pub returns-clause-ok : goal.returns-clause-ok
returns-clause-ok g c =
    let t = g.T.Layered in
    let after = g.T.AtomicType.after in
    let x = c.args.content.now in
    let below = c.pop.new.self.items in
    let top = c.unwrap-top.result in
    let was = parted c.args.overlays.now.items below c.pop.result top c.pop.ensures.items c.unwrap-top.ensures in
    let noted = c.note-noted.ensures in
    rw (c.push_reserved.ensures.items, was) (on_ok_all c.note-noted.result noted.fits noted.covers noted.noted (λ f k e.
    noted_on_top t.laid t.fits after x below top c.note-noted.new.overlay c.args.op.now
    (subst (AreSound t.laid after t.fits x) was c.requires.sound)
    (rw c.deref.ensures.value at f) k (rw c.deref.ensures.value at e)))
