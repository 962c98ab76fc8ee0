use Rattle.std.proofs.Common.{Some, sym, ap, ◌∙◌, subst}
use Rattle.std.proofs.lemmas.Int.{to_z-of_z}
use Rattle.std.specs.Int.{w64}
use Rattle.overlays.specs.ArrayOverlays.{IsNoted, is_within}
use Rattle.overlays.proofs.ArrayNotes.{stored_outside_of, stored_inside_of}
use Rattle.overlays.proofs.array.ArrayOverlay.store.Goals as goal

pub returns-then-not-contains-clause-ok : goal.returns-then-not-contains-clause-ok
returns-then-not-contains-clause-ok c = λ a fits e kind.
    stored_outside_of a c.args.self.now c.args.bounds c.args.index c.args.item.now fits e
    (sym (ap (is_within c.args.bounds) (to_z-of_z w64 c.args.index c.ranges.index)) ∙ sym c.contains.ensures ∙ c.if-not-contains.true)

pub returns-clause-ok : goal.returns-clause-ok
returns-clause-ok c = λ a fits e kind.
    let at = to_z-of_z w64 c.args.index c.ranges.index in
    stored_inside_of a c.args.self.now c.put.new.self c.args.bounds c.args.index c.args.item.now fits e
    (sym (ap (is_within c.args.bounds) at) ∙ sym c.contains.ensures ∙ c.if-not-contains.false) kind
    (subst (λ i. IsNoted c.args.self.now c.put.new.self i (Some c.args.item.now) c.args.self.now.bounds) at c.in_ok-put.ensures.ok)
