use Rattle.std.proofs.Common.{sym, ◌∙◌, arith, rules}
use Rattle.std.proofs.lemmas.Int.{ints}
use Rattle.overlays.proofs.ArrayNotes.{full_below_of, added_low_of}
use Rattle.overlays.proofs.array.ArrayOverlay.add_low.Goals as goal

pub returns-then-not-has_room_below-clause-ok : goal.returns-then-not-has_room_below-clause-ok
returns-then-not-has_room_below-clause-ok c = λ a fits e kind.
    full_below_of a c.args.self.now c.args.bounds c.args.item.now fits e (sym c.has_room_below.ensures ∙ c.if-not-has_room_below.true)

pub returns-clause-ok : goal.returns-clause-ok
returns-clause-ok c = λ a fits e kind.
    added_low_of a c.args.self.now c.put_in.new.self c.args.bounds _ _ c.args.item.now fits e c.requires (sym c.has_room_below.ensures ∙ c.if-not-has_room_below.false) kind
    (first_of (search rules, omega (arith, ints))) (first_of (search rules, omega (arith, ints))) (first_of (search rules, omega (arith, ints))) c.in_ok-put_in.ensures.ok
