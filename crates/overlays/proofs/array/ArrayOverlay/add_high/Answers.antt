use Rattle.std.proofs.Common.{sym, ◌∙◌, arith, rules}
use Rattle.std.proofs.lemmas.Int.{ints}
use Rattle.overlays.proofs.ArrayNotes.{full_above_of, added_high_of}
use Rattle.overlays.proofs.array.ArrayOverlay.add_high.Goals as goal

pub returns-then-not-has_room_above-clause-ok : goal.returns-then-not-has_room_above-clause-ok
returns-then-not-has_room_above-clause-ok c = λ a fits e kind.
    full_above_of a c.args.self.now c.args.bounds c.args.item.now fits e (sym c.has_room_above.ensures ∙ c.if-not-has_room_above.true)

pub returns-clause-ok : goal.returns-clause-ok
returns-clause-ok c = λ a fits e kind.
    added_high_of a c.args.self.now c.put_in.new.self c.args.bounds _ _ c.args.item.now fits e c.requires (sym c.has_room_above.ensures ∙ c.if-not-has_room_above.false) kind
    (first_of (search rules, omega (arith, ints))) (first_of (search rules, omega (arith, ints))) (first_of (search rules, omega (arith, ints))) c.in_ok-put_in.ensures.ok
