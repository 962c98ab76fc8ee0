use Rattle.std.proofs.Common.{sym, ap, ◌∙◌, arith, rules}
use Rattle.std.specs.Option.{option_copied}
use Rattle.std.proofs.lemmas.Int.{ints}
use Rattle.overlays.specs.declared.bounds.Bounds.{Bounds}
use Rattle.overlays.proofs.ArrayNotes.{none_high, removed_high_of}
use Rattle.overlays.proofs.array.ArrayOverlay.remove_high.Goals as goal

pub returns-then-bounds-eq0-clause-ok : goal.returns-then-bounds-eq0-clause-ok
returns-then-bounds-eq0-clause-ok c = λ a fits e end.
    none_high a c.args.self.now fits (ap (λ b. let d : Bounds = b in d.size) (sym e) ∙ c.if-bounds-eq0.true)

pub returns-clause-ok : goal.returns-clause-ok
returns-clause-ok c = λ a fits e end.
    removed_high_of a c.args.self.now c.take.new.self c.args.bounds _ _ (option_copied c.args.end) c.in_ok-reply.reply fits e c.requires
    (first_of (search rules, omega (arith, ints))) (first_of (search rules, omega (arith, ints))) (first_of (search rules, omega (arith, ints))) end c.in_ok-reply.ensures c.take.ensures
