use Rattle.std.proofs.Common.{◌≡◌, length, arith, rules}
use Rattle.std.proofs.lemmas.List.{nil_from_length}
use Rattle.std.proofs.lemmas.Grind.{common_steps}
use Rattle.values.proofs.Joined.{refilled_behind}
use Rattle.values.proofs.chunks.refill_back.Goals as goal

pub returns-in_ok-back-clause-items : goal.returns-in_ok-back-clause-items
returns-in_ok-back-clause-items c =
    let m = c.args.middle.now in
    let none : length c.args.back.now.items ≡ 0 = first_of (search rules, grind (arith, common_steps)) in
    refilled_behind m.items c.pop_back.new.self.items c.args.back.now.items c.in-Some.chunk.now c.in_ok-back.field-0.items _ m.ok.0 (omega (arith, m.ok.0, c.in-Some.ensures.item.3.0))
    c.in-Some.ensures.item.1 c.pop_back.ensures.rest (nil_from_length _ none) c.in_ok-back.ensures.same
