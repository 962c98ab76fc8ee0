use Rattle.std.proofs.Common.{arith, length, refl, ◌-◌, ◌<◌}
use Rattle.std.proofs.lemmas.Option.{slice_get_read}
use Rattle.world_steps.proofs.WorldStores.{whole_at}
use Rattle.world_steps.proofs.stepping.ask_number.Goals as goal

pub returns : goal.returns
returns g c =
    let gs = c.args.guardians.now in
    let lt : c.args.number - 1 < length gs = omega (arith, c.requires.first, c.requires.last) in
    whole_at g.G.Guardian.stands g.G.Guardian.stored c.args.number gs _
    (slice_get_read gs (length gs) (c.args.number - 1) c.index-guardians-number.result refl lt c.index-guardians-number.is) c.number.ensures.whole
