use Rattle.std.proofs.Common.{take}
use Rattle.service.specs.Transacting.{AllTold, Settles, settles}
use Rattle.service.proofs.top.tell_each.Given as goal

-- the guardians so far
abbrev pub invariant-loop-guardian : goal.invariant-loop-guardian
invariant-loop-guardian g l =
    let now = g.W.MakesOwnSteps.run l.service.world in
    Settles g.W.MakesOwnSteps.sees (settles l.top) (g.W.MakesOwnSteps.run l.fn.service.world) now l.fn.left l.left (AllTold l.top (take l.guardian-index l.guardians) now)
