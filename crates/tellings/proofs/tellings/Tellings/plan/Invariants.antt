use Rattle.std.proofs.Common.{take}
use Rattle.places.specs.Placed.{AreMore}
use Rattle.tellings.specs.Hearing.{IsHeard}
use Rattle.tellings.proofs.tellings.Tellings.plan.Given as goal

-- what is planned is what the outcomes so far say
abbrev pub invariant-loop-action : goal.invariant-loop-action
invariant-loop-action l = record {
  more : AreMore l.fn.places l.places;
  heard : IsHeard l.places l.self (take l.action-index l.outcomes) l.heard;
}
