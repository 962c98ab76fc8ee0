use Rattle.std.proofs.Common.{◌≡◌, false, take}
use Rattle.std.specs.List.{list_any}
use Rattle.tracer.specs.Endings.{AreEndings}
use Rattle.tracer.specs.Losses.{is_seen_loss}
use Rattle.tracer.proofs.orphans.shows_loss.Given as goal

-- none so far
abbrev pub invariant-loop-name : goal.invariant-loop-name
invariant-loop-name l = AreEndings l.endings l.history → list_any (is_seen_loss l.action l.history) (take l.name-index l.names) ≡ false
