use Rattle.std.proofs.Common.{take, ◌++◌, ◌≡◌}
use Rattle.run_model.specs.LocalReadings.{aborted_in}
use Rattle.orphans.specs.Logs.{names_of}
use Rattle.orphans.proofs.lesson.fill_aborts.Given as goal

abbrev pub invariant-loop-name : goal.invariant-loop-name
invariant-loop-name l = names_of l.all.items ≡ take l.name-index l.aborts

abbrev pub invariant-loop-told : goal.invariant-loop-told
invariant-loop-told l = names_of l.all.items ≡ l.aborts ++ aborted_in (take l.told-index l.outcomes)
