use Rattle.std.proofs.Common.{◌≡◌, map, take}
use Rattle.std.specs.BTreeMap.{get}
use Rattle.action_names.specs.Names.{name_cmp}
use Rattle.tracer.specs.Places.{step_number}
use Rattle.tracer.proofs.endings.Endings.place_of.Given as goal

-- the closing steps of the ancestors so far
abbrev pub invariant-loop-name : goal.invariant-loop-name
invariant-loop-name l = map step_number l.steps.items ≡ map (get name_cmp l.self.closing) (take l.name-index l.name-items)
