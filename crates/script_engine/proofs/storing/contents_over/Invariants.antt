use Rattle.std.proofs.Common.{◌≡◌, take}
use Rattle.stable_store.specs.Held.{parts_in}
use Rattle.script_engine.specs.Storing.{laid_over}
use Rattle.script_engine.proofs.storing.contents_over.Given as goal

-- the contents of the first objects
abbrev pub invariant-loop-index : goal.invariant-loop-index
invariant-loop-index l = l.contents.items ≡ laid_over (parts_in l.kept.base) 1 (take l.index l.own)
