use Rattle.std.proofs.Common.{IsTrue, length, map, reverse, take, ◌≡◌}
use Rattle.action_names.specs.Names.{Name, has_name}
use Rattle.script_model.specs.declared.checked.Checked.{Checked}
use Rattle.activities.specs.Apart.{AllRunnable, are_subs, begun_names}
use Rattle.activities.specs.Bodies.{AreArms, is_sub, sizes}
use Rattle.activities.proofs.apart.begun_arms.Given as goal

abbrev pub invariant-loop-arm : goal.invariant-loop-arm
invariant-loop-arm l = record {
  each : length l.begun.items ≡ l.arm-index;
  named : begun_names l.begun.items ≡ take l.arm-index (reverse l.waiting);
  subs : are_subs l.begun.items ≡ map is_sub (take l.arm-index l.arms);
  among : (a : Name) → IsTrue (has_name (begun_names l.begun.items) a) → IsTrue (has_name l.waiting a);
  runnable : (script : Checked) → AreArms script (sizes l.frames) l.arms → AllRunnable script l.begun.items;
}
