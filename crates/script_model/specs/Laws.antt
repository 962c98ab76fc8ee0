-- What an interpreter may rely on in a script that a document fits.
use Rattle.std.specs.Prelude.{List, length, ◌≤◌}
use Rattle.std.specs.List.{AllByRecursion}
use Rattle.values.specs.declared.content.Content.{Content}
use Rattle.serde_json.specs.Data.{Data}
use Rattle.script_model.specs.declared.checked.Checked.{Checked}
use Rattle.script_model.specs.Reaching.{Fits}
use Rattle.script_model.specs.Resolved.{IsResolved}
use Rattle.limits.specs.Limits.{max_guardians, max_objects}

abbrev pub ReadingResolves : Type 0
ReadingResolves = (document : Data) (c : Checked) → Fits document c → IsResolved c

-- a guardian has as many objects as it may have
abbrev pub HasFewObjects : List Content → Type 0
HasFewObjects contents = length contents ≤ max_objects

-- there are as many guardians as there may be, and each has as many objects
pub record IsWithinLimits (guardians : List (List Content)) : Type 0 where
  pub count : length guardians ≤ max_guardians
  pub each : AllByRecursion HasFewObjects guardians

abbrev pub ReadingKeepsLimits : Type 0
ReadingKeepsLimits = (document : Data) (c : Checked) → Fits document c → IsWithinLimits c.guardians
