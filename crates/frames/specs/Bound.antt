-- The variables of a running script, and how many of them there are.
use Rattle.std.specs.Prelude.{ℕ, ℤ, List, [], length, take, Bool}
use Rattle.script_model.specs.Resolved as resolved

-- the variables that are bound, by kind: each has its place in the list of its kind
pub record Bound : Type 0 where
  pub ints : List ℤ
  pub texts : List (List ℕ)
  pub truths : List Bool

-- no variable is bound
abbrev pub nothing_bound : Bound
nothing_bound = record { ints = []; texts = []; truths = [] }

-- how many variables of each kind are bound
abbrev pub sizes : Bound → resolved.Frames
sizes b = record { ints = length b.ints; texts = length b.texts; truths = length b.truths }

-- what is left once all is forgotten that was bound after there were so many
abbrev pub cut_back : resolved.Frames → Bound → Bound
cut_back n b =
    record { ints = take n.ints b.ints; texts = take n.texts b.texts; truths = take n.truths b.truths }
