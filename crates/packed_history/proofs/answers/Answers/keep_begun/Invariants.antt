use Rattle.std.proofs.Common.{◌≡◌, ◌≤◌, ◌+◌, ◌-◌, ◌++◌, List, length, map, take}
use Rattle.std.specs.Prelude.{vec_capacity, vec_len}
use Rattle.packed_history.specs.Answers.{begun_name}
use Rattle.packed_history.specs.declared.names.Begun.{Begun}
use Rattle.packed_history.proofs.answers.Answers.keep_begun.Given as goal

-- the first names are kept behind what was begun before, and there is room for the others
abbrev pub invariant-loop-name : goal.invariant-loop-name
invariant-loop-name l =
    record {
      room : vec_len l.self-inside.begun + (length l.names - l.name-index) ≤ vec_capacity l.self-inside.begun;
      kept : (bs : List Begun) × (l.self-inside.begun.items ≡ l.fn.self.begun ++ bs) × (map (begun_name l.action) bs ≡ take l.name-index l.names);
      others : l.self-inside.replies.items ≡ l.fn.self.replies;
    }
