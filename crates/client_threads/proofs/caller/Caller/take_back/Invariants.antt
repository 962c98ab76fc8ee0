use Rattle.std.proofs.Common.{length, take, vec_capacity, ◌≡◌, ◌≤◌}
use Rattle.activities.specs.Apart.{ended_names}
use Rattle.activities.specs.Making.{Makes}
use Rattle.client_threads.specs.Callers.{run_of}
use Rattle.client_threads.proofs.caller.Caller.take_back.Given as goal

-- so far, those of the first names
abbrev pub invariant-loop-name : goal.invariant-loop-name
invariant-loop-name g l = record {
  calls : l.self.calls.now ≡ l.fn.self.calls.now;
  makes :
      Makes l.names l.names (run_of l.fn.self.calls.now.opening.now l.fn.self.receipts)
      (run_of l.self.calls.now.opening.now l.self.receipts);
  count : length l.ended.items ≡ l.name-index;
  room : length l.names ≤ vec_capacity l.ended;
  ended : ended_names l.ended.items ≡ take l.name-index l.names;
}
