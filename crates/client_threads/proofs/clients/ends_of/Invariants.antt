use Rattle.std.proofs.Common.{List, length, take, vec_capacity, ◌≡◌, ◌≤◌}
use Rattle.script_model.specs.declared.checked.Client.{Client}
use Rattle.client_threads.specs.Clients.{AllDid, AreDone}
use Rattle.client_threads.proofs.clients.ends_of.Given as goal

-- so far, the first clients did what their ends say
abbrev pub invariant-loop-one : goal.invariant-loop-one
invariant-loop-one g l = record {
  can_next : (goal.iterator-loop-one g).can_next l.one-iterator;
  is_finite : (goal.iterator-loop-one g).is_finite l.one-iterator;
  count : length l.ends.items ≡ length l.yielded;
  room : length l.fn.done.items ≤ vec_capacity l.ends;
  did : (clients : List Client) → AreDone clients l.fn.done.items → AllDid (take (length l.yielded) clients) l.ends.items l.receipts;
}
