use Rattle.std.proofs.Common.{length, vec_capacity, ◌≡◌, ◌≤◌}
use Rattle.std.specs.List.{AllZip}
use Rattle.locked_run.specs.Settling.{HaveJoined, IsSettled}
use Rattle.locked_run.proofs.closing.settle_guardians.Given as goal

abbrev pub invariant-loop-held : goal.invariant-loop-held
invariant-loop-held g l = record {
  can_next : (goal.iterator-loop-held g).can_next l.held-iterator;
  is_finite : (goal.iterator-loop-held g).is_finite l.held-iterator;
  table : l.part.token.table_id ≡ g.K.OfRun.table;
  parts : HaveJoined l.yielded l.fn.part.token.me.0 l.part.token.me.0;
  each : AllZip (IsSettled g.G.Guardian.stands g.G.Guardian.stored g.K.OfRun.opening) l.yielded l.ended.items;
  count : length l.ended.items ≡ length l.yielded;
  room : length l.fn.guardians.items ≤ vec_capacity l.ended;
}
