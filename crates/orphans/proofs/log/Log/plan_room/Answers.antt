use Rattle.std.proofs.Common.{ap, sym, ◌∙◌}
use Rattle.action_names.specs.Names.{has_name}
use Rattle.orphans.proofs.Indexing.{indexed_moved}
use Rattle.orphans.proofs.log.Log.plan_room.Goals as goal

pub invariant_of-self-2 : goal.invariant_of-self-2
invariant_of-self-2 c = record {
  indexed = λ a.
      indexed_moved c.args.self.now.names.items _ _ c.args.self.now.indexed c.reserve-2.ensures.keys.0 a
      ∙ ap (λ xs. has_name xs a) (sym c.reserve.ensures.items);
}
