use Rattle.std.proofs.Common.{ap, sym, ◌∙◌}
use Rattle.holders.specs.Held.{names_of}
use Rattle.moss_locks.proofs.Names.{from_not, names_put}
use Rattle.moss_locks.proofs.of_class.put_other.Goals as goal

pub returns-then-ne-clause-names : goal.returns-then-ne-clause-names
returns-then-ne-clause-names c =
    rw (from_not _ (sym c.if-ne.true ∙ c.ne.ensures)) (ap names_of c.put.ensures.held ∙ names_put c.args.holders.now.held c.args.next.now tt)
