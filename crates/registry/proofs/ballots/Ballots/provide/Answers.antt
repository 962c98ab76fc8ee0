use Rattle.std.proofs.Common.{Some, ap, arith, cond, is_some, ◌∙◌}
use Rattle.run_laws.proofs.Names.{eqb_self}
use Rattle.registry.proofs.Votes.{more, same_entries, under}
use Rattle.registry.proofs.ballots.Ballots.provide.Goals as goal

pub returns-in_err-insert-clause-same : goal.returns-in_err-insert-clause-same
returns-in_err-insert-clause-same c = same_entries c.args.self.now.ballots.entries c.insert.new.self.entries c.in_err-insert.ensures.err

pub returns-in_ok-insert : goal.returns-in_ok-insert
returns-in_ok-insert c =
    record {
      same =
          more c.args.self.now.ballots.entries c.insert.new.self.entries c.args.number c.new.result (grind arith)
          c.in_ok-insert.ensures.updates.0 c.new.ensures;
      there =
          ap is_some (c.in_ok-insert.ensures.updates.0 c.args.number)
          ∙ ap (λ t. is_some (cond t (Some c.new.result) (under c.args.self.now.ballots.entries c.args.number))) (eqb_self c.args.number);
    }
