use Rattle.std.proofs.Common.{arith, sym, take, ◌+◌, ◌∙◌}
use Rattle.action_names.specs.Names.{has_name}
use Rattle.orphans.specs.Logs.{known_names}
use Rattle.orphans.proofs.Ancestry.{no_ancestor, some_ancestor}
use Rattle.orphans.proofs.Turned.{nobody_named}
use Rattle.orphans.proofs.lists.Lists.knows_abort_above.Goals as goal

pub returns-then-len-eq0 : goal.returns-then-len-eq0
returns-then-len-eq0 c =
    sym (no_ancestor (λ b. has_name (known_names c.args.self.now.aborts) b) c.args.path.now
    (λ k lt. nobody_named (known_names c.args.self.now.aborts) (take (k + 1) c.args.path.now) (sym c.len.ensures ∙ c.if-len-eq0.true)))

pub returns-then-contains : goal.returns-then-contains
returns-then-contains c =
    sym (some_ancestor (λ b. has_name (known_names c.args.self.now.aborts) b) c.args.path.now c.loop-depth.depth (omega (arith, c.loop-depth-test.true))
    (sym c.contains.ensures ∙ c.if-contains.true))

pub returns : goal.returns
returns c =
    sym (no_ancestor (λ b. has_name (known_names c.args.self.now.aborts) b) c.args.path.now
    (λ k lt. c.loop-depth.invariant k (omega (arith, lt, c.loop-depth-test.false))))
