use Rattle.std.proofs.Common.{◌≡◌, ap, subst, ◌∙◌}
use Rattle.std.specs.Bool.{OnFalse}
use Rattle.std.specs.FinSet as set
use Rattle.stable_store.specs.Held.{held}
use Rattle.stable_store.proofs.Maps.{grown}
use Rattle.sql_store.proofs.Known.{undone, not_false}
use Rattle.sql_store.proofs.Made.{as_ok, as_err}
use Rattle.sql_store.proofs.calls.decide.Goals as goal
use Rattle.sql_store.proofs.calls.decide.Goals.{then-added, else-added}

pub returns-in-Ok-decide-clause-changes : goal.returns-in-Ok-decide-clause-changes
returns-in-Ok-decide-clause-changes g c =
    ap (λ d. record (held c.args.kept.now) { decided = d }) (grown _ _ c.args.top c.in-Ok.ensures.updates.0)

pub returns-in-Ok-decide-clause-carries : goal.returns-in-Ok-decide-clause-carries
returns-in-Ok-decide-clause-carries g c stands = as_ok (c.in-Ok-decide.ensures.carries (held c.args.kept.now) stands)

pub returns-after-added-clause-changes : goal.returns-after-added-clause-changes
returns-after-added-clause-changes g c = elim c.if-added.branch [
  | then-added w ↦ ap held w.kept-is
      ∙ ap (λ d. record (held c.args.kept.now) { decided = d }) (undone _ _ _ c.args.top (not_false _ _ c.in-Ok.ensures.added w.if-added.true) c.in-Ok.ensures.updates.0 w.remove.ensures.updates.0)
  | else-added w ↦ ap held w.kept-is
      ∙ ap (λ ks. record (held c.args.kept.now) { decided = set.from_list ks }) (subst (λ b. OnFalse b (c.insert.new.self.keys ≡ c.args.kept.now.decided.keys)) w.if-added.false c.in-Ok.ensures.unchanged)
]

pub returns-after-added-clause-carries : goal.returns-after-added-clause-carries
returns-after-added-clause-carries g c stands = as_err (c.in-Err.ensures.carries (held c.args.kept.now) stands)
