use Rattle.std.proofs.Common.{[], MatchOption, None, ap, subst, sym, ◌∙◌, ◌≡◌}
use Rattle.std.specs.FinMap as map
use Rattle.std.specs.Option.{option_and_then}
use Rattle.run_model.specs.LocalHistories.{dependency_there, entries_of}
use Rattle.action_forest.specs.Trees.{said, trees}
use Rattle.action_forest.proofs.Said.{entries_nowhere, entries_read}
use Rattle.action_forest.proofs.forest.Forest.depends.Goals as goal

pub returns-in_err-node : goal.returns-in_err-node
returns-in_err-node c = record {
  least = λ opening registry h g.
      ap (option_and_then (λ depends. map.get depends.now g)) c.from_residual.ensures
      ∙ ap (said (λ action. map.get action.depends g) None) c.in_err-node.ensures
      ∙ h.depends c.args.path.now g;
  entries = λ opening registry h.
      let its = entries_of opening (λ g. dependency_there c.args.path.now g registry) in
      subst (λ found. MatchOption found (its ≡ []) (λ depends. map.entries depends.now ≡ its)) (sym c.from_residual.ensures)
      (entries_nowhere opening registry (trees c.args.self.now) h c.args.path.now (sym c.in_err-node.ensures));
}

pub returns : goal.returns
returns c = record {
  least = λ opening registry h g.
      ap (said (λ action. map.get action.depends g) None) c.in_ok-node.ensures ∙ h.depends c.args.path.now g;
  entries = λ opening registry h.
      entries_read opening registry (trees c.args.self.now) h c.args.path.now _
      (λ g. ap (said (λ action. map.get action.depends g) None) c.in_ok-node.ensures);
}
