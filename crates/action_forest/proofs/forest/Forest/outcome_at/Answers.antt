use Rattle.std.proofs.Common.{Some, ap, cond, sym, ◌∙◌}
use Rattle.std.specs.Prelude.{Option, None, Bool}
use Rattle.action_names.specs.Names.{Name}
use Rattle.action_forest.proofs.WalksOutcome.{no_node, node_at, none_untold, there_untold, unless_told}
use Rattle.action_forest.specs.Trees.{action_in, trees}
use Rattle.action_forest.proofs.forest.Forest.outcome_at.Goals as goal

pub returns-in_default : goal.returns-in_default
returns-in_default g c = λ told hears opening registry h.
    let self = c.args.self.now in
    sym (none_untold opening registry (trees self) h told c.args.at
    (no_node self.nodes.items c.deref.result.now c.args.at c.get.result c.deref.ensures.value c.get.ensures.lookup.3 c.in_default.is))

pub returns-in_default-outcome_of : goal.returns-in_default-outcome_of
returns-in_default-outcome_of g c = λ told hears opening registry h.
    let self = c.args.self.now in
    let node = c.in-Some.node.now in
    let at = node_at self.nodes.items c.deref.result.now c.args.at c.get.result c.in-Some.node c.deref.ensures.value c.get.ensures.lookup.3 c.in-Some.is in
    sym (there_untold opening registry (trees self) h told c.args.at (action_in node) at
    ∙ ap (unless_told told node.name) (sym c.outcome_of.ensures ∙ c.in_default-outcome_of.is))

pub returns-then-was_told : goal.returns-then-was_told
returns-then-was_told g c = λ told hears opening registry h.
    let self = c.args.self.now in
    let node = c.in-Some.node.now in
    let at = node_at self.nodes.items c.deref.result.now c.args.at c.get.result c.in-Some.node c.deref.ensures.value c.get.ensures.lookup.3 c.in-Some.is in
    sym (there_untold opening registry (trees self) h told c.args.at (action_in node) at
    ∙ ap (unless_told told node.name) (sym c.outcome_of.ensures ∙ c.in-Some-outcome_of.is)
    ∙ ap (λ t. cond {A = Option (Name × Bool)} t None (Some (node.name, c.in-Some-outcome_of.committed)))
    (sym (c.was_told.ensures told hears) ∙ c.if-was_told.true))

pub returns : goal.returns
returns g c = λ told hears opening registry h.
    let self = c.args.self.now in
    let node = c.in-Some.node.now in
    let at = node_at self.nodes.items c.deref.result.now c.args.at c.get.result c.in-Some.node c.deref.ensures.value c.get.ensures.lookup.3 c.in-Some.is in
    sym (there_untold opening registry (trees self) h told c.args.at (action_in node) at
    ∙ ap (unless_told told node.name) (sym c.outcome_of.ensures ∙ c.in-Some-outcome_of.is)
    ∙ ap (λ t. cond {A = Option (Name × Bool)} t None (Some (node.name, c.in-Some-outcome_of.committed)))
    (sym (c.was_told.ensures told hears) ∙ c.if-was_told.false)
    ∙ ap (λ b. let outcome : Name × Bool = (b, c.in-Some-outcome_of.committed) in Some outcome) (sym c.in_ok-copy.ensures.ok.1))
