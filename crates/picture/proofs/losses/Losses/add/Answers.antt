use Rattle.std.proofs.Common.{List, cond, ◌==◌, ◌||◌, ◌++◌, [], ◌∷◌, ℕ, ap, ◌∙◌}
use Rattle.std.specs.BTreeMap.{get}
use Rattle.std.specs.BTreeSet.{BTreeSet, contains}
use Rattle.std.specs.Ordering.{nat_cmp}
use Rattle.action_names.specs.Names.{Name}
use Rattle.run_model.specs.Visibility.{votes_yes}
use Rattle.picture.specs.Losses.{exposed_in, pair_cmp}
use Rattle.picture.proofs.Adding.{on_ok}
use Rattle.picture.proofs.Losing.{one_event}
use Rattle.picture.proofs.losses.Losses.add.Goals as goal

pub returns : goal.returns
returns c = λ past bars_are are.
    on_ok c.add_prepared.result c.add_prepared.ensures
    (λ voted.
    one_event c.args.self.now c.lose.new.self _ c.args.bars.now c.args.event.now c.home_in-home.result past bars_are are c.in_ok-lose.ensures.exposed
    c.in_ok-lose.ensures.lost (c.home_in-home.ensures past bars_are)
    (λ g. c.in_ok-add_exposed.ensures g
    ∙ ap (λ (names : List Name). cond (c.home_in-home.result == g) (exposed_in (get nat_cmp c.lose.new.self.exposed g) ++ names)
    (exposed_in (get nat_cmp c.lose.new.self.exposed g))) c.names_begun.ensures)
    (λ g n. voted g n
    ∙ ap (λ (s : BTreeSet (ℕ × ℕ)). votes_yes c.args.event.now.step c.args.event.now.answer g (n ∷ []) || contains pair_cmp s (g, n))
    c.in_ok-lose.ensures.prepared))
