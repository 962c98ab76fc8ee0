use Rattle.std.proofs.Common.{true, cond, ◌||◌, [], ◌∷◌, ap, ap₂, sym, ◌∙◌}
use Rattle.std.specs.BTreeSet.{contains}
use Rattle.std.specs.Ordering.{eq_by_cmp}
use Rattle.run_model.specs.declared.answer.Answer.{Answer}
use Rattle.run_model.specs.declared.step.Step.{Step}
use Rattle.run_model.specs.Visibility.{votes_yes}
use Rattle.picture.specs.Losses.{pair_cmp}
use Rattle.picture.proofs.Losing.{prepared_more}
use Rattle.picture.proofs.losses.add_prepared.Goals as goal

pub returns-in_ok-insert : goal.returns-in_ok-insert
returns-in_ok-insert c = λ g n.
    prepared_more c.args.prepared.now c.insert.new.self c.in-Prepare-VoteYes.guardian c.in-Prepare-VoteYes.top g n
    (sym c.is_top.ensures ∙ c.if-is_top.true)
    (c.in_ok-insert.ensures.updates.0 (g, n)
    ∙ ap (λ m. cond (eq_by_cmp pair_cmp (c.in-Prepare-VoteYes.guardian, m) (g, n)) true (contains pair_cmp c.args.prepared.now (g, n))) c.last.ensures)
    ∙ sym (ap₂ (λ (s : Step) (a : Answer). votes_yes s a g (n ∷ []) || contains pair_cmp c.args.prepared.now (g, n)) c.in-Prepare-VoteYes.is-0
    c.in-Prepare-VoteYes.is-1)
