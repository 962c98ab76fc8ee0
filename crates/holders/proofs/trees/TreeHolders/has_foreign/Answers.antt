use Rattle.std.proofs.Common.{◌≡◌, ◌&&◌, not, map, rules, sym, ◌∙◌}
use Rattle.std.specs.Prelude.{is_some}
use Rattle.std.specs.Map.Iter.{deref_pair}
use Rattle.std.proofs.lemmas.Map.Iter.{iter_end}
use Rattle.action_names.specs.Names.{is_ancestor}
use Rattle.holders.proofs.Rows.{any_more}
use Rattle.holders.proofs.Looks.{found_one, found_none}
use Rattle.holders.proofs.trees.TreeHolders.has_foreign.Goals as goal

pub loop-holder-preserved : goal.loop-holder-preserved
loop-holder-preserved g c =
    any_more deref_pair (λ r. is_some r.1 && not (is_ancestor r.0 c.args.action.now)) c.loop-holder.yielded (c.in-Some.holder, c.in-Some.row) c.loop-holder.invariant
    (sym c.is_foreign.ensures ∙ c.if-is_foreign.false)

pub returns-then-is_foreign : goal.returns-then-is_foreign
returns-then-is_foreign g c =
    found_one deref_pair _ c.self.inside.rows.entries (λ b. not (is_ancestor b c.args.action.now)) c.loop-holder.yielded _ _ _ _ (c.in-Some.holder, c.in-Some.row)
    c.self.view_is (c.into_iter-holder-iterator.ensures.into_iter_gives ∙ c.iter-holder-items.ensures.rest) c.loop-holder.yielded_by c.in-Some.is c.next.ensures.steps
    (sym c.is_foreign.ensures ∙ c.if-is_foreign.true)

pub returns : goal.returns
returns g c =
    let all : map deref_pair c.loop-holder.yielded ≡ c.self.inside.rows.entries = search (rules, iter_end) in
    found_none deref_pair _ c.self.inside.rows.entries (λ b. not (is_ancestor b c.args.action.now)) c.loop-holder.yielded c.self.view_is all c.loop-holder.invariant
