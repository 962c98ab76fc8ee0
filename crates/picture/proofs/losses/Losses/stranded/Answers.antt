use Rattle.std.proofs.Common.{◌≡◌, List, is_some, map, rules, ap, ◌∙◌}
use Rattle.std.specs.BTreeMap.{get}
use Rattle.std.specs.Map.Iter.{deref}
use Rattle.std.proofs.lemmas.Map.Iter.{iter_end}
use Rattle.action_names.specs.Names.{Name, name_cmp}
use Rattle.picture.proofs.Stranded.{are_stranded, one_settled, settled_among}
use Rattle.picture.proofs.losses.Losses.stranded.Goals as goal

pub loop-name-preserved : goal.loop-name-preserved
loop-name-preserved c = λ q.
    one_settled (λ x. is_some (get name_cmp c.args.bars.now.committed x)) c.loop-name.yielded c.in-Some.name c.loop-name.stranded c.insert.new.self
    c.in_ok-settled.field-0 q c.in_ok-settled.ensures (c.loop-name.invariant q) (c.in_ok-insert.ensures.updates.0 q)

pub returns : goal.returns
returns c = λ past bars_are are.
    let all : map deref c.loop-name.yielded ≡ c.args.self.now.lost.keys = search (rules, iter_end) in
    are_stranded c.args.bars.now c.args.self.now c.loop-name.stranded past bars_are are
    (λ q. c.loop-name.invariant q ∙ ap (λ (names : List Name). settled_among (λ x. is_some (get name_cmp c.args.bars.now.committed x)) names q) all)
