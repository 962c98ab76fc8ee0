use Rattle.std.proofs.Common.{◌≡◌, sym, ap, ◌∙◌, rules}
use Rattle.std.specs.Map.Iter.{deref_pair}
use Rattle.std.proofs.lemmas.Map.Iter.{rest_more}
use Rattle.atomic_types.specs.Parts.{over}
use Rattle.stable_store.specs.Held.{parts_in}
use Rattle.stable_store.specs.Numbers.{has_zero}
use Rattle.stable_store.proofs.Maps.{get_is}
use Rattle.store_tables.specs.Changes.{all_put}
use Rattle.sql_store.specs.Mirror.{over_each}
use Rattle.sql_store.proofs.Over.{one_over, put_is_laid, zero_over}
use Rattle.sql_store.proofs.mirror.installed_over.Goals as goal

pub loop-object-preserved : goal.loop-object-preserved
loop-object-preserved c =
    let taken = rest_more deref_pair _ _ _ (c.in-Some.field-0-0, c.in-Some.part) c.in-Some.is c.next.ensures.steps in
    let base = parts_in c.args.base.now in
    one_over base _ _ _ _ _ _ _ _ c.into_iter-object-iterator.ensures.into_iter_gives.5 c.loop-object.invariant taken
    c.in_ok-insert.ensures.entries
    (c.in_ok-part.ensures ∙ ap (over c.in-Some.part.now) (c.get.ensures.value ∙ sym (get_is c.args.base.now.entries c.in-Some.field-0-0.now)))

pub returns-clause-put : goal.returns-clause-put
returns-clause-put c =
    let base = parts_in c.args.base.now in
    let all : c.loop-object.installed.entries ≡ over_each c.args.parts.now.entries base = search rules in
    ap (λ es. all_put es base) all ∙ put_is_laid base c.args.parts.now.entries c.into_iter-object-iterator.ensures.into_iter_gives.5

pub returns-clause-above : goal.returns-clause-above
returns-clause-above c =
    let base = parts_in c.args.base.now in
    let all : c.loop-object.installed.entries ≡ over_each c.args.parts.now.entries base = search rules in
    ap has_zero all ∙ zero_over c.args.parts.now.entries base
