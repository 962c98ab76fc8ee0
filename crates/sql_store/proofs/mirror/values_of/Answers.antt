use Rattle.std.proofs.Common.{◌≡◌, rules, ap, ◌∙◌}
use Rattle.std.specs.Map.Iter.{deref_pair}
use Rattle.std.proofs.lemmas.Map.Iter.{rest_more}
use Rattle.atomic_types.specs.declared.part.Part.TheVariants.{Value}
use Rattle.stable_store.proofs.Ordered.{all_seen}
use Rattle.stable_store.specs.Stored.{values_of}
use Rattle.stable_store.specs.Numbers.{has_zero}
use Rattle.sql_store.proofs.Over.{zero_values}
use Rattle.sql_store.proofs.mirror.values_of.Goals as goal

pub loop-object-preserved : goal.loop-object-preserved
loop-object-preserved c =
    let taken = rest_more deref_pair _ _ _ (c.in-Some.field-0-0, c.in-Some.content) c.in-Some.is c.next.ensures.steps in
    all_seen (λ v. Value v) _ _ _ _ _ _ _ _ c.into_iter-object-iterator.ensures.into_iter_gives.5 c.loop-object.invariant taken
    c.in_ok-insert.ensures.entries (ap (λ v. Value v) c.in_ok-copy.ensures.same)

pub returns-clause-above : goal.returns-clause-above
returns-clause-above c =
    let all : c.loop-object.values.entries ≡ values_of c.args.contents.now.entries = search rules in
    ap has_zero all ∙ zero_values c.args.contents.now.entries
