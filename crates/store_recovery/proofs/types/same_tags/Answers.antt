use Rattle.std.proofs.Common.{rules, tests}
use Rattle.std.proofs.lemmas.Iterator.{YieldsList-from_slice, YieldsList-from_zip}
use Rattle.std.proofs.lemmas.Iterator.Search.{all_from_yields_List}
use Rattle.store_recovery.specs.Belonging.{same_tag}
use Rattle.store_recovery.proofs.Alike.{alike_by_pairs}
use Rattle.store_recovery.proofs.types.same_tags.Goals as goal

pub returns-then-tags-others : goal.returns-then-tags-others
returns-then-tags-others c =
    alike_by_pairs same_tag c.args.tags.now c.args.others.now c.all.result c.if-tags-others.true
    (all_from_yields_List (λ p. same_tag p.0 p.1) c.all.new.self _ c.all.result c.all.ensures.ran
    (YieldsList-from_zip (YieldsList-from_slice c.args.tags.now (cc)) (YieldsList-from_slice c.args.others.now (cc))) (λ x b q k. search (rules, tests)))
