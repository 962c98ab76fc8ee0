use Rattle.std.proofs.Common.{ap, sym, ◌&&◌, ◌∙◌}
use Rattle.std.specs.List.{list_all}
use Rattle.std.specs.Map.{values_of}
use Rattle.stable_store.specs.Held.{record_of}
use Rattle.store_recovery.specs.Belonging.{all_suit, record_belongs}
use Rattle.store_recovery.proofs.Fitting.{belongs_by, belongs_not}
use Rattle.store_recovery.proofs.checking.belongs.Goals as goal

pub returns-then-all_suit : goal.returns-then-all_suit
returns-then-all_suit c =
    let kept = c.args.kept.now in
    let are = c.objects-objects.ensures.found c.requires in
    sym (ap (λ b. b && c.records_belong.result) c.if-all_suit.true)
    ∙ belongs_by c.args.setup.now c.args.guardian kept c.all_suit.result c.records_belong.result
    (c.all_suit.ensures.suit ∙ ap (λ os. all_suit os kept.base.entries) are) c.all_suit.ensures.rising
    (c.records_belong.ensures.belong ∙ ap (λ os. list_all (λ r. record_belongs c.args.setup.now os (record_of r)) (values_of kept.prepared.entries)) are)
    c.records_belong.ensures.rising

pub returns-else-all_suit : goal.returns-else-all_suit
returns-else-all_suit c =
    let kept = c.args.kept.now in
    belongs_not c.args.setup.now c.args.guardian kept c.all_suit.result
    (c.all_suit.ensures.suit ∙ ap (λ os. all_suit os kept.base.entries) (c.objects-objects.ensures.found c.requires)) c.all_suit.ensures.rising
    c.if-all_suit.false
