use Rattle.std.proofs.Common.{ap, arith, length, map, sym, ◌<◌, ◌≡◌, ◌∙◌, ℕ}
use Rattle.std.proofs.lemmas.List.{get_or-map, length-map}
use Rattle.std.specs.BTreeMap.{BTreeMap}
use Rattle.values.specs.declared.content.Content.{Content}
use Rattle.argus_engine.proofs.Judgements.{on_err}
use Rattle.script_engine.specs.Storing.{failures_in, held_in}
use Rattle.script_engine.proofs.Saving.{none_changed, one_saved, refused_or_calm}
use Rattle.script_engine.proofs.storing.save_all.Goals as goal

pub returns-in_err-save-clause-err : goal.returns-in_err-save-clause-err
returns-in_err-save-clause-err g c =
    let within : c.loop-index.index < length c.loop-index.stores = omega (arith, c.loop-index-test.true, c.loop-index.auto.stores) in
    on_err c.from_residual.result (
      c.loop-index.index,
      none_changed (held_in g.S.Stable.seen) c.loop-index.stores c.loop-index.index c.index-stores-index.result c.save.new.self within
          c.in_err-save.ensures.makes.changes
          ∙ c.loop-index.invariant.held,
    )

pub loop-index-preserved : goal.loop-index-preserved
loop-index-preserved g c =
    let bases = map (λ (b : BTreeMap ℕ Content). b.entries) c.args.bases.now in
    let at = held_in g.S.Stable.seen in
    let before : length (map at c.args.stores.now) ≡ length c.args.stores.now = length-map c.args.stores.now at in
    let entries : length bases ≡ length c.args.bases.now = length-map c.args.bases.now (λ (b : BTreeMap ℕ Content). b.entries) in
    let within : c.loop-index.index < length c.args.bases.now = omega (arith, c.requires, c.loop-index-test.true) in
    let there : c.loop-index.index < length c.loop-index.stores = omega (arith, c.loop-index-test.true, c.loop-index.auto.stores) in
    record {
      held =
          one_saved at c.loop-index.stores c.loop-index.index c.index-stores-index.result c.save.new.self bases (map at c.args.stores.now)
          c.base_at.result.now.entries there (omega (arith, within, entries)) (omega (arith, c.loop-index-test.true, before))
          (ap (λ (b : BTreeMap ℕ Content). b.entries) c.base_at.ensures
          ∙ sym (get_or-map (λ (b : BTreeMap ℕ Content). b.entries) c.args.bases.now c.loop-index.index c.base_at.result.now c.base_at.result.now.entries within))
          c.in_ok-save.ensures.makes.changes c.loop-index.invariant.held;
      calm =
          none_changed (failures_in g.S.Stable.seen) c.loop-index.stores c.loop-index.index c.index-stores-index.result c.save.new.self there
          c.in_ok-save.ensures.makes.cause
          ∙ c.loop-index.invariant.calm;
    }

pub returns-in_err-save-clause-calm : goal.returns-in_err-save-clause-calm
returns-in_err-save-clause-calm g c =
    let within : c.loop-index.index < length c.loop-index.stores = omega (arith, c.loop-index-test.true, c.loop-index.auto.stores) in
    refused_or_calm _ c.in_err-save.field-0.0 c.from_residual.result c.from_residual.ensures.1 c.in_err-save.ensures.makes.cause
    (λ same. none_changed (failures_in g.S.Stable.seen) c.loop-index.stores c.loop-index.index c.index-stores-index.result c.save.new.self within same
    ∙ c.loop-index.invariant.calm)
