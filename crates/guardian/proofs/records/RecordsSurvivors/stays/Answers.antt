use Rattle.std.proofs.Common.{ap, sym, ◌∙◌}
use Rattle.std.specs.Option.{option_map}
use Rattle.guardian.proofs.Recorded.{recorded_is}
use Rattle.guardian.proofs.records.RecordsSurvivors.stays.Goals as goal

pub returns-then-is_top : goal.returns-then-is_top
returns-then-is_top c =
    recorded_is (option_map (λ kept. kept.now) c.args.self.now.kept) c.in-Some.kept.now c.args.holder.now c.contains_key.result c.last.result
    (ap (λ o. option_map (λ kept. kept.now) o) c.in-Some.is) (sym c.is_top.ensures ∙ c.if-is_top.true) c.last.ensures c.contains_key.ensures
