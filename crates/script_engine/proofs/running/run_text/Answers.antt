use Rattle.std.proofs.Common.{[], ap, arith, length, map, sym, ◌<◌, ◌≡◌, ◌∙◌, ℕ}
use Rattle.std.proofs.lemmas.List.{get_or-map, length-map}
use Rattle.std.specs.BTreeMap.{BTreeMap}
use Rattle.values.specs.declared.content.Content.{Content}
use Rattle.script_engine.specs.Running.{base_lines, end_line, numbered}
use Rattle.script_engine.proofs.Reporting.{one_more_said}
use Rattle.script_engine.proofs.running.run_text.Goals as goal

pub loop-index-preserved : goal.loop-index-preserved
loop-index-preserved c =
    one_more_said end_line c.args.ends.now c.loop-index.index c.index-ends-index.result [] _ _ (omega (arith, c.loop-index-test.true)) c.index-ends-index.is
    c.loop-index.invariant c.in_ok-push_end.ensures

pub loop-index-2-preserved : goal.loop-index-2-preserved
loop-index-2-preserved c =
    let entries = λ (b : BTreeMap ℕ Content). b.entries in
    let i = c.loop-index-2.index in
    let within : i < length c.args.bases.now = omega (arith, c.loop-index-2-test.true) in
    let count : length (map entries c.args.bases.now) ≡ length c.args.bases.now = length-map c.args.bases.now entries in
    one_more_said base_lines (map entries c.args.bases.now) i c.index-bases-index.result.entries (numbered end_line 1 c.args.ends.now) _ _
    (omega (arith, within, count))
    (ap entries c.index-bases-index.is ∙ sym (get_or-map entries c.args.bases.now i c.index-bases-index.result c.index-bases-index.result.entries within))
    c.loop-index-2.invariant c.in_ok-push_bases.ensures
