use Rattle.std.proofs.Common.{map, true, false, sym, ap, ◌∙◌}
use Rattle.std.specs.List.{list_any}
use Rattle.serde_json.specs.View.{members_view}
use Rattle.serde_json.proofs.Views.{Entry}
use Rattle.values.specs.Words.{same_bytes}
use Rattle.script_model.specs.Shapes.{has_only}
use Rattle.script_parts.proofs.Members.{has_only-step}
use Rattle.script_parts.proofs.shapes.has_only.Goals as goal

pub returns-then-not-is_among : goal.returns-then-not-is_among
returns-then-not-is_among c =
    let names = c.args.names.now in
    let e : Entry = (c.in-Some.name.now, c.in-Some.field-0-1.now) in
    let tested = c.if-not-is_among.ensures ∙ ap (λ bs. list_any (λ n. same_bytes n.now bs) names) c.as_str.ensures.value in
    sym (c.loop-name.invariant ∙ ap (λ es. has_only (map (λ n. n.now) names) (members_view es)) c.in-Some.ensures.steps
    ∙ has_only-step names e c.next.new.self false tested)

pub loop-name-preserved : goal.loop-name-preserved
loop-name-preserved c =
    let names = c.args.names.now in
    let e : Entry = (c.in-Some.name.now, c.in-Some.field-0-1.now) in
    let tested = c.if-not-is_among.ensures ∙ ap (λ bs. list_any (λ n. same_bytes n.now bs) names) c.as_str.ensures.value in
    c.loop-name.invariant ∙ ap (λ es. has_only (map (λ n. n.now) names) (members_view es)) c.in-Some.ensures.steps
    ∙ has_only-step names e c.next.new.self true tested
