use Rattle.std.proofs.Common.{List, ℕ, ap, ap₂, arith, length, map, ◌∙◌, ◌≡◌}
use Rattle.std.proofs.lemmas.List.{length-map, take_all}
use Rattle.atomic_types.specs.declared.op.Reply.{Reply}
use Rattle.packed_history.specs.Answers.{begun_name}
use Rattle.packed_history.specs.declared.names.Begun.{Begun}
use Rattle.packed_history.proofs.Fronts.{take_before}
use Rattle.packed_history.proofs.Kept.{kept_begun}
use Rattle.packed_history.proofs.answers.Answers.keep_begun.Goals as goal

pub returns-in-None-clause-ok : goal.returns-in-None-clause-ok
returns-in-None-clause-ok c =
    let kept = c.loop-name.invariant.kept in
    let long = ap (λ g. length g.begun) c.self.view_is in
    ap₂ (λ (bs : List Begun) (rs : List Reply). record { begun = bs; replies = rs })
    (c.truncate.ensures.items
    ∙ take_before c.args.self.now.begun kept.0 c.loop-name.self-inside.begun.items c.len-len.result kept.1
    (omega (arith, c.len-len.ensures, c.self.inside.begun.ok.0, long)))
    c.loop-name.invariant.others

pub returns-clause-ok : goal.returns-clause-ok
returns-clause-ok c =
    let kept = c.loop-name.invariant.kept in
    let inside = c.loop-name.self-inside in
    let names = c.args.names.now in
    let long = ap (λ g. length g.begun) c.self.view_is in
    let all : map (begun_name c.args.action.now) kept.0 ≡ names = kept.2 ∙ take_all c.loop-name.name-index names (omega arith) in
    let many = ap (λ (ns : List (List ℕ)). length ns) all in
    kept_begun c.args.self.now (record { begun = inside.begun.items; replies = inside.replies.items }) c.args.action.now names kept.0
    c.in-Ok-Ok.start c.in-Ok-Ok.count kept.1 c.loop-name.invariant.others
    (omega (arith, c.in-Ok-Ok.ensures, c.len-len.ensures, c.self.inside.begun.ok.0, long))
    (omega (arith, c.in-Ok-Ok.ensures', many, length-map kept.0 (begun_name c.args.action.now)))
    all
