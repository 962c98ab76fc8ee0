use Rattle.std.proofs.Common.{ap, length, subst, sym, ◌∙◌, ◌≡◌, ◌&&◌}
use Rattle.one_run.specs.Pieces.{seen_of}
use Rattle.run_model.specs.Answers.{answer_of}
use Rattle.world_steps.specs.Standings.{forest_of}
use Rattle.world_steps.proofs.Led.{answers_alone}
use Rattle.locked_run.specs.Acting.{IsAnswered, is_out}
use Rattle.locked_run.proofs.Acted.{answered_only}
use Rattle.locked_run.proofs.Named.{counted_is, names_are, nobody_is, refused_nobody, uncovered}
use Rattle.locked_run.proofs.stepping.step_nobody.Goals as goal

pub returns-then-not-names_nobody : goal.returns-then-not-names_nobody
returns-then-not-names_nobody g c =
    let o = g.K.OfRun.opening in
    let past = seen_of c.args.part.now.token.me.0 in
    let n = c.named-named.result in
    let count = counted_is o past c.opening.result.now c.setup.result.now c.guardians.result (c.opening.ensures.opening (forest_of o past) c.requires.there) c.setup.ensures c.guardians.ensures.value in
    sym (nobody_is o past c.requires.run c.named-named.ensures c.requires.there (length o.setup))
    ∙ ap (λ m. is_out m n.first && is_out m n.second) (sym count)
    ∙ sym c.names_nobody.ensures ∙ c.if-not-names_nobody.true

pub returns : goal.returns
returns g c =
    let o = g.K.OfRun.opening in
    let past = seen_of c.args.part.now.token.me.0 in
    let step = c.args.step.now in
    let n = c.named-named.result in
    let r = c.requires.run in
    let count = counted_is o past c.opening.result.now c.setup.result.now c.guardians.result (c.opening.ensures.opening (forest_of o past) c.requires.there) c.setup.ensures c.guardians.ensures.value in
    let nobody = ap (λ m. is_out m n.first && is_out m n.second) (sym count) ∙ sym c.names_nobody.ensures ∙ c.if-not-names_nobody.false in
    let out = uncovered (length o.setup) n.first n.second nobody in
    let answer : c.in_ok-answer.answer ≡ answer_of o step past =
    c.in_ok-answer.ensures (forest_of o past) c.requires.there
    ∙ answers_alone past o step n.first n.second r (names_are o past r c.named-named.ensures c.requires.there) out.0 out.1 in
    let refused = refused_nobody o step past r (sym (nobody_is o past r c.named-named.ensures c.requires.there (length o.setup)) ∙ nobody) in
    let a = c.without_event.result in (
      subst (λ receipt. IsAnswered o step a.answer receipt past) (sym c.without_event.ensures.receipt)
          (answered_only r (c.without_event.ensures.answer ∙ answer) (ap Rattle.run_model.specs.Runs.is_accepted (c.without_event.ensures.answer ∙ answer) ∙ refused)),
      c.without_event.ensures.receipt,
    )
