use Rattle.std.proofs.Common.{List, [], ap, subst, ◌∙◌, ◌∷◌}
use Rattle.one_run.specs.Pieces.{witness}
use Rattle.one_run.specs.Rules.{Looks}
use Rattle.run_model.specs.declared.history.Event.{Event}
use Rattle.run_model.specs.Runs.{IsRun}
use Rattle.shared_run.specs.Places.{touches}
use Rattle.locked_run.proofs.Behind.{looked_behind}
use Rattle.locked_run.proofs.gathering.look_behind.Goals as goal

pub returns-clause-looks : goal.returns-clause-looks
returns-clause-looks g c =
    let o = g.K.OfRun.opening in
    looked_behind o c.args.earlier.now c.requires.one.0 c.args.part.now.token.me.0 c.into_part.result.token.me.0 c.join.new.part.token.me.0 c.look.new.part.token.me.0 c.split.new.part.token.me.0
    c.requires.one.1 (c.into_part.ensures.seen ∙ ap (λ (l : List Event). witness l ∷ []) c.copy.ensures.copied) c.join.ensures.both
    (subst (λ p. Looks (IsRun p) touches c.join.new.part.token.me.0 c.look.new.part.token.me.0) c.args.shared.now.opening c.look.ensures.seen) c.split.ensures.first
