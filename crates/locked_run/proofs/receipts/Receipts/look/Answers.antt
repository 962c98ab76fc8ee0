use Rattle.std.proofs.Common.{ap, length, subst, sym, ◌++◌, ◌∙◌, ◌∷◌, ◌≡◌}
use Rattle.one_run.specs.Pieces.{witness}
use Rattle.one_run.specs.Rules.{Counts}
use Rattle.run_model.specs.Runs.{IsRun}
use Rattle.shared_run.specs.Places.{touches}
use Rattle.locked_run.specs.Receipts.{StandIn, runs_of}
use Rattle.locked_run.proofs.Telling.{looked_length, looked_runs, looked_seen, looked_stand, looked_tell}
use Rattle.locked_run.proofs.receipts.Receipts.look.Goals as goal

pub invariant_of-self : goal.invariant_of-self
invariant_of-self g c =
    let o = g.K.OfRun.opening in
    let v = c.self.inside.part.token.me.0 in
    let all : c.join.new.part.token.me.0 ≡ witness c.args.seen ∷ v = c.join.ensures.both ∙ ap (λ u. u ++ c.take-own.result.token.me.0) c.into_part-part.ensures.seen
    ∙ ap (λ u. witness c.args.seen ∷ u) c.take-own.ensures.taken in
    let counts = subst (λ p. Counts (IsRun p) touches c.join.new.part.token.me.0 c.count.result c.count.new.part.token.me.0) c.args.shared.now.opening c.count.ensures.counted in (
      looked_tell o c.args.seen v _ _ _ all c.self.invariant.0.each counts c.split.result
          (c.split.ensures.of.1 ∙ c.count.ensures.of ∙ c.join.ensures.of ∙ c.into_part-part.ensures.table) c.split.ensures.others,
      c.self.invariant.1 ∙ sym (ap length c.split.ensures.others ∙ looked_length o c.args.seen v _ _ _ all c.self.invariant.0.each counts),
    )

pub returns-clause-stand : goal.returns-clause-stand
returns-clause-stand g c =
    let o = g.K.OfRun.opening in
    let v = c.self.inside.part.token.me.0 in
    let all : c.join.new.part.token.me.0 ≡ witness c.args.seen ∷ v = c.join.ensures.both ∙ ap (λ u. u ++ c.take-own.result.token.me.0) c.into_part-part.ensures.seen
    ∙ ap (λ u. witness c.args.seen ∷ u) c.take-own.ensures.taken in
    let counts = subst (λ p. Counts (IsRun p) touches c.join.new.part.token.me.0 c.count.result c.count.new.part.token.me.0) c.args.shared.now.opening c.count.ensures.counted in
    subst (λ runs. StandIn c.new.result runs) c.self.view_is
    (looked_stand o c.args.seen v _ _ _ all c.self.invariant.0.each counts c.new.result
    (c.new.ensures ∙ looked_seen o c.args.seen v _ _ _ all c.self.invariant.0.each counts c.split.new.part c.split.ensures.first))

pub returns-clause-same : goal.returns-clause-same
returns-clause-same g c =
    let o = g.K.OfRun.opening in
    let v = c.self.inside.part.token.me.0 in
    let all : c.join.new.part.token.me.0 ≡ witness c.args.seen ∷ v = c.join.ensures.both ∙ ap (λ u. u ++ c.take-own.result.token.me.0) c.into_part-part.ensures.seen
    ∙ ap (λ u. witness c.args.seen ∷ u) c.take-own.ensures.taken in
    let counts = subst (λ p. Counts (IsRun p) touches c.join.new.part.token.me.0 c.count.result c.count.new.part.token.me.0) c.args.shared.now.opening c.count.ensures.counted in
    ap runs_of c.split.ensures.others ∙ looked_runs o c.args.seen v _ _ _ all c.self.invariant.0.each counts ∙ c.self.view_is
