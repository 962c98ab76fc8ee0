use Rattle.std.proofs.Common.{Fits, List, ap, arith, refl, rules, subst, w64, ◌++◌, ◌∙◌}
use Rattle.one_run.specs.Rules.{Counts}
use Rattle.run_model.specs.declared.history.Event.{Event}
use Rattle.run_model.specs.Runs.{IsRun}
use Rattle.shared_run.specs.Places.{touches}
use Rattle.locked_run.specs.Receipts.{runs_of}
use Rattle.locked_run.proofs.Telling.{taken_few, taken_length, taken_runs, taken_tell}
use Rattle.locked_run.proofs.receipts.Receipts.take_in.Goals as goal

pub overflow_add-self : goal.overflow_add-self
overflow_add-self g c =
    let o = g.K.OfRun.opening in
    let counts = subst (λ p. Counts (IsRun p) touches c.join.new.part.token.me.0 c.count.result c.count.new.part.token.me.0) c.args.shared.now.opening c.count.ensures.counted in
    let few = taken_few o c.self.inside.part.token.me.0 c.args.part.token.me.0 _ _ _ c.join.ensures.both c.self.invariant.0.each c.requires.tell.each counts in
    let own = c.self.invariant.1 in
    let other = c.requires.count in
    let number : Fits w64 c.count.result = search rules in
    omega arith

pub invariant_of-self : goal.invariant_of-self
invariant_of-self g c =
    let o = g.K.OfRun.opening in
    let counts = subst (λ p. Counts (IsRun p) touches c.join.new.part.token.me.0 c.count.result c.count.new.part.token.me.0) c.args.shared.now.opening c.count.ensures.counted in
    let many = taken_length o c.self.inside.part.token.me.0 c.args.part.token.me.0 _ _ _ c.join.ensures.both c.self.invariant.0.each c.requires.tell.each counts in
    let own = c.self.invariant.1 in
    let other = c.requires.count in (
      taken_tell o c.self.inside.part.token.me.0 c.args.part.token.me.0 _ _ _ c.join.ensures.both c.self.invariant.0.each c.requires.tell.each counts c.count.new.part
          (c.count.ensures.of ∙ c.join.ensures.of ∙ c.self.invariant.0.of_table) refl,
      omega arith,
    )

pub returns : goal.returns
returns g c =
    let o = g.K.OfRun.opening in
    let counts = subst (λ p. Counts (IsRun p) touches c.join.new.part.token.me.0 c.count.result c.count.new.part.token.me.0) c.args.shared.now.opening c.count.ensures.counted in
    taken_runs o c.self.inside.part.token.me.0 c.args.part.token.me.0 _ _ _ c.join.ensures.both c.self.invariant.0.each c.requires.tell.each counts
    ∙ ap (λ (l : List (List Event)). l ++ runs_of c.args.part.token.me.0) c.self.view_is
