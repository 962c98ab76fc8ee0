use Rattle.std.proofs.Common.{subst, ◌∙◌}
use Rattle.one_run.specs.Pieces.{witness}
use Rattle.one_run.specs.Rules.{Looks}
use Rattle.run_model.specs.Runs.{IsRun}
use Rattle.shared_run.specs.Places.{touches}
use Rattle.locked_run.proofs.Behind.{joined_first, joined_run, joined_second, joined_seen, looked_behind}
use Rattle.locked_run.proofs.shared.Shared.join.Goals as goal

pub new-requires : goal.new-requires
new-requires g c =
    let o = g.K.OfRun.opening in
    let looks = looked_behind o c.args.other (witness c.args.one) c.into_part-part.result.token.me.0 c.into_part.result.token.me.0 c.join.new.part.token.me.0 c.look.new.part.token.me.0
    c.split.new.part.token.me.0 c.into_part-part.ensures.seen c.into_part.ensures.seen c.join.ensures.both
    (subst (λ p. Looks (IsRun p) touches c.join.new.part.token.me.0 c.look.new.part.token.me.0) c.args.self.now.opening c.look.ensures.seen) c.split.ensures.first in
    joined_seen c.into_part-part.ensures.seen c.split.new.part
    (c.split.ensures.of.0 ∙ c.look.ensures.of ∙ c.join.ensures.of ∙ c.into_part-part.ensures.table) looks

pub returns-clause-run : goal.returns-clause-run
returns-clause-run g c =
    let o = g.K.OfRun.opening in
    let looks = looked_behind o c.args.other (witness c.args.one) c.into_part-part.result.token.me.0 c.into_part.result.token.me.0 c.join.new.part.token.me.0 c.look.new.part.token.me.0
    c.split.new.part.token.me.0 c.into_part-part.ensures.seen c.into_part.ensures.seen c.join.ensures.both
    (subst (λ p. Looks (IsRun p) touches c.join.new.part.token.me.0 c.look.new.part.token.me.0) c.args.self.now.opening c.look.ensures.seen) c.split.ensures.first in
    joined_run c.into_part-part.ensures.seen c.new.ensures looks

pub returns-clause-first : goal.returns-clause-first
returns-clause-first g c =
    let o = g.K.OfRun.opening in
    let looks = looked_behind o c.args.other (witness c.args.one) c.into_part-part.result.token.me.0 c.into_part.result.token.me.0 c.join.new.part.token.me.0 c.look.new.part.token.me.0
    c.split.new.part.token.me.0 c.into_part-part.ensures.seen c.into_part.ensures.seen c.join.ensures.both
    (subst (λ p. Looks (IsRun p) touches c.join.new.part.token.me.0 c.look.new.part.token.me.0) c.args.self.now.opening c.look.ensures.seen) c.split.ensures.first in
    joined_first c.into_part-part.ensures.seen c.new.ensures looks

pub returns-clause-second : goal.returns-clause-second
returns-clause-second g c =
    let o = g.K.OfRun.opening in
    let looks = looked_behind o c.args.other (witness c.args.one) c.into_part-part.result.token.me.0 c.into_part.result.token.me.0 c.join.new.part.token.me.0 c.look.new.part.token.me.0
    c.split.new.part.token.me.0 c.into_part-part.ensures.seen c.into_part.ensures.seen c.join.ensures.both
    (subst (λ p. Looks (IsRun p) touches c.join.new.part.token.me.0 c.look.new.part.token.me.0) c.args.self.now.opening c.look.ensures.seen) c.split.ensures.first in
    joined_second c.into_part-part.ensures.seen c.new.ensures looks
