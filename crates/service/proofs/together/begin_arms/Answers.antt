use Rattle.std.proofs.Common.{ap₂, sym, ◌∙◌, ◌∷◌, []}
use Rattle.std.specs.List.{each_same}
use Rattle.service.proofs.ArmEnds.{part_same}
use Rattle.service.proofs.ArmsBegin.{begun_both, none_of_two, of_two, two_named}
use Rattle.service.proofs.together.begin_arms.Goals as goal

pub both-one-requires : goal.both-one-requires
both-one-requires g c =
    let run = g.W.MakesOwnSteps.run in
    let sees = g.W.MakesOwnSteps.sees in
    let leaves = g.W.MakesOwnSteps.leaves in
    let old = c.args.service.now.world in
    let new = c.begin_arms.new.self.world in
    two_named run sees leaves c.args.at.now.action old new c.in_ok-begin_arms.field-0
    (of_two run sees leaves c.args.at.now.action old new c.in_ok-kinds.kinds c.in_ok-begin_arms.field-0 c.in_ok-kinds.ensures c.in_ok-begin_arms.ensures)

pub returns-clause-call : goal.returns-clause-call
returns-clause-call g c =
    let run = g.W.MakesOwnSteps.run in
    let sees = g.W.MakesOwnSteps.sees in
    let leaves = g.W.MakesOwnSteps.leaves in
    let old = c.args.service.now.world in
    let new = c.begin_arms.new.self.world in
    begun_both run sees leaves c.args.at.now.action old new c.in_ok-begin_arms.field-0 c.arm_at.result c.arm_at-2.result
    (c.both-one.ensures ∙ ap₂ (λ one other. one ∷ other ∷ []) (sym c.arm_at.ensures.action) (sym c.arm_at-2.ensures.action))
    (of_two run sees leaves c.args.at.now.action old new c.in_ok-kinds.kinds c.in_ok-begin_arms.field-0 c.in_ok-kinds.ensures c.in_ok-begin_arms.ensures)

pub returns-clause-reached : goal.returns-clause-reached
returns-clause-reached g c =
    let given = c.args.at.now.reached.items in (
      part_same c.arm_at.result.reached c.in_ok-first.first (λ numbers. numbers.items) c.arm_at.ensures.reached
          ∙ each_same given c.in_ok-first.first.items c.in_ok-first.ensures.cases.0,
      part_same c.arm_at-2.result.reached c.in_ok-second.second (λ numbers. numbers.items) c.arm_at-2.ensures.reached
          ∙ each_same given c.in_ok-second.second.items c.in_ok-second.ensures.cases.0,
    )

pub returns-in_err-begin_arms-clause-call : goal.returns-in_err-begin_arms-clause-call
returns-in_err-begin_arms-clause-call g c =
    none_of_two g.W.MakesOwnSteps.run g.W.MakesOwnSteps.sees g.W.MakesOwnSteps.leaves c.args.at.now.action c.args.service.now.world
    c.begin_arms.new.self.world c.in_ok-kinds.kinds c.from_residual-in_err-begin_arms.result c.in_err-begin_arms.field-0.0 c.in_ok-kinds.ensures
    c.from_residual-in_err-begin_arms.ensures.1 c.in_err-begin_arms.ensures
