use Rattle.std.proofs.Common.{ap, subst, sym, ◌∙◌}
use Rattle.std.proofs.lemmas.Result.{IfOk-weaker}
use Rattle.run_model.specs.LocalHistories.{events_there, names_guardian}
use Rattle.world_steps.proofs.Naming.{is_as_named}
use Rattle.world_steps.proofs.Operating.{kept_at, next_at, passed_at}
use Rattle.world_steps.proofs.keeping.operate.Goals as goal

pub operate-requires-clause-next : goal.operate-requires-clause-next
operate-requires-clause-next g c =
    let f = c.requires.answered.0 in
    let x = c.requires.answered.3 in
    let at = c.requires.answered.4 in (
      x,
      at.here,
      next_at at c.requires.operation
          (sym (is_as_named c.requires.named f at.forest _ _ c.is_named.ensures ∙ ap (λ k. names_guardian c.args.event.now.step (events_there f.registry) k) (c.number.ensures.number x at.here))
          ∙ c.if-is_named.true),
    )

pub returns-then-is_named-clause-kept : goal.returns-then-is_named-clause-kept
returns-then-is_named-clause-kept g c =
    IfOk-weaker c.operate.result _ _
    (λ n says f a b x at.
    let named = sym (is_as_named c.requires.named f at.forest _ _ c.is_named.ensures ∙ ap (λ k. names_guardian c.args.event.now.step (events_there f.registry) k) (c.number.ensures.number x at.here))
    ∙ c.if-is_named.true in
    subst (λ s. g.G.Guardian.stands c.operate.new.self s) (kept_at at c.requires.operation n named) (says x at.here (next_at at c.requires.operation named)))
    c.operate.ensures.kept

pub returns-else-is_named-clause-kept : goal.returns-else-is_named-clause-kept
returns-else-is_named-clause-kept g c = λ f a b x at.
    passed_at at c.requires.operation c.draw.result
    (sym (is_as_named c.requires.named f at.forest _ _ c.is_named.ensures ∙ ap (λ k. names_guardian c.args.event.now.step (events_there f.registry) k) (c.number.ensures.number x at.here))
    ∙ c.if-is_named.false)
