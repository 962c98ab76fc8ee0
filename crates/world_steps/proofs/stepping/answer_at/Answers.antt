use Rattle.std.proofs.Common.{IfOk, inl, refl, subst, ◌≡◌}
use Rattle.run_model.specs.declared.answer.Answer.{Answer}
use Rattle.world_steps.specs.Standings.{IsOut, forest_of, standing}
use Rattle.world_steps.proofs.WorldAgreed.{tellable_high, tellable_lent, tellable_low}
use Rattle.world_steps.proofs.Led.{answers_alone, answers_high, answers_low, answers_two, lent_by, stands_at}
use Rattle.world_steps.proofs.stepping.answer_at.Goals as goal

pub answer_two-requires : goal.answer_two-requires
answer_two-requires g c =
    let past = c.args._history.now in
    let gs = c.args.guardians.now in
    let world = c.requires.1.1.0 in
    let stands = g.G.Guardian.stands in
    let x = stands_at stands g.opening past gs c.args.low c.in-Some.first.now world c.in-Some.ensures.0 c.in-Some.ensures.2 in
    let y = stands_at stands g.opening past gs c.args.high c.in-Some-at.second.now world c.in-Some-at.ensures.0 c.in-Some-at.ensures.2 in (
      forest_of g.opening past,
      standing g.opening past c.args.low,
      standing g.opening past c.args.high,
      lent_by stands g.opening past gs c.args.low c.args.high c.in-Some.first.now c.in-Some-at.second.now world x y,
    )

pub answer_two-requires-in-None-at : goal.answer_two-requires-in-None-at
answer_two-requires-in-None-at g c =
    let past = c.args._history.now in
    let gs = c.args.guardians.now in
    let world = c.requires.1.1.0 in
    let stands = g.G.Guardian.stands in
    let x = stands_at stands g.opening past gs c.args.low c.in-Some.first.now world c.in-Some.ensures.0 c.in-Some.ensures.2 in (
      forest_of g.opening past,
      standing g.opening past c.args.low,
      standing g.opening past c.args.low,
      lent_by stands g.opening past gs c.args.low c.args.low c.in-Some.first.now c.in-Some.first.now world x x,
    )

pub answer_two-requires-in-Some-at-2 : goal.answer_two-requires-in-Some-at-2
answer_two-requires-in-Some-at-2 g c =
    let past = c.args._history.now in
    let gs = c.args.guardians.now in
    let world = c.requires.1.1.0 in
    let stands = g.G.Guardian.stands in
    let y = stands_at stands g.opening past gs c.args.high c.in-Some-at-2.second.now world c.in-Some-at-2.ensures.0 c.in-Some-at-2.ensures.2 in (
      forest_of g.opening past,
      standing g.opening past c.args.high,
      standing g.opening past c.args.high,
      lent_by stands g.opening past gs c.args.high c.args.high c.in-Some-at-2.second.now c.in-Some-at-2.second.now world y y,
    )

pub returns-in-Some-at : goal.returns-in-Some-at
returns-in-Some-at g c =
    let past = c.args._history.now in
    let gs = c.args.guardians.now in
    let world = c.requires.1.1.0 in
    let names = c.requires.1.1.1 in
    let stands = g.G.Guardian.stands in
    let a = standing g.opening past c.args.low in
    let b = standing g.opening past c.args.high in
    let x = stands_at stands g.opening past gs c.args.low c.in-Some.first.now world c.in-Some.ensures.0 c.in-Some.ensures.2 in
    let y = stands_at stands g.opening past gs c.args.high c.in-Some-at.second.now world c.in-Some-at.ensures.0 c.in-Some-at.ensures.2 in
    let P : Answer → Type 0 = λ a. IfOk c.answer_two.result (λ answer. answer ≡ a) in
    subst P (answers_two past g.opening c.args.step.now c.args.low c.args.high c.args.low c.args.high a b world.is_run names refl refl (λ k h. inl h))
    (c.answer_two.ensures (forest_of g.opening past) a b
    (lent_by stands g.opening past gs c.args.low c.args.high c.in-Some.first.now c.in-Some-at.second.now world x y)
    (tellable_lent past g.opening c.args.step.now c.args.low c.args.high c.args.low c.args.high a b world.is_run names refl refl (λ k h. inl h)))

pub returns-in-None-at : goal.returns-in-None-at
returns-in-None-at g c =
    let past = c.args._history.now in
    let gs = c.args.guardians.now in
    let world = c.requires.1.1.0 in
    let names = c.requires.1.1.1 in
    let stands = g.G.Guardian.stands in
    let a = standing g.opening past c.args.low in
    let x = stands_at stands g.opening past gs c.args.low c.in-Some.first.now world c.in-Some.ensures.0 c.in-Some.ensures.2 in
    let out = subst (λ n. IsOut n c.args.high) world.count c.in-None-at.ensures in
    let P : Answer → Type 0 = λ a. IfOk c.answer_two-in-None-at.result (λ answer. answer ≡ a) in
    subst P (answers_low past g.opening c.args.step.now c.args.low c.args.high a world.is_run names refl out)
    (c.answer_two-in-None-at.ensures (forest_of g.opening past) a a
    (lent_by stands g.opening past gs c.args.low c.args.low c.in-Some.first.now c.in-Some.first.now world x x)
    (tellable_low past g.opening c.args.step.now c.args.low c.args.high a world.is_run names refl out))

pub returns-in-Some-at-2 : goal.returns-in-Some-at-2
returns-in-Some-at-2 g c =
    let past = c.args._history.now in
    let gs = c.args.guardians.now in
    let world = c.requires.1.1.0 in
    let names = c.requires.1.1.1 in
    let stands = g.G.Guardian.stands in
    let b = standing g.opening past c.args.high in
    let y = stands_at stands g.opening past gs c.args.high c.in-Some-at-2.second.now world c.in-Some-at-2.ensures.0 c.in-Some-at-2.ensures.2 in
    let out = subst (λ n. IsOut n c.args.low) world.count c.in-None.ensures in
    let P : Answer → Type 0 = λ a. IfOk c.answer_two-in-Some-at-2.result (λ answer. answer ≡ a) in
    subst P (answers_high past g.opening c.args.step.now c.args.low c.args.high b world.is_run names refl out)
    (c.answer_two-in-Some-at-2.ensures (forest_of g.opening past) b b
    (lent_by stands g.opening past gs c.args.high c.args.high c.in-Some-at-2.second.now c.in-Some-at-2.second.now world y y)
    (tellable_high past g.opening c.args.step.now c.args.low c.args.high b world.is_run names refl out))

pub returns-in-None-at-2 : goal.returns-in-None-at-2
returns-in-None-at-2 g c =
    let past = c.args._history.now in
    let world = c.requires.1.1.0 in
    let names = c.requires.1.1.1 in
    let P : Answer → Type 0 = λ a. IfOk c.answer_alone.result (λ answer. answer ≡ a) in
    subst P (answers_alone past g.opening c.args.step.now c.args.low c.args.high world.is_run names
    (subst (λ n. IsOut n c.args.low) world.count c.in-None.ensures) (subst (λ n. IsOut n c.args.high) world.count c.in-None-at-2.ensures))
    (c.answer_alone.ensures (forest_of g.opening past) world.forest)
