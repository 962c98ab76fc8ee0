use Rattle.std.proofs.Common.{◌≡◌, subst, sym, ap, ◌∙◌, Option, IfSome, filter, refl}
use Rattle.run_model.specs.Visibility.{is_visible}
use Rattle.run_model.specs.Keeping.{performed_by}
use Rattle.tracer.specs.declared.place.ClosingStep.{ClosingStep}
use Rattle.tracer.specs.declared.place.ClosingStep.TheVariants.{Came, NotCome}
use Rattle.tracer.specs.contracts.place.PlaceOrd.TheImpl as order
use Rattle.tracer.specs.contracts.place.ClosingStepOrd.TheImpl as step_order
use Rattle.tracer.specs.declared.explained.Performed.{Performed}
use Rattle.tracer.specs.Endings.{place_at}
use Rattle.tracer.specs.Places.{step_cmp}
use Rattle.tracer.specs.Explained.{listed}
use Rattle.tracer.proofs.Placing.{alike}
use Rattle.tracer.proofs.Inserted.{placed_more, placed_unseen}
use Rattle.tracer.proofs.explained.place_operation.Goals as goal

-- the derived comparison of closing steps is that of the definitions
same_steps : (x y : ClosingStep) → step_order.ghosts.cmp x y ≡ step_cmp x y
same_steps (Came m) (Came n) = refl
same_steps (Came m) NotCome = refl
same_steps NotCome (Came n) = refl
same_steps NotCome NotCome = refl

pub returns-in_ok-insert : goal.returns-in_ok-insert
returns-in_ok-insert c = λ now past known number placed.
    let seen = sym (ap listed c.in-Some.is) ∙ c.in_ok-performed.ensures.seen now known in
    let Numbered : Option Performed → Type 0 = λ o. IfSome o (λ p. p.number ≡ c.args.number) in
    let own : c.in-Some.performed.number ≡ c.args.number = subst Numbered c.in-Some.is c.in_ok-performed.ensures.numbered in
    let v : Performed = c.in-Some.performed in
    placed_more c.args.action.now now c.args.event.now past c.args.seen.now.entries _ c.in_ok-place.place v order.ghosts.cmp c.in_ok-insert.ensures.entries
    (λ p q. alike step_order.ghosts.cmp same_steps p.steps.items q.steps.items)
    (seen ∙ ap (λ n. filter (λ o. is_visible o.action c.args.action.now now) (performed_by n c.args.event.now.step c.args.event.now.answer)) number)
    (own ∙ number) (c.in_ok-place.ensures now known ∙ ap (λ n. place_at n v.action now) (sym own)) placed

pub returns-in_default : goal.returns-in_default
returns-in_default c = λ now past known number placed.
    placed_unseen c.args.action.now now c.args.event.now past c.args.seen.now.entries
    (sym (ap listed c.in_default.is) ∙ c.in_ok-performed.ensures.seen now known
    ∙ ap (λ n. filter (λ o. is_visible o.action c.args.action.now now) (performed_by n c.args.event.now.step c.args.event.now.answer)) number)
    placed
