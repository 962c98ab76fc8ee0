use Rattle.std.proofs.Common.{ap, subst, sym, true, ℕ, ◌∙◌, ◌≡◌, ◌↔◌}
use Rattle.guardian_index.specs.Held.{HoldsBelow, has_number, objects_at}
use Rattle.run_model.specs.LocalReadings.{count_here}
use Rattle.guardian_objects.proofs.Counting.{count_below, count_held}
use Rattle.guardian_objects.proofs.objects.Objects.told_count.Goals as goal

pub returns-then-committed : goal.returns-then-committed
returns-then-committed c = λ opening here are untold.
    count_held c.args.self.now c.args.action.now c.objects_of-own.result.now c.objects_of-own.ensures.rising
    (c.objects_of-own.ensures.objects ∙ ap (λ o. objects_at o.held c.args.action.now) c.self.view_is) opening here are
    ∙ ap (λ t. count_here opening c.args.self.now.guardian c.args.action.now t here) (sym c.if-committed.true)

pub returns : goal.returns
returns c = λ opening here are untold.
    c.len-below.ensures ∙ c.in_ok-numbers.numbers.ok.0
    ∙ count_below c.args.self.now c.args.action.now c.in_ok-numbers.numbers.items c.in_ok-numbers.ensures.rising
    (subst (λ o. (n : ℕ) → (has_number c.in_ok-numbers.numbers.items n ≡ true) ↔ HoldsBelow o.held c.args.action.now n) c.self.view_is c.in_ok-numbers.ensures.objects)
    opening here are untold
    ∙ ap (λ t. count_here opening c.args.self.now.guardian c.args.action.now t here) (sym c.if-committed.false)
