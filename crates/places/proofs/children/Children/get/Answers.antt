use Rattle.std.proofs.Common.{ap, sym, ◌∙◌}
use Rattle.action_names.specs.Deps.{least_at}
use Rattle.places.specs.Children.{entries_of}
use Rattle.places.proofs.Keeping.{absent_alone, child_got, found_alone}
use Rattle.places.proofs.children.Children.get.Goals as goal

pub returns-then-known-number : goal.returns-then-known-number
returns-then-known-number c =
    sym (found_alone c.in-One.known c.in-One.place c.args.number c.if-known-number.true)
    ∙ ap (λ k. least_at (entries_of k) c.args.number) (sym c.in-One.is)
    ∙ child_got c.self.inside.kept c.args.self.now c.self.invariant c.self.view_is c.args.number

pub returns-else-known-number : goal.returns-else-known-number
returns-else-known-number c =
    sym (absent_alone c.in-One.known c.in-One.place c.args.number c.if-known-number.false)
    ∙ ap (λ k. least_at (entries_of k) c.args.number) (sym c.in-One.is)
    ∙ child_got c.self.inside.kept c.args.self.now c.self.invariant c.self.view_is c.args.number

pub returns-in-Listed : goal.returns-in-Listed
returns-in-Listed c =
    c.listed.ensures
    ∙ ap (λ xs. least_at xs c.args.number) c.deref.ensures.value
    ∙ ap (λ k. least_at (entries_of k) c.args.number) (sym c.in-Listed.is)
    ∙ child_got c.self.inside.kept c.args.self.now c.self.invariant c.self.view_is c.args.number
