use Rattle.std.proofs.Common.{◌≡◌, [], ◌∷◌, ◌++◌, ◌-◌, cond, sym, ap, subst, ◌∙◌, rules}
use Rattle.script_model.specs.Scopes.{same_sort}
use Rattle.script_parts.specs.Scoping.{scope_of, bound_of, count_of, IsKept}
use Rattle.script_parts.proofs.ScopeLemmas.{onto-push, kept-forget}
use Rattle.script_parts.proofs.scope.Scope.forget_last.Goals as goal

pub invariant_of-self : goal.invariant_of-self
invariant_of-self c =
    let b = c.in-Some.last in
    let bs = c.pop.new.self.items in
    let all : c.self.inside.bound.items ≡ bs ++ b ∷ [] = search rules in
    let counts = c.self.inside.counts in
    kept-forget (scope_of bs) b c.self.inside.variables c.remove.new.self counts c.set.new.self
    (subst (λ s. IsKept s c.self.inside.variables counts) (ap scope_of all ∙ onto-push [] bs b) c.self.invariant) c.remove.ensures.updates
    (λ t. c.set.ensures t ∙ ap (λ x. cond (same_sort b.sort t) x (count_of counts t)) (c.saturating_sub-count.ensures ∙ ap (λ x. x - 1) c.of.ensures))

pub returns-in-Some : goal.returns-in-Some
returns-in-Some c =
    let all : c.self.inside.bound.items ≡ c.pop.new.self.items ++ c.in-Some.last ∷ [] = search rules in
    (bound_of c.in-Some.last, sym c.self.view_is ∙ ap scope_of all ∙ onto-push [] c.pop.new.self.items c.in-Some.last)
