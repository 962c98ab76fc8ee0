use Rattle.std.proofs.Common.{◌≡◌, ◌+◌, [], ◌∷◌, ap, ◌∙◌, arith, rules}
use Rattle.std.proofs.lemmas.Grind.{common_steps}
use Rattle.script_model.specs.Scopes.{find}
use Rattle.script_parts.specs.Scoping.{scope_of, bound_of}
use Rattle.script_parts.specs.declared.scope.Bound as kept
use Rattle.script_parts.proofs.ScopeLemmas.{onto-push, kept-bind}
use Rattle.script_parts.proofs.scope.Scope.bind.Goals as goal

pub invariant_of-self-in-Ok : goal.invariant_of-self-in-Ok
invariant_of-self-in-Ok c =
    let b : kept.Bound = record { name = c.args.name; sort = c.args.sort } in
    let bs = c.self.inside.bound.items in
    let one : c.in-Some.count ≡ c.of-place.result + 1 = first_of (search rules, grind (arith, common_steps)) in
    rw (c.in_ok-push.ensures.items, onto-push [] bs b) (
    kept-bind (scope_of bs) b c.self.inside.variables c.insert.new.self c.self.inside.counts c.set.new.self c.of-place.result c.in-Some.count
    c.self.invariant (ap (λ s. find s c.args.name.now) c.self.view_is ∙ c.requires) c.in-Ok.ensures.updates c.of-place.ensures one c.set.ensures)

pub returns-in-Ok-clause-bound : goal.returns-in-Ok-clause-bound
returns-in-Ok-clause-bound c =
    let b : kept.Bound = record { name = c.args.name; sort = c.args.sort } in
    ap scope_of c.in_ok-push.ensures.items ∙ onto-push [] c.self.inside.bound.items b ∙ ap (λ s. bound_of b ∷ s) c.self.view_is
