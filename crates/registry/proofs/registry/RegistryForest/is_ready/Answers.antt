use Rattle.std.proofs.Common.{ap, subst, sym, ◌∙◌, ◌≡◌}
use Rattle.std.specs.List.{list_all}
use Rattle.run_model.specs.Lists.{guardians_of}
use Rattle.run_model.specs.Openings.{Opening, OpeningLists, opening_in}
use Rattle.registry.specs.Following.{AreActions, is_ready_there}
use Rattle.registry.proofs.Reading.{inside}
use Rattle.registry.proofs.registry.RegistryForest.is_ready.Goals as goal

pub returns : goal.returns
returns c = λ f at.
    let here = inside c.self.view_is at in
    let same : opening_in c.deref.result.now ≡ f.opening = ap (λ (o : OpeningLists). opening_in o) c.deref.ensures ∙ sym here.opening in
    let told =
    subst (λ (o : Opening). AreActions o f.registry c.self.inside.actions → c.is_ready.result ≡ list_all (is_ready_there c.args.top.now f.registry) (guardians_of o))
    same (c.is_ready.ensures f.registry) in
    told here.actions
