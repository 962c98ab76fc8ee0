use Rattle.std.proofs.Common.{Some, ap, subst, sym, ◌∙◌, ◌≡◌}
use Rattle.std.specs.Prelude.{MatchOption}
use Rattle.run_laws.proofs.Names.{same_name_true}
use Rattle.guardian_objects.proofs.outcomes.goes_to.Goals as goal

pub returns-in-Some-to : goal.returns-in-Some-to
returns-in-Some-to c = λ yes.
    let same = same_name_true c.in-Some-to.next c.args.holder.now (sym c.eq.ensures ∙ yes) in
    subst (λ o. MatchOption o ⊥ (λ t. t.now.to ≡ Some c.args.holder.now)) (sym c.in-Some.is) (c.in-Some-to.is ∙ ap (λ n. Some n) same)
