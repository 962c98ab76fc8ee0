use Rattle.std.proofs.Common.{◌≡◌, true, not, filter, refl, sym, ap, ◌∙◌, subst, rules}
use Rattle.action_names.specs.Names.{is_ancestor}
use Rattle.holders.proofs.Kept.{kept_by}
use Rattle.holders.proofs.Below.{all_stay, others_stay}
use Rattle.holders.proofs.trees.remove_below.Goals as goal

pub returns-in_default-copy : goal.returns-in_default-copy
returns-in_default-copy g c =
    kept_by _ _ _ _ c.retain.ensures.filtered (λ r. not (is_ancestor c.args.action.now r.0)) (λ k v b w f h. (search rules, search rules, search rules)) ∙ c.loop-first.invariant

pub loop-first-preserved-in-Ok : goal.loop-first-preserved-in-Ok
loop-first-preserved-in-Ok g c =
    let a = c.args.action.now in
    let below = subst (λ n. is_ancestor a n ≡ true) (sym c.in-Ok.ensures.ok.1) c.in-Some.ensures.below in
    ap (filter (λ r. not (is_ancestor a r.0))) c.remove.ensures.entries ∙ others_stay a c.in-Ok.name c.loop-first.rows.entries below ∙ c.loop-first.invariant

pub loop-first-preserved-in-Ok-2 : goal.loop-first-preserved-in-Ok-2
loop-first-preserved-in-Ok-2 g c =
    let a = c.args.action.now in
    let below = subst (λ n. is_ancestor a n ≡ true) (sym c.in-Ok.ensures.ok.1) c.in-Some.ensures.below in
    ap (filter (λ r. not (is_ancestor a r.0))) c.remove.ensures.entries ∙ others_stay a c.in-Ok.name c.loop-first.rows.entries below ∙ c.loop-first.invariant

pub loop-first-preserved : goal.loop-first-preserved
loop-first-preserved g c =
    let a = c.args.action.now in
    let below = subst (λ n. is_ancestor a n ≡ true) (sym c.in-Ok.ensures.ok.1) c.in-Some.ensures.below in
    ap (filter (λ r. not (is_ancestor a r.0))) c.remove.ensures.entries ∙ others_stay a c.in-Ok.name c.loop-first.rows.entries below ∙ c.loop-first.invariant

pub returns : goal.returns
returns g c = sym (all_stay (λ r. is_ancestor c.args.action.now r.0) c.loop-first.rows.entries (c.in_default.ensures.none refl)) ∙ c.loop-first.invariant
