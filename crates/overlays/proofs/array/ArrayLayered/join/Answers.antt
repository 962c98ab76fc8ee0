use Rattle.std.proofs.Common.{◌≡◌, true, None, sym, ap, ◌∙◌, subst}
use Rattle.std.specs.Prelude.{ℤ, is_some}
use Rattle.overlays.specs.ArrayOverlays.{ArrayChange, bounds_over, changed_at, is_within, laid_array, put_over}
use Rattle.overlays.proofs.ArrayJoins.{joined_all, joined_within, laid_joined, fits_joined}
use Rattle.overlays.proofs.array.ArrayLayered.join.Goals as goal

pub returns-in-Some-clause-joined : goal.returns-in-Some-clause-joined
returns-in-Some-clause-joined c = λ a low high.
    let l = c.args.lower.now in
    let u = c.args.upper.now in
    let lower = ap (λ (o : ArrayChange). o.bounds) c.lower.view_is in
    let upper = ap (λ (o : ArrayChange). o.bounds) c.upper.view_is in
    let put : (i : ℤ) → changed_at c.put_all.new.items.entries i ≡ put_over None u.items l.items i = λ i.
    c.in_ok-put_all.ensures.put i ∙ ap (λ es. put_over None es c.lower.inside.items.entries i) c.in_ok-listed_items.ensures.items
    ∙ ap (λ (o : ArrayChange). put_over None u.items o.items i) c.lower.view_is in
    let some = sym upper ∙ c.in-Some.is in
    let inside : (i : ℤ) → is_some (changed_at u.items i) ≡ true → is_within c.in-Some.bounds i ≡ true = λ i there. subst (λ b. is_within (bounds_over (laid_array a l) b) i ≡ true) some (high.inside i there) in
    laid_joined a l u _ (joined_within l u _ c.in-Some.bounds c.put_all.new.items.entries some upper put c.drop_outside.ensures inside) low high

pub returns-in-Some-clause-fits : goal.returns-in-Some-clause-fits
returns-in-Some-clause-fits c = λ a low high.
    let l = c.args.lower.now in
    let u = c.args.upper.now in
    let lower = ap (λ (o : ArrayChange). o.bounds) c.lower.view_is in
    let upper = ap (λ (o : ArrayChange). o.bounds) c.upper.view_is in
    let put : (i : ℤ) → changed_at c.put_all.new.items.entries i ≡ put_over None u.items l.items i = λ i.
    c.in_ok-put_all.ensures.put i ∙ ap (λ es. put_over None es c.lower.inside.items.entries i) c.in_ok-listed_items.ensures.items
    ∙ ap (λ (o : ArrayChange). put_over None u.items o.items i) c.lower.view_is in
    let some = sym upper ∙ c.in-Some.is in
    let inside : (i : ℤ) → is_some (changed_at u.items i) ≡ true → is_within c.in-Some.bounds i ≡ true = λ i there. subst (λ b. is_within (bounds_over (laid_array a l) b) i ≡ true) some (high.inside i there) in
    fits_joined a l u _ (joined_within l u _ c.in-Some.bounds c.put_all.new.items.entries some upper put c.drop_outside.ensures inside) low high

pub returns-in_default-clause-joined : goal.returns-in_default-clause-joined
returns-in_default-clause-joined c = λ a low high.
    let l = c.args.lower.now in
    let u = c.args.upper.now in
    let lower = ap (λ (o : ArrayChange). o.bounds) c.lower.view_is in
    let upper = ap (λ (o : ArrayChange). o.bounds) c.upper.view_is in
    let put : (i : ℤ) → changed_at c.put_all.new.items.entries i ≡ put_over None u.items l.items i = λ i.
    c.in_ok-put_all.ensures.put i ∙ ap (λ es. put_over None es c.lower.inside.items.entries i) c.in_ok-listed_items.ensures.items
    ∙ ap (λ (o : ArrayChange). put_over None u.items o.items i) c.lower.view_is in
    laid_joined a l u _ (joined_all l u _ (sym upper ∙ c.in_default.is) lower put) low high

pub returns-in_default-clause-fits : goal.returns-in_default-clause-fits
returns-in_default-clause-fits c = λ a low high.
    let l = c.args.lower.now in
    let u = c.args.upper.now in
    let lower = ap (λ (o : ArrayChange). o.bounds) c.lower.view_is in
    let upper = ap (λ (o : ArrayChange). o.bounds) c.upper.view_is in
    let put : (i : ℤ) → changed_at c.put_all.new.items.entries i ≡ put_over None u.items l.items i = λ i.
    c.in_ok-put_all.ensures.put i ∙ ap (λ es. put_over None es c.lower.inside.items.entries i) c.in_ok-listed_items.ensures.items
    ∙ ap (λ (o : ArrayChange). put_over None u.items o.items i) c.lower.view_is in
    fits_joined a l u _ (joined_all l u _ (sym upper ∙ c.in_default.is) lower put) low high
