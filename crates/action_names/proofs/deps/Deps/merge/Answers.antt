use Rattle.std.proofs.Common.{◌≡◌, ℕ, sym, ap, ◌∙◌}
use Rattle.std.specs.FinMap as map
use Rattle.std.proofs.lemmas.Result.{on_ok_weaker}
use Rattle.action_names.specs.Deps.{least_at}
use Rattle.action_names.proofs.Entries.{get_of, count_new-known}
use Rattle.action_names.proofs.deps.Deps.merge.Goals as goal

pub returns-clause-ok : goal.returns-clause-ok
returns-clause-ok c =
    let own : (g : ℕ) → map.get c.args.self.now g ≡ least_at c.self.inside.least.items g =
    λ g. ap (λ m. map.get m g) (sym c.self.view_is) ∙ get_of c.self.inside.least.items g c.self.invariant in
    let others : (g : ℕ) → map.get c.args.other.now g ≡ least_at c.as_slice.result.now g =
    λ g. ap (λ m. map.get m g) (sym c.other.view_is) ∙ get_of c.other.inside.least.items g c.other.invariant ∙ ap (λ es. least_at es g) (sym c.as_slice.ensures) in
    on_ok_weaker c.merge_in.result (λ after g. rw (own g, others g) (get_of c.merge_in.new.least.items g c.merge_in.ensures.rising ∙ after g)) c.merge_in.ensures.ok

pub returns-clause-known : goal.returns-clause-known
returns-clause-known c known =
    let own : (g : ℕ) → map.get c.args.self.now g ≡ least_at c.self.inside.least.items g =
    λ g. ap (λ m. map.get m g) (sym c.self.view_is) ∙ get_of c.self.inside.least.items g c.self.invariant in
    let others : (g : ℕ) → map.get c.args.other.now g ≡ least_at c.as_slice.result.now g =
    λ g. ap (λ m. map.get m g) (sym c.other.view_is) ∙ get_of c.other.inside.least.items g c.other.invariant ∙ ap (λ es. least_at es g) (sym c.as_slice.ensures) in
    c.merge_in.ensures.known (count_new-known c.self.inside.least.items c.as_slice.result.now (λ g some. rw (own g) at (known g (rw (others g) some))))
