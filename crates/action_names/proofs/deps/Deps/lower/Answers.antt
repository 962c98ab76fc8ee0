use Rattle.std.proofs.Common.{◌≡◌, sym, ap, ◌∙◌}
use Rattle.std.specs.Ordering.{nat_cmp}
use Rattle.std.specs.FinMap as map
use Rattle.std.proofs.lemmas.Result.{on_ok_weaker}
use Rattle.action_names.specs.Deps.{lowered, least_at}
use Rattle.action_names.proofs.Entries.{insert-from_sorted, get_of}
use Rattle.action_names.proofs.deps.Deps.lower.Goals as goal

pub returns-clause-ok : goal.returns-clause-ok
returns-clause-ok c =
    let es = c.self.inside.least.items in
    let g = c.args.guardian in
    let n = c.args.incarnation in
    on_ok_weaker c.lower_in.result (λ after.
    ap (λ xs. map.from_sorted {R = nat_cmp} xs) after
    ∙ insert-from_sorted es g (lowered (least_at es g) n) c.self.invariant
    ∙ ap (λ o. map.insert (map.from_sorted {R = nat_cmp} es) g (lowered o n)) (sym (get_of es g c.self.invariant))
    ∙ ap (λ m. map.insert m g (lowered (map.get m g) n)) c.self.view_is) c.lower_in.ensures.ok

pub returns-clause-known : goal.returns-clause-known
returns-clause-known c known =
    let g = c.args.guardian in
    let has : map.get c.args.self.now g ≡ least_at c.self.inside.least.items g =
    ap (λ m. map.get m g) (sym c.self.view_is) ∙ get_of c.self.inside.least.items g c.self.invariant in
    c.lower_in.ensures.known (rw has at known)
