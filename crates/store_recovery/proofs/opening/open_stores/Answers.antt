use Rattle.std.proofs.Common.{ap, drop, length, arith, subst, sym, take, ◌++◌, ◌≡◌, ◌∙◌}
use Rattle.run_model.specs.Openings.{opening_in}
use Rattle.store_recovery.specs.Opened.{IsOpeningOf, first_number}
use Rattle.store_recovery.specs.Settling.{contents}
use Rattle.store_recovery.proofs.Said.{opening_of, written_back}
use Rattle.store_recovery.proofs.opening.open_stores.Goals as goal

pub returns-in-Ok-clause-opening : goal.returns-in-Ok-clause-opening
returns-in-Ok-clause-opening g c =
    let seen = g.S.Stable.seen in
    let now = c.open_all.new.stores in
    let all : take c.args.stores.len (now ++ drop (length now) c.args.stores.items) ≡ now =
    written_back now c.args.stores.items c.args.stores.len (omega (arith, c.open_all.auto.stores, c.as_mut_slice.ensures.len, c.args.stores.ok.0)) (omega (arith, c.args.stores.ok.0)) in
    subst (λ ss. IsOpeningOf c.args.setup (contents seen ss) (opening_in c.new.result)) (sym all)
    (subst (λ o. IsOpeningOf c.args.setup (contents seen now) (opening_in o)) (sym c.new.ensures)
    (opening_of c.args.setup (contents seen now) c.in-Ok.held.items c.first_number-first_top.result c.in-Ok.ensures.held c.in-Ok.ensures.opened.none
    (c.first_number-first_top.ensures ∙ ap (λ ss. first_number (contents seen ss)) (c.as_slice.ensures.value ∙ all))))
