use Rattle.std.proofs.Common.{◌≡◌, [], ◌∷◌, rules, sym, ap, ◌∙◌, arith}
use Rattle.store_tables.proofs.Items.{one_item}
use Rattle.store_tables.proofs.known.has_one_key.Goals as goal

pub returns-clause-is : goal.returns-clause-is
returns-clause-is c equal =
    let same : c.as_slice-2.result.now ≡ c.args.places.now = search rules in
    sym c.as_slice.ensures
    ∙ (one_item c.as_slice.result.now c.unique-item.result (omega (arith, c.in-len1.len_at_least, c.in-len1.len_below)) c.unique-item.is
    ∙ ap (λ x. x ∷ []) (sym c.as_slice-2.ensures ∙ same))
