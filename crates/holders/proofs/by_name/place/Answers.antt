use Rattle.std.proofs.Common.{of_calls, rules}
use Rattle.std.proofs.lemmas.Fn.{always_returns_same}
use Rattle.action_names.specs.Names.{name_cmp}
use Rattle.holders.proofs.Places.{last_row, gap_behind, searched_before}
use Rattle.holders.proofs.by_name.place.Goals as goal

pub returns-in-Less-clause-absent : goal.returns-in-Less-clause-absent
returns-in-Less-clause-absent g c =
    gap_behind c.args.rows.now c.in-Some.before.now c.args.name.now c.in-Some.field-0-0.now c.in-Some.ensures.cases.0 c.requires (search rules)

pub returns-in-Equal-clause-found : goal.returns-in-Equal-clause-found
returns-in-Equal-clause-found g c =
    last_row c.args.rows.now c.in-Some.before.now c.args.name.now c.in-Some.field-0-0.now c.in-Some.ensures.cases.0 c.requires (search rules)

-- the closure compares a row's name
pub returns-in-Greater : goal.returns-in-Greater
returns-in-Greater g c =
    let name = c.args.name.now in
    let facts = c.binary_search_by.ensures in
    searched_before c.args.rows.now c.in-Some.before.now name c.in-Some.field-0-0.now c.in-Some.ensures.cases.0 c.requires (search rules) c.binary_search_by.result facts.bound
    (facts.position (λ r. name_cmp r.0 name) (always_returns_same _ _ _ (λ a r f called. search (rules, of_calls))))
