use Rattle.std.proofs.Common.{◌≡◌, ℕ, List, [], length, Result, Err, Bor, ap, ◌∙◌, arith}
use Rattle.std.proofs.lemmas.Result.{err_from_is_err_and}
use Rattle.action_names.proofs.Fronts.{name_alone, one_name}
use Rattle.action_names.specs.Names.{Name}
use Rattle.action_names.specs.declared.name.NameFault.{NameFault}
use Rattle.action_names.proofs.name.Name.parse.Goals as goal

abbrev no_name : NameFault → Result Name NameFault
no_name fault = Err fault

abbrev no_front : NameFault → Result (Name × Bor (List ℕ)) NameFault
no_front fault = Err fault

same_fault : (e f : NameFault) → no_name e ≡ no_name f → no_front e ≡ no_front f
same_fault e f same = let one : e ≡ f = cc in ap no_front one

pub returns-in_err-name-clause-refused : goal.returns-in_err-name-clause-refused
returns-in_err-name-clause-refused c =
    let p = err_from_is_err_and c.from_residual.result c.from_residual.ensures.1 in
    rw (p.1, p.2) (λ none a fits e. c.in_err-name.ensures.refused (same_fault _ _ none) a [] (name_alone c.as_bytes.result.now a fits (c.as_bytes.ensures.value ∙ e)))

pub returns-in_err-name-clause-inline : goal.returns-in_err-name-clause-inline
returns-in_err-name-clause-inline c a fits short e =
    let found = c.in_err-name.ensures.inline a [] (name_alone c.as_bytes.result.now a fits (c.as_bytes.ensures.value ∙ e)) short in
    absurd cc

-- more than a name
pub returns-then-not-is_empty-clause-refused : goal.returns-then-not-is_empty-clause-refused
returns-then-not-is_empty-clause-refused c _ a fits e =
    let nothing = ap length (one_name c.as_bytes.result.now _ a _ [] c.in_ok-name.ensures.found (name_alone c.as_bytes.result.now a fits (c.as_bytes.ensures.value ∙ e))).1 in
    grind (arith, nothing)

pub returns-then-not-is_empty-clause-inline : goal.returns-then-not-is_empty-clause-inline
returns-then-not-is_empty-clause-inline c a fits short e =
    let nothing = ap length (one_name c.as_bytes.result.now _ a _ [] c.in_ok-name.ensures.found (name_alone c.as_bytes.result.now a fits (c.as_bytes.ensures.value ∙ e))).1 in
    absurd (grind (arith, nothing))
