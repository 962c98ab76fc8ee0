use Rattle.std.proofs.Common.{◌≡◌, ◌∙◌, subst, arith, rules}
use Rattle.std.proofs.lemmas.Grind.{common_steps}
use Rattle.std.proofs.lemmas.Int.{to_z-of_z, ints}
use Rattle.std.specs.Int.{w64}
use Rattle.std.specs.List.{AllByRecursion}
use Rattle.values.specs.declared.value.Value.{Value}
use Rattle.values.specs.Values.{kind_of}
use Rattle.values.specs.Items.{ArrayContent, HasArrayForm}
use Rattle.values.proofs.Items.{same_form}
use Rattle.values.proofs.array.Array.from_items.Goals as goal

pub returns-clause-found : goal.returns-clause-found
returns-clause-found c =
    let a : ArrayContent = record { kind = c.args.kind; low = c.args.low; items = c.args.items.items } in
    let low = to_z-of_z w64 c.args.low (search rules) in
    let same : c.in_ok-items.items.value ≡ c.args.items.items = c.in_ok-items.ensures.ok ∙ c.in_ok-from_vec.ensures in
    let all : AllByRecursion (λ (v : Value). kind_of v ≡ c.args.kind) c.deref.result.now = search rules in
    let form : HasArrayForm a = record {
      within_limit = omega (arith, c.if-len-gt-MAX_ITEMS.false, c.len.ensures, c.args.items.ok.0);
      of_kind = subst (AllByRecursion (λ (v : Value). kind_of v ≡ c.args.kind)) c.deref.ensures.value all;
      low = first_of (search rules, grind (arith, common_steps, ints));
      high = first_of (search rules, grind (arith, common_steps, ints));
    } in
    ((λ i. (let b : ArrayContent = record { kind = c.args.kind; low = low i; items = same i } in b)), same_form a _ c.in_ok-items.items.value form low same)
