use Rattle.std.proofs.Common.{None, ap, of_calls, option_map, rules, sym, ◌∙◌, ◌≡◌}
use Rattle.std.proofs.lemmas.Result.{IfOk-weaker}
use Rattle.std.specs.Option.{option_copied as name_of}
use Rattle.atomic_types.specs.declared.part.Part.TheVariants.{Delta}
use Rattle.object_model.specs.Stacks.{owners_of}
use Rattle.object_laws.specs.OnceTold.{deltas_left, is_left_below, last_in_front, part_over}
use Rattle.version_stack.specs.Beside.{sum_if_any}
use Rattle.atomic_object.specs.Kept.{Kept, seen}
use Rattle.atomic_object.proofs.Outcomes.{sum_is_part}
use Rattle.atomic_object.proofs.object.Object.part_to_hold.Goals as goal

pub returns-in-Some : goal.returns-in-Some
returns-in-Some c =
    let now = c.args.self.now in
    let top = c.args.top.now in
    let outcomes = c.args.outcomes.now in
    let owners = c.owners.ensures ∙ ap (λ (k : Kept). owners_of k.stack.versions) c.self.view_is in
    let last =
    ap name_of (sym c.in-Some.is) ∙ c.last_staying.ensures ∙ ap (λ ns. last_in_front (is_left_below outcomes top) None ns) owners in
    IfOk-weaker c.version_left.result _ _ (λ part is. is top ∙ ap (λ o. part_over outcomes top (seen now) o) last) c.version_left.ensures

pub returns-in-None : goal.returns-in-None
returns-in-None c =
    let now = c.args.self.now in
    let top = c.args.top.now in
    let outcomes = c.args.outcomes.now in
    let owners = c.owners.ensures ∙ ap (λ (k : Kept). owners_of k.stack.versions) c.self.view_is in
    let last =
    ap name_of (sym c.in-None.is) ∙ c.last_staying.ensures ∙ ap (λ ns. last_in_front (is_left_below outcomes top) None ns) owners in
    let mapped : c.map.result ≡ option_map (λ z. Delta z) c.sum_left.result = search (rules, of_calls) in
    mapped ∙ ap (λ o. option_map (λ z. Delta z) o) (c.sum_left.ensures.sum ∙ ap (λ (k : Kept). sum_if_any (deltas_left outcomes top k.deltas.held)) c.self.view_is)
    ∙ sum_is_part (deltas_left outcomes top (seen now).deltas) ∙ ap (λ o. part_over outcomes top (seen now) o) last
