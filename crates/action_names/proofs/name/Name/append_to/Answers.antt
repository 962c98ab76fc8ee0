use Rattle.std.proofs.Common.{◌≡◌, ℕ, ◌-◌, ◌∷◌, ◌++◌, length, get_or, take, drop, decimal, length-take, length-drop, string_bytes, ap, ◌∙◌, arith}
use Rattle.std.specs.List.{flat_map}
use Rattle.action_names.specs.Names.{name_text}
use Rattle.action_names.proofs.Text.{name_text-places}
use Rattle.action_names.proofs.name.Name.append_to.Goals as goal

pub returns-after-loop-number-clause-ok : goal.returns-after-loop-number-clause-ok
returns-after-loop-number-clause-ok c =
    let numbers = c.as_slice.result.now in
    let same : numbers ≡ c.args.self.now = cc in
    let text = name_text-places numbers c.loop-number.number-index (omega arith) (omega (arith, length-take {A = ℕ}, length-drop {A = ℕ})) in
    let whole : decimal (get_or c.args.self.now 0 0) ++ flat_map (λ n. 46 ∷ decimal n) (take c.loop-number.number-index (take (length numbers - 1) (drop 1 numbers)))
    ≡ name_text c.args.self.now = rw (← same) text in
    c.loop-number.invariant ∙ ap (λ t. string_bytes c.args.text.now ++ t) whole
