use Rattle.std.proofs.Common.{◌≡◌, ℕ, length-take, length-drop, arith}
use Rattle.std.proofs.Output.{has_written_of_eq}
use Rattle.action_names.proofs.Text.{name_text-places}
use Rattle.action_names.proofs.name.NameDisplay.fmt.Goals as goal

pub returns-after-loop-number-clause-writes : goal.returns-after-loop-number-clause-writes
returns-after-loop-number-clause-writes g c plain ok =
    let numbers = c.as_slice.result.now in
    let same : numbers ≡ c.args.self.now = cc in
    let text = name_text-places numbers c.loop-number.number-index (omega arith) (omega (arith, length-take {A = ℕ}, length-drop {A = ℕ})) in
    has_written_of_eq _ _ _ _ _ (rw (← same) text) (c.loop-number.invariant plain)
