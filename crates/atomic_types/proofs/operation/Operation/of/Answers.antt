use Rattle.std.proofs.Common.{◌∙◌, ap}
use Rattle.atomic_types.specs.Operations.{form_of}
use Rattle.atomic_types.proofs.Table.{not_index, not_index_value, not_nothing, not_value, not_word, not_word_value, unfit}
use Rattle.atomic_types.proofs.operation.Operation.of.Goals.{in_default-via-in-Low+in_default, in_default-via-in-High+in_default, in_default-via-in-Size+in_default, in_default-via-in-RemoveHigh+in_default, in_default-via-in-RemoveLow+in_default, in_default-via-in-Total+in_default, in_default-via-in-Get+in_default, in_default-via-in-Is+in_default, in_default-via-in-ValueOf+in_default, in_default-via-in-Set+in_default, in_default-via-in-Change+in_default, in_default-via-in-Fetch+in_default, in_default-via-in-Store+in_default, in_default-via-in-AddHigh+in_default, in_default-via-in-AddLow+in_default, in_default-via-in-Put+in_default, in_default-via-in-Add+in_default}
use Rattle.atomic_types.proofs.operation.Operation.of.Goals as goal

pub returns-in_default : goal.returns-in_default
returns-in_default g c =
    let n = c.args.name in
    let a = c.args.arguments in
    elim c.in_default.branch [
      | in_default-via-in-Low+in_default w ↦ unfit n a (λ e. not_nothing a w.in_default.not-Nothing-1 (e ∙ ap form_of w.in_default.is-0))
      | in_default-via-in-High+in_default w ↦ unfit n a (λ e. not_nothing a w.in_default.not-Nothing-1 (e ∙ ap form_of w.in_default.is-0))
      | in_default-via-in-Size+in_default w ↦ unfit n a (λ e. not_nothing a w.in_default.not-Nothing-1 (e ∙ ap form_of w.in_default.is-0))
      | in_default-via-in-RemoveHigh+in_default w ↦ unfit n a (λ e. not_nothing a w.in_default.not-Nothing-1 (e ∙ ap form_of w.in_default.is-0))
      | in_default-via-in-RemoveLow+in_default w ↦ unfit n a (λ e. not_nothing a w.in_default.not-Nothing-1 (e ∙ ap form_of w.in_default.is-0))
      | in_default-via-in-Total+in_default w ↦ unfit n a (λ e. not_nothing a w.in_default.not-Nothing-1 (e ∙ ap form_of w.in_default.is-0))
      | in_default-via-in-Get+in_default w ↦ unfit n a (λ e. not_word a w.in_default.not-Word-1 (e ∙ ap form_of w.in_default.is-0))
      | in_default-via-in-Is+in_default w ↦ unfit n a (λ e. not_word a w.in_default.not-Word-1 (e ∙ ap form_of w.in_default.is-0))
      | in_default-via-in-ValueOf+in_default w ↦ unfit n a (λ e. not_word a w.in_default.not-Word-1 (e ∙ ap form_of w.in_default.is-0))
      | in_default-via-in-Set+in_default w ↦ unfit n a (λ e. not_word_value a w.in_default.not-WordValue-1 (e ∙ ap form_of w.in_default.is-0))
      | in_default-via-in-Change+in_default w ↦ unfit n a (λ e. not_word_value a w.in_default.not-WordValue-1 (e ∙ ap form_of w.in_default.is-0))
      | in_default-via-in-Fetch+in_default w ↦ unfit n a (λ e. not_index a w.in_default.not-Index-1 (e ∙ ap form_of w.in_default.is-0))
      | in_default-via-in-Store+in_default w ↦ unfit n a (λ e. not_index_value a w.in_default.not-IndexValue-1 (e ∙ ap form_of w.in_default.is-0))
      | in_default-via-in-AddHigh+in_default w ↦ unfit n a (λ e. not_value a w.in_default.not-Value-1 (e ∙ ap form_of w.in_default.is-0))
      | in_default-via-in-AddLow+in_default w ↦ unfit n a (λ e. not_value a w.in_default.not-Value-1 (e ∙ ap form_of w.in_default.is-0))
      | in_default-via-in-Put+in_default w ↦ unfit n a (λ e. not_value a w.in_default.not-Value-1 (e ∙ ap form_of w.in_default.is-0))
      | in_default-via-in-Add+in_default w ↦ unfit n a (λ e. not_value a w.in_default.not-Value-1 (e ∙ ap form_of w.in_default.is-0))
    ]
