-- Handlers, as calls find them.
use Rattle.std.specs.Prelude.{ℕ, ◌≡◌, ◌<◌, ◌≤◌, List, length, Option, Some, option_map, slice_get}
use Rattle.serde_json.specs.Data.{Data, Items}
use Rattle.serde_json.specs.Events.{items_len}
use Rattle.script_model.specs.Signatures.{handler_found, handler_number, handlers_before}
use Rattle.limits.specs.Limits.{max_guardians}

-- the number and the document of a guardian's handler of this name
abbrev pub found_in : Items → ℕ → List ℕ → Option (ℕ × Data)
found_in guardians n name =
    option_map (λ d. (handler_number guardians n name, d)) (handler_found guardians n name)

-- for each guardian, how many handlers stand before its own
pub record AreBefore (guardians : Items) (before : List ℕ) : Type 0 where
  pub few : items_len guardians ≤ max_guardians
  pub for_each : length before ≡ items_len guardians
  pub counts : (n : ℕ) → n < length before → slice_get before n ≡ Some (handlers_before n guardians)
