use Rattle.std.proofs.Common.{◌≡◌, ◌<◌, ℕ, length, Some}
use Rattle.std.specs.List.{slice_get}
use Rattle.serde_json.specs.View.{items_view}
use Rattle.script_model.specs.Signatures.{handlers_before}
use Rattle.script.proofs.signatures.Handlers.new.Given as goal

abbrev pub invariant-loop-guardian : goal.invariant-loop-guardian
invariant-loop-guardian l = record {
  for_each : length l.before.items ≡ l.guardian-index;
  count : l.count ≡ handlers_before l.guardian-index (items_view l.guardians);
  counts : (n : ℕ) → n < length l.before.items → slice_get l.before.items n ≡ Some (handlers_before n (items_view l.guardians));
}
