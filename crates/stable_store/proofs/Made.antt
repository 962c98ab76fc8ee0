-- What a call of a store in memory makes.
use Rattle.std.proofs.Common.{◌≡◌, ℕ, true≢false, refl, ap, inr, ◌∙◌, Ok, Some}
use Rattle.stable_store.specs.Stored.{Stored}
use Rattle.stable_store.specs.Calls.{Makes}
use Rattle.stable_store.specs.Plain.{kept_in_memory}

pub made : {T : Type 0} (x : T) (before now after : Stored) (failures : ℕ) (excuse : Type 0)
    → now ≡ after
    → Makes {T = T} (kept_in_memory before failures) (kept_in_memory now failures) excuse after (Ok x)
made x before now after failures excuse is = record {
  changes = is;
  cause = refl;
  known = refl;
  holds = refl;
  none = λ e. absurd (true≢false e);
  honest = λ _. tt;
  stop = λ _ _ left found. inr (found ∙ ap (λ c. Some c) is);
  rest = λ _ _ left found. found;
  stands = λ _. (tt, tt);
}
