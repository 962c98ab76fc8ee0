-- The newest event of a kind, and whether there is one.
use Rattle.std.proofs.Common.{◌≡◌, ℕ, Bool, true, false, cond, ◌||◌, List, [], ◌∷◌, Option, Some, is_some, refl}
use Rattle.std.specs.List.{list_any}
use Rattle.run_model.specs.declared.step.Step.{Step}
use Rattle.run_model.specs.declared.history.Event.{Event}
use Rattle.picture.specs.Layouts.{newest}

-- there is a newest one if there is one
pub newest_is : (p : Step → Bool) (past : List Event) → is_some (newest p past) ≡ list_any (λ e. p e.step) past
newest_is p [] = refl
newest_is p (e ∷ past) = step (p e.step) _ (newest p past) _ (newest_is p past)
  where
    step : (t : Bool) (n : ℕ) (o : Option ℕ) (r : Bool) → is_some o ≡ r → is_some (cond t (Some n) o) ≡ (t || r)
    step true n o r is = refl
    step false n o r is = is
