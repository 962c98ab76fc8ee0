-- The definitions of serial runs, of the interpreter's own values.
use Rattle.std.specs.Prelude.{◌≡◌, ◌≤◌, ℕ}
use Rattle.run_model.specs.Runs.{World}
use Rattle.frames.specs.Bound.{Bound}
use Rattle.activities.specs.declared.flow.Flow.{Flow}
use Rattle.activities.specs.declared.open_action.OpenAction.{OpenAction}
use Rattle.script_model.specs.declared.checked.Checked.{Checked}
use Rattle.activities.specs.Serial.{Acting, Doing, Done, Through, body_done}

abbrev pub acting : OpenAction → Acting
acting a =
    record { name = a.name; home = a.home; homes = a.reached.homes.keys; participants = a.reached.participants.keys }

abbrev pub doing : World → ℕ → OpenAction → Bound → Doing
doing w left a b = record { world = w; left = left; acting = acting a; bound = b }

abbrev pub done : World → ℕ → OpenAction → Bound → Flow → Done
done w left a b flow = record { doing = doing w left a b; flow = flow }

-- This is what comes of an activity that may begin so many statements still: what is asked, whichever number bounds
-- those of its bodies, if only it is no less.
abbrev pub ComesSo : {X : Type 0} → Checked → ℕ → X → (Through → X) → Type 0
ComesSo script left this asked = (most : ℕ) → left ≤ most
    → this ≡ asked (body_done script.handlers most)
