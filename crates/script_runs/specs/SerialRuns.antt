-- What comes of a script whose clients run one after another in a new world.
use Rattle.std.specs.Prelude.{ℕ, zero, suc, ◌≡◌, ◌↔◌, List, [], ◌∷◌, ◌++◌, length}
use Rattle.values.specs.declared.content.Content.{Content}
use Rattle.script_model.specs.declared.checked.Checked.{Checked}
use Rattle.run_model.specs.declared.history.Event.{Event}
use Rattle.run_model.specs.Openings.{Setup, fresh, objects_at, opening_in}
use Rattle.run_model.specs.Runs.{World, new_world}
use Rattle.run_model.specs.Versions.{base_of}
use Rattle.traces.specs.Traces.{trace_text}
use Rattle.tracer.specs.Leaving.{histories_of}
use Rattle.activities.specs.declared.client.ClientEnd.{ClientEnd}
use Rattle.activities.specs.Serial.{serial_run}
use Rattle.script_engine.specs.Running.{Bases, TellsRun, run_text}

-- ---- bases

-- the bases of the first so many objects at g, each by its number
abbrev pub first_bases : World → ℕ → ℕ → List (ℕ × Content)
first_bases w g zero = []
first_bases w g (suc n) = first_bases w g n
    ++ (suc n, base_of (opening_in w.lists) (record { guardian = g; number = suc n }) w.past) ∷ []

-- those of all objects at g
abbrev pub bases_at : World → ℕ → List (ℕ × Content)
bases_at w g = first_bases w g (length (objects_at w.lists.setup g))

-- those of the first so many guardians
abbrev pub bases_of_first : World → ℕ → Bases
bases_of_first w zero = []
bases_of_first w (suc n) = bases_of_first w n ++ bases_at w (suc n) ∷ []

abbrev pub all_bases : World → Bases
all_bases w = bases_of_first w (length w.lists.setup)

-- ---- runs

-- the bases that the serial run of a script leaves of a new world of this setup
abbrev pub bases_of_run : Checked → Setup → Bases
bases_of_run script setup = all_bases (serial_run script (new_world setup)).world

-- what has happened in the serial run of a script in a new world of this setup
abbrev pub past_of_run : Checked → Setup → List Event
past_of_run script setup = (serial_run script (new_world setup)).world.past

-- the outcome is that of the serial run
abbrev pub ComesSerially : Checked → Setup → List ClientEnd → Bases → List Event → Type 0
ComesSerially script setup ends bases past =
    (ends ≡ (serial_run script (new_world setup)).ends) × (bases ≡ bases_of_run script setup)
    × (past ≡ past_of_run script setup)

-- the text of the serial run: how the clients ended, and these bases
abbrev pub text_of_run : Checked → Setup → List ℕ
text_of_run script setup =
    run_text (serial_run script (new_world setup)).ends (bases_of_run script setup)

-- the text of its trace
abbrev pub trace_of_run : Checked → Setup → List ℕ
trace_of_run script setup = trace_text setup (histories_of (fresh setup) (past_of_run script setup))

-- No other texts are written.
abbrev pub OneText : Type 0
OneText = (script : Checked) (setup : Setup) (trace text : List ℕ)
    → TellsRun ComesSerially script setup trace text
    ↔ ((trace ≡ trace_of_run script setup) × (text ≡ text_of_run script setup))
