-- A serial run has one outcome.
use Rattle.std.proofs.Common.{List, ap, length, map, refl, subst, sym, ℕ, ◌∙◌, ◌≡◌}
use Rattle.std.proofs.lemmas.List.{length-map}
use Rattle.std.specs.BTreeMap.{BTreeMap}
use Rattle.values.specs.declared.content.Content.{Content}
use Rattle.script_model.specs.declared.checked.Checked.{Checked}
use Rattle.run_model.specs.declared.history.Event.{Event}
use Rattle.run_model.specs.Openings.{OpeningLists, Setup, fresh, fresh_lists, opening_in}
use Rattle.run_model.specs.Runs.{IsRun, World, new_world}
use Rattle.traces.specs.Traces.{trace_text}
use Rattle.tracer.specs.Leaving.{histories_of}
use Rattle.activities.specs.declared.client.ClientEnd.{ClientEnd}
use Rattle.activities.specs.Serial.{Ran, serial_run}
use Rattle.activities.proofs.Runs.{serial_runs_are_run}
use Rattle.script_engine.specs.Running.{IsDetermined, run_text}
use Rattle.script_runs.specs.SerialRuns.{ComesSerially, OneText, all_bases, bases_of_run, past_of_run}
use Rattle.script_runs.proofs.Bases.{count_of_first}

pub one_outcome : IsDetermined ComesSerially
one_outcome script setup ends others bases more past other came again =
    (came.0 ∙ sym again.0, came.1 ∙ sym again.1, came.2 ∙ sym again.2)

-- what has happened is a run
pub serial_is_run : (script : Checked) (setup : Setup) → IsRun (fresh setup) (past_of_run script setup)
serial_is_run script setup =
    let ran = serial_runs_are_run script (new_world setup) tt in
    subst (λ (l : OpeningLists). IsRun (opening_in l) (past_of_run script setup)) ran.makes.same_opening ran.is_run

pub one_text : OneText
one_text script setup trace text = (
  λ told. (
    told.4.text ∙ ap (λ (es : List Event). trace_text setup (histories_of (fresh setup) es)) told.3.2,
    told.5 ∙ (λ k. run_text (told.3.0 k) (told.3.1 k)),
  ),
  λ is. (
    (serial_run script (new_world setup)).ends,
    bases_of_run script setup,
    past_of_run script setup,
    (refl, refl, refl),
    record { is_run = serial_is_run script setup; text = is.0 },
    is.1,
  ),
)

module _ (script : Checked) (setup : Setup) (old new : World) (ends : List ClientEnd) (begun : old ≡ new_world setup)
    (ran : record { world = new; ends = ends } ≡ serial_run script old) where
  pub world_left : new ≡ (serial_run script (new_world setup)).world
  world_left = ap (λ (r : Ran). r.world) ran ∙ ap (λ w. (serial_run script w).world) begun

  pub same_lists : new.lists ≡ fresh_lists setup
  same_lists = ap (λ (w : World). w.lists) world_left ∙ (serial_runs_are_run script (new_world setup) tt).makes.same_opening

  pub is_run_left : IsRun (fresh setup) new.past
  is_run_left = subst (λ (w : World). IsRun (fresh setup) w.past) (sym world_left) (serial_is_run script setup)

-- as many bases are left as there are guardians
pub count_left : (script : Checked) (setup : Setup) (old new : World) (ends : List ClientEnd) (bases : List (BTreeMap ℕ Content))
    → old ≡ new_world setup → record { world = new; ends = ends } ≡ serial_run script old → map (λ b. b.entries) bases ≡ all_bases new
    → length bases ≡ length setup
count_left script setup old new ends bases fresh ran left =
    let run = serial_run script (new_world setup) in
    let same : new ≡ run.world = ap (λ (r : Ran). r.world) ran ∙ ap (λ w. (serial_run script w).world) fresh in
    sym (length-map bases (λ (b : BTreeMap ℕ Content). b.entries)) ∙ ap length left ∙ ap (λ w. length (all_bases w)) same
    ∙ count_of_first run.world (length run.world.lists.setup)
    ∙ ap (λ (l : OpeningLists). length l.setup) (serial_runs_are_run script (new_world setup) tt).makes.same_opening
