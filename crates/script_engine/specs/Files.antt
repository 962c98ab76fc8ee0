-- What the command writes about the bytes of a file that is to be run.
use Rattle.std.specs.Prelude.{ℕ, ◌≡◌, ◌⊎◌, List, []}
use Rattle.script_model.specs.declared.checked.Checked.{Checked}
use Rattle.argus_engine.specs.declared.engine.Ended.{Ended}
use Rattle.argus_engine.specs.declared.engine.Ended.TheVariants.{Done, Stopped}
use Rattle.argus_engine.specs.Judging.{IsJudged, IsScriptIn}
use Rattle.script_engine.specs.Running.{BeginBoth, Comes, TellsRun}

-- Bytes are one script at most.
abbrev pub OneScript : Type 0
OneScript = (bytes : List ℕ) (script other : Checked) → IsScriptIn bytes script
    → IsScriptIn bytes other → script ≡ other

module _ (comes : Comes) where
  -- For a script, the texts of a run in a new system of its own objects; for all else no trace, and the first fault.
  abbrev pub TellsFile : List ℕ → Ended → List ℕ → List ℕ → Type 0
  TellsFile bytes Done trace text = (script : Checked) × IsScriptIn bytes script
      × TellsRun comes script script.guardians trace text
  TellsFile bytes Stopped trace text = (trace ≡ []) × IsJudged bytes Stopped text

  -- nothing was written, or a beginning of what is to be written
  abbrev pub BeginsFile : List ℕ → List ℕ → List ℕ → Type 0
  BeginsFile bytes part written =
      ((part ≡ []) × (written ≡ []))
      ⊎ ((ended : Ended) × (trace : List ℕ) × (text : List ℕ) × TellsFile bytes ended trace text
      × BeginBoth trace text part written)

  -- The bytes determine what is written, and how that ends.
  abbrev pub OneFile : Type 0
  OneFile = (bytes : List ℕ) (ended other : Ended) (trace more text said : List ℕ)
      → TellsFile bytes ended trace text → TellsFile bytes other more said
      → (ended ≡ other) × (trace ≡ more) × (text ≡ said)
