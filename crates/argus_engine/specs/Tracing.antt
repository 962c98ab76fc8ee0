-- What the command writes about the bytes of a trace: whether its histories are those of one run.
use Rattle.std.specs.Prelude.{ℕ, ◌≡◌, ◌⊎◌, List, [], ◌∷◌, ◌++◌, length, codes, decimal, Option, Some, None, Result, Err, IfOk}
use Rattle.run_model.specs.Gathering.{Histories, IsGathered, least_failing}
use Rattle.run_model.specs.Openings.{Setup, fresh, fresh_lists}
use Rattle.run_model.specs.Runs.{World, new_world}
use Rattle.run_model.specs.Transcripts.{error_text, line_feed}
use Rattle.run_laws.specs.Serving.{IsServed}
use Rattle.traces.specs.Traces.{HasBadLine, IsTrace, LacksSetup}
use Rattle.argus_engine.specs.declared.engine.Fault.{Fault}
use Rattle.argus_engine.specs.declared.engine.Fault.TheVariants.{Output}
use Rattle.argus_engine.specs.Reading.{IsOfReader, IsOfStep}
use Rattle.argus_engine.specs.Serving.{Begins, Gives}

-- ---- lines

-- with the number of events
abbrev pub yes_line : ℕ → List ℕ
yes_line count = codes "yes " ++ (decimal count ++ line_feed ∷ [])

-- with the least stamp at which the histories fail
abbrev pub no_line : ℕ → List ℕ
no_line stamp = codes "no " ++ (decimal stamp ++ line_feed ∷ [])

abbrev pub setup_error : List ℕ
setup_error = codes "error setup" ++ line_feed ∷ []

-- ---- bytes

-- The bytes are a trace whose histories fail nowhere. The world began with new guardians of its setup, and has made
-- the run that is gathered from them.
pub record IsGatheredFrom (bytes : List ℕ) (world : World) : Type 0 where
  pub setup : Setup
  pub histories : Histories
  pub is_trace : IsTrace bytes setup histories
  pub begun : world.lists ≡ fresh_lists setup
  pub gathered : IsGathered (fresh setup) histories world.past
  pub served : IsServed (fresh setup) world.past

-- the bytes are a trace whose histories fail, and this is the least stamp at which they do
pub record FailsAt (bytes : List ℕ) (stamp : ℕ) : Type 0 where
  pub setup : Setup
  pub histories : Histories
  pub is_trace : IsTrace bytes setup histories
  pub least : least_failing (fresh setup) histories ≡ Some stamp

-- the line for bytes from which no run is gathered
abbrev pub IsDenied : List ℕ → List ℕ → Type 0
IsDenied bytes line =
    (LacksSetup bytes × (line ≡ setup_error))
    ⊎ (((number : ℕ) × HasBadLine bytes number × (line ≡ error_text number))
    ⊎ ((stamp : ℕ) × FailsAt bytes stamp × (line ≡ no_line stamp)))

-- The line for bytes. A world comes if a run is gathered from them.
abbrev pub IsVerdict : List ℕ → Option World → List ℕ → Type 0
IsVerdict bytes (Some world) line = IsGatheredFrom bytes world
    × (line ≡ yes_line (length world.past))
IsVerdict bytes None line = IsDenied bytes line

-- ---- a reader

-- the line for all that the reader gives
abbrev pub TellsTrace : Option (List ℕ) → Option World → List ℕ → Type 0
TellsTrace input world line = (bytes : List ℕ) × Gives input bytes × IsVerdict bytes world line

-- nothing was written, or a beginning of that line
abbrev pub BeginsVerdict : Option (List ℕ) → List ℕ → Type 0
BeginsVerdict input written = (written ≡ [])
    ⊎ ((world : Option World) × (line : List ℕ) × TellsTrace input world line × Begins written line)

-- ---- worlds

-- whoever was asked for a world of a setup gave a new one, or a fault
abbrev pub GivesNewWorlds : {M : Type 0} → (M → World) → (Setup → Result M Fault → Type 0) → Type 0
GivesNewWorlds {M} run post = (setup : Setup) (made : Result M Fault) → post setup made
    → IfOk made (λ world. run world ≡ new_world setup)

-- a fault of a step, or one that was given in place of a world
abbrev pub IsOfMaking : {M : Type 0} → (Setup → Result M Fault → Type 0) → Fault → Type 0
IsOfMaking post fault = IsOfStep fault ⊎ ((setup : Setup) × post setup (Err fault))

-- or one of the reader or of the writer
abbrev pub IsOfTrace : {M : Type 0} → (Setup → Result M Fault → Type 0) → Fault → Type 0
IsOfTrace post fault = IsOfReader fault ⊎ (IsOfMaking post fault ⊎ (fault ≡ Output))

-- Bytes have one verdict: its line is determined, and so is the run.
abbrev pub OneVerdict : Type 0
OneVerdict = (bytes : List ℕ) (world other : Option World) (line more : List ℕ)
    → IsVerdict bytes world line → IsVerdict bytes other more → (line ≡ more) × (world ≡ other)
