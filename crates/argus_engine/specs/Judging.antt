-- What the command writes about bytes that may be a script.
use Rattle.std.specs.Prelude.{ℕ, ◌≡◌, List, [], ◌∷◌, ◌++◌, ◌⊎◌, Option, Some, None, codes, decimal}
use Rattle.std.specs.Io.KnownBytes.{Keeps}
use Rattle.serde_json.specs.Data.{Data}
use Rattle.script_model.specs.declared.checked.Checked.{Checked}
use Rattle.script_model.specs.declared.fault.FaultKind.{FaultKind}
use Rattle.script_model.specs.declared.fault.FaultKind.TheVariants.{Shape}
use Rattle.script_model.specs.declared.fault.ScriptFault.{ScriptFault}
use Rattle.script_model.specs.declared.fault.ScriptFault.TheVariants.{Memory, Bad}
use Rattle.script_model.specs.Documents.{IsDocument, IsNoJson}
use Rattle.script_model.specs.Faults.{fault_number, printed}
use Rattle.script_model.specs.Reaching.{Fits, IsFirstFault}
use Rattle.run_model.specs.Transcripts.{line_feed}
use Rattle.argus_engine.specs.declared.engine.Ended.{Ended}
use Rattle.argus_engine.specs.declared.engine.Ended.TheVariants.{Done, Stopped}
use Rattle.argus_engine.specs.Serving.{Begins, Writes}

-- they are JSON, and its document is this script
abbrev pub IsScriptIn : List ℕ → Checked → Type 0
IsScriptIn bytes checked = (document : Data) × IsDocument bytes document × Fits document checked

-- they are a script
abbrev pub IsScript : List ℕ → Type 0
IsScript bytes = (checked : Checked) × IsScriptIn bytes checked

-- their first fault, and its place: the whole of what is no JSON has the wrong shape
abbrev pub HasFirstFault : List ℕ → FaultKind → List ℕ → Type 0
HasFirstFault bytes why place =
    (IsNoJson bytes × (why ≡ Shape) × (place ≡ []))
    ⊎ ((document : Data) × IsDocument bytes document × IsFirstFault document (Bad why place))

-- what a call answers that finds no script
abbrev pub IsFaultOf : List ℕ → ScriptFault → Type 0
IsFaultOf bytes Memory = Unit {0}
IsFaultOf bytes (Bad why place) = HasFirstFault bytes why place

abbrev pub ok_line : List ℕ
ok_line = codes "ok" ++ line_feed ∷ []

abbrev pub fault_line : FaultKind → List ℕ → List ℕ
fault_line why place = codes "fault "
    ++ (decimal (fault_number why) ++ (codes " " ++ (printed place ++ line_feed ∷ [])))

-- `ok` for a script, and for all else its first fault
abbrev pub IsJudged : List ℕ → Ended → List ℕ → Type 0
IsJudged bytes Done line = IsScript bytes × (line ≡ ok_line)
IsJudged bytes Stopped line = (why : FaultKind) × (place : List ℕ) × HasFirstFault bytes why place
    × (line ≡ fault_line why place)

-- they are no script, and have a first fault to name
abbrev pub AreFaulty : List ℕ → Type 0
AreFaulty bytes = (line : List ℕ) × IsJudged bytes Stopped line

-- nothing was said, or a beginning of what is to be said
abbrev pub BeginsJudgement : List ℕ → List ℕ → Type 0
BeginsJudgement bytes written = (written ≡ [])
    ⊎ ((ended : Ended) × (line : List ℕ) × IsJudged bytes ended line × Begins written line)

-- nothing was written, or a beginning of the line of the first fault
abbrev pub BeginsFault : List ℕ → List ℕ → Type 0
BeginsFault bytes written = (written ≡ [])
    ⊎ ((line : List ℕ) × IsJudged bytes Stopped line × Begins written line)

-- what was read is the script, and nothing was said; or the first fault was said
abbrev pub IsRead : List ℕ → Option (List ℕ) → Option (List ℕ) → Option Checked → Type 0
IsRead bytes before after (Some checked) = IsScriptIn bytes checked × Keeps before after
IsRead bytes before after None = Writes before after (IsJudged bytes Stopped)
