-- The text of a run of a script: how its clients ended, and then the bases of its objects.
use Rattle.std.specs.Prelude.{ℕ, suc, ◌≡◌, ◌⊎◌, List, [], ◌∷◌, ◌++◌, Option, Some, None, codes, decimal, length}
use Rattle.std.specs.Io.KnownBytes.{Appends}
use Rattle.serde_json.specs.Data.{Data}
use Rattle.values.specs.declared.content.Content.{Content}
use Rattle.values.specs.Values.{value_text}
use Rattle.values.specs.Contents.{content_text}
use Rattle.script_model.specs.declared.checked.Checked.{Checked}
use Rattle.script_model.specs.Reaching.{Fits}
use Rattle.run_model.specs.declared.history.Event.{Event}
use Rattle.run_model.specs.Openings.{Setup, fresh, fresh_lists}
use Rattle.run_model.specs.Runs.{IsRun}
use Rattle.run_model.specs.Transcripts.{line_feed}
use Rattle.traces.specs.Traces.{IsTrace, trace_text}
use Rattle.tracer.specs.Leaving.{histories_of}
use Rattle.activities.specs.declared.client.ClientEnd.{ClientEnd}
use Rattle.activities.specs.declared.client.ClientEnd.TheVariants.{Aborted, Committed}
use Rattle.argus_engine.specs.declared.engine.Fault.{Fault}
use Rattle.argus_engine.specs.Serving.{Begins, IsOfWriter}
use Rattle.argus_engine.specs.Tracing.{IsVerdict, yes_line}

-- some document fits the script
abbrev pub IsFit : Checked → Type 0
IsFit script = (document : Data) × Fits document script

-- the bases of all objects: of each guardian in order, by the number of the object
abbrev pub Bases : Type 0
Bases = List (List (ℕ × Content))

-- ---- lines

-- how a client ended, and the value that it returned
abbrev pub end_text : ClientEnd → List ℕ
end_text (Committed top None) = codes "committed"
end_text (Committed top (Some value)) = codes "committed " ++ value_text value
end_text (Aborted top) = codes "aborted"

abbrev pub end_line : ℕ → ClientEnd → List ℕ
end_line n end = codes "client " ++ (decimal n ++ (codes " " ++ (end_text end ++ line_feed ∷ [])))

-- an object at g, and its base
abbrev pub base_line : ℕ → ℕ × Content → List ℕ
base_line g base = decimal g
    ++ (codes "/" ++ (decimal base.0 ++ (codes " " ++ (content_text base.1 ++ line_feed ∷ []))))

abbrev pub base_lines : ℕ → List (ℕ × Content) → List ℕ
base_lines g [] = []
base_lines g (base ∷ bases) = base_line g base ++ base_lines g bases

-- the text of each, by its number; the first has this one
abbrev pub numbered : {X : Type 0} → (ℕ → X → List ℕ) → ℕ → List X → List ℕ
numbered say n [] = []
numbered say n (x ∷ xs) = say n x ++ numbered say (suc n) xs

-- a line for each client, and then one for each object
abbrev pub run_text : List ClientEnd → Bases → List ℕ
run_text ends bases = numbered end_line 1 ends ++ numbered base_lines 1 bases

-- ---- writers

-- what is known of a writer that may be there
abbrev pub known : {T : Type 0} → (T → Option (List ℕ)) → Option T → Option (List ℕ)
known contents None = None
known contents (Some writer) = contents writer

-- two writers took these bytes, of which the fact holds
abbrev pub WriteBoth : Option (List ℕ) → Option (List ℕ) → Option (List ℕ) → Option (List ℕ)
    → (List ℕ → List ℕ → Type 0) → Type 0
WriteBoth first now second after fact =
    (part : List ℕ) × (written : List ℕ) × Appends first now part
    × Appends second after written × fact part written

-- a beginning of the first text and nothing of the second, or all of the first and a beginning of the second
abbrev pub BeginBoth : List ℕ → List ℕ → List ℕ → List ℕ → Type 0
BeginBoth trace text part written = (Begins part trace × (written ≡ []))
    ⊎ ((part ≡ trace) × Begins written text)

-- ---- runs

-- which outcomes a run of a script may have in a new system of a setup: how its clients end, the bases that they
-- leave, and what has happened
abbrev pub Comes : Type 1
Comes = Checked → Setup → List ClientEnd → Bases → List Event → Type 0

-- This has happened in a new system of the setup. It is a run, and the text is that of its trace.
pub record IsTraced (setup : Setup) (past : List Event) (trace : List ℕ) : Type 0 where
  pub is_run : IsRun (fresh setup) past
  pub text : trace ≡ trace_text setup (histories_of (fresh setup) past)

module _ (comes : Comes) where
  -- script and setup have one outcome at most
  abbrev pub IsDetermined : Type 0
  IsDetermined = (script : Checked) (setup : Setup) (ends others : List ClientEnd)
      (bases more : Bases) (past other : List Event)
      → comes script setup ends bases past → comes script setup others more other
      → (ends ≡ others) × (bases ≡ more) × (past ≡ other)

  -- the texts of the trace and of the lines of an outcome that may come
  abbrev pub TellsRun : Checked → Setup → List ℕ → List ℕ → Type 0
  TellsRun script setup trace text =
      (ends : List ClientEnd) × (bases : Bases) × (past : List Event)
      × comes script setup ends bases past × IsTraced setup past trace
      × (text ≡ run_text ends bases)

  -- nothing was written, or a beginning of these texts, no line before all of the trace
  abbrev pub BeginsRun : Checked → Setup → List ℕ → List ℕ → Type 0
  BeginsRun script setup part written =
      ((part ≡ []) × (written ≡ [])) ⊎ ((trace : List ℕ) × (text : List ℕ)
      × TellsRun script setup trace text × BeginBoth trace text part written)

-- a fault of the clients' run, out of memory, or a fault of the writer
abbrev pub IsOfRun : (Fault → Type 0) → Fault → Type 0
IsOfRun faults fault = faults fault ⊎ IsOfWriter fault

-- A trace that was written is answered with yes and the number of the events, if it can be read as a trace.
abbrev pub TracesAreGathered : Type 0
TracesAreGathered = (setup : Setup) (past : List Event) (trace : List ℕ) → IsTraced setup past trace
    → IsTrace trace setup (histories_of (fresh setup) past) → IsVerdict trace
    (Some (record { lists = fresh_lists setup; past = past })) (yes_line (length past))
