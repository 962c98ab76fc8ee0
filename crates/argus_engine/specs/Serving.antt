-- What the engine makes of the bytes of a reader, and what it leaves with a writer.
use Rattle.std.specs.Prelude.{ℕ, ◌≡◌, ◌≢◌, ◌≤◌, List, [], ◌∷◌, ◌++◌, length, take, Option, None, Some, ⊤, ◌⊎◌}
use Rattle.std.specs.List.{AllByRecursion}
use Rattle.std.specs.Io.KnownBytes.{Appends}
use Rattle.run_model.specs.declared.step.Step.{Step}
use Rattle.run_model.specs.Texts.{IsStep, step_text}
use Rattle.run_model.specs.Runs.{World, history_from}
use Rattle.run_model.specs.Transcripts.{IsAnswered, BeginsWithStep, line_feed}
use Rattle.argus_engine.specs.declared.engine.Ended.{Ended}
use Rattle.argus_engine.specs.declared.engine.Ended.TheVariants.{Done, Stopped}
use Rattle.argus_engine.specs.declared.engine.Fault.{Fault}
use Rattle.argus_engine.specs.declared.engine.Fault.TheVariants.{Memory, Store, Input, Output, Stamps, Receipts, Open, Time}
use Rattle.stable_store.specs.declared.fault.StoreFault.{StoreFault}
use Rattle.run_model.specs.Openings.{opening_in}
use Rattle.stable_store.specs.declared.fault.StoreFault.TheVariants as store
use Rattle.layer_contracts.specs.declared.guardian.Fault.{Fault as StepFault}
use Rattle.layer_contracts.specs.declared.guardian.Fault.TheVariants as of_step
use Rattle.stepping.specs.Stepping.{FailsAtStore, HasMade, Leaves}

-- the bytes of a reader, where they are known, are this text
abbrev pub Gives : Option (List ℕ) → List ℕ → Type 0
Gives None text = ⊤
Gives (Some bytes) text = bytes ≡ text

-- the text begins with this part
abbrev pub Begins : List ℕ → List ℕ → Type 0
Begins part text = (rest : List ℕ) × (text ≡ part ++ rest)

-- the lines of steps
abbrev pub step_lines : List Step → List ℕ
step_lines [] = []
step_lines (step ∷ steps) = step_text step ++ line_feed ∷ step_lines steps

-- done, every line was a step; stopped, what comes next is no line of a step
abbrev pub HasEnded : Ended → List ℕ → Type 0
HasEnded Done rest = rest ≡ []
HasEnded Stopped rest = (rest ≢ []) × (BeginsWithStep rest → ⊥)

-- The steps of the first lines were made, and no other.
pub record Made (old new : World) (text rest : List ℕ) : Type 0 where
  pub steps : List Step
  pub each : AllByRecursion IsStep steps
  pub lines : text ≡ step_lines steps ++ rest
  pub opening : new.lists ≡ old.lists
  pub past : new.past ≡ history_from (opening_in old.lists) old.past steps

-- The steps of some first lines that the reader gives were made, and no other.
pub record MakesFirst (input : Option (List ℕ)) (old new : World) : Type 0 where
  pub text : List ℕ
  pub given : Gives input text
  pub rest : List ℕ
  pub made : Made old new text rest

-- All that the reader gave was answered, and the steps before its end were made.
pub record Answers (input : Option (List ℕ)) (old new : World) (written : List ℕ)
    (ended : Ended) : Type 0 where
  pub text : List ℕ
  pub given : Gives input text
  pub answered : IsAnswered (opening_in old.lists) old.past 1 text written
  pub rest : List ℕ
  pub made : Made old new text rest
  pub is_end : HasEnded ended rest

-- the writer took these bytes, of which the fact holds
abbrev pub Writes : Option (List ℕ) → Option (List ℕ) → (List ℕ → Type 0) → Type 0
Writes before after fact = (written : List ℕ) × Appends before after written × fact written

-- the writer took the front of the bytes
abbrev pub TakesFront : Option (List ℕ) → Option (List ℕ) → List ℕ → Type 0
TakesFront old new bytes = (count : ℕ) × (count ≤ length bytes) × Appends old new (take count bytes)

-- out of memory, or a fault of the writer
abbrev pub IsOfWriter : Fault → Type 0
IsOfWriter fault = (fault ≡ Memory) ⊎ (fault ≡ Output)

-- what a store's fault is to who runs a script
abbrev pub fault_of : StoreFault → Fault
fault_of store.Memory = Memory
fault_of store.Failed = Store
fault_of store.NotOurs = Store

-- and what the fault of a step is
abbrev pub fault_of_step : StepFault → Fault
fault_of_step of_step.Memory = Memory
fault_of_step of_step.Stable = Store

-- What was written is a beginning of what belongs to all that the reader gives; and it is a beginning of what belongs
-- to some beginning of it.
pub record BeginsAnswers (input : Option (List ℕ)) (old : World) (written : List ℕ) : Type 0 where
  pub text : List ℕ
  pub given : Gives input text
  pub each : (answers : List ℕ) → IsAnswered (opening_in old.lists) old.past 1 text answers
      → Begins written answers
  pub read : List ℕ
  pub is_read : Begins read text
  pub answers : List ℕ
  pub answered : IsAnswered (opening_in old.lists) old.past 1 read answers
  pub is_part : Begins written answers

-- After some steps one ran out of memory; the run is as those steps left it, and the stores are left as by that
-- failure.
pub record FailsOfMemory {M : Type 0} (run : M → World) (leaves : Leaves M)
    (old new : M) : Type 0 where
  pub before : M
  pub made : HasMade run leaves old before
  pub step : Step
  pub same : run new ≡ run before
  pub stores : leaves step (Some of_step.Memory) before new

-- What was done where the engine gives up by a fault. Memory ran out in a step or beside the steps; a step failed at
-- a store; or the reader or the writer failed, and each step was made. No other fault comes.
abbrev pub GaveUp : {M : Type 0} → (M → World) → Leaves M → M → M → Fault → Type 0
GaveUp run leaves old new Memory = HasMade run leaves old new ⊎ FailsOfMemory run leaves old new
GaveUp run leaves old new Store = FailsAtStore run leaves old new
GaveUp run leaves old new Input = HasMade run leaves old new
GaveUp run leaves old new Output = HasMade run leaves old new
GaveUp run leaves old new Stamps = ⊥
GaveUp run leaves old new Receipts = ⊥
GaveUp run leaves old new Open = ⊥
GaveUp run leaves old new Time = ⊥
