-- Words for the clauses of private functions: one line, and how far the engine has come.
use Rattle.std.specs.Prelude.{ℕ, Bool, true, false, ◌≡◌, ◌≢◌, ◌<◌, ◌≤◌, suc, List, [], ◌∷◌, ◌++◌, Option, Some, None, length, slice_index, take, ◌⊎◌}
use Rattle.std.specs.List.{AllByRecursion}
use Rattle.std.specs.Io.KnownBytes.{Appends, Consumes, IsAtEnd}
use Rattle.run_model.specs.declared.step.Step.{Step}
use Rattle.run_model.specs.declared.history.Event.{Event}
use Rattle.run_model.specs.Openings.{Opening, opening_in}
use Rattle.run_model.specs.Answers.{answer_of}
use Rattle.run_model.specs.Runs.{World, history_after, history_from, world_after}
use Rattle.run_model.specs.Texts.{IsStep, Spells, step_text, answer_text}
use Rattle.run_model.specs.Transcripts.{BeginsWithStep, line_feed}
use Rattle.run_model.specs.Reading.{Lacks}
use Rattle.argus_engine.specs.declared.reading.Line.{Line}
use Rattle.argus_engine.specs.declared.reading.Line.TheVariants as line
use Rattle.argus_engine.specs.declared.reading.Front.{Front}
use Rattle.argus_engine.specs.declared.reading.Met.{Met}
use Rattle.argus_engine.specs.declared.reading.Met.TheVariants as met
use Rattle.argus_engine.specs.declared.engine.Fault.{Fault}
use Rattle.argus_engine.specs.declared.engine.Fault.TheVariants.{Memory, Input, Store}
use Rattle.argus_engine.specs.declared.engine.Next.{Next}
use Rattle.argus_engine.specs.declared.engine.Next.TheVariants.{Answered, NoStep, End}
use Rattle.argus_engine.specs.Serving.{Gives, step_lines}

-- what the reader goes on with is the line of no step
abbrev pub FacesNoStep : Option (List ℕ) → Type 0
FacesNoStep input = (text : List ℕ) × Gives input text × (text ≢ []) × (BeginsWithStep text → ⊥)

-- out of memory, or a fault of the reader
abbrev pub IsOfReader : Fault → Type 0
IsOfReader fault = (fault ≡ Memory) ⊎ (fault ≡ Input)

-- out of memory, or a fault of a guardian's store
abbrev pub IsOfStep : Fault → Type 0
IsOfStep fault = (fault ≡ Memory) ⊎ (fault ≡ Store)

-- a fault of the reader, or of the step that was read
abbrev pub IsOfReaderOrStep : Fault → Type 0
IsOfReaderOrStep fault = (fault ≡ Input) ⊎ IsOfStep fault

-- what was read: a line with its line feed, or the front of something else, or nothing
abbrev pub ReadsLine : Option (List ℕ) → Option (List ℕ) → List ℕ → Line → Type 0
ReadsLine old new bytes line.Whole = Consumes old new (bytes ++ line_feed ∷ [])
    × Lacks line_feed bytes
ReadsLine old new bytes line.Bad = FacesNoStep old
ReadsLine old new bytes line.Missing = Gives old []

-- so many of the bytes that are ready stand before what was met: the line feed, which is taken with them, or nothing
-- that ends the line; at the end nothing is ready
abbrev pub AreBefore : List ℕ → ℕ → ℕ → Met → Type 0
AreBefore ready count taken met.LineFeed =
    (count < length ready) × (slice_index ready count ≡ line_feed) × (taken ≡ suc count)
    × Lacks line_feed (take count ready)
AreBefore ready count taken met.More = (count ≤ length ready) × (taken ≡ count)
    × Lacks line_feed (take count ready)
AreBefore ready count taken met.End = (ready ≡ []) × (count ≡ 0) × (taken ≡ 0)

abbrev pub IsFront : List ℕ → Front → Type 0
IsFront ready front = AreBefore ready front.count front.taken front.met

-- bytes of a line were taken and put behind those that were there, up to what was met
abbrev pub TakesSome : Option (List ℕ) → Option (List ℕ) → List ℕ → List ℕ → Met → Type 0
TakesSome old new bytes grown met.LineFeed =
    (more : List ℕ) × (grown ≡ bytes ++ more) × Lacks line_feed more
    × Consumes old new (more ++ line_feed ∷ [])
TakesSome old new bytes grown met.More = (more : List ℕ) × (grown ≡ bytes ++ more)
    × Lacks line_feed more × Consumes old new more
TakesSome old new bytes grown met.End = (grown ≡ bytes) × IsAtEnd old

-- the reader went on with the line of the step
abbrev pub ReadsStep : Option (List ℕ) → Option (List ℕ) → Step → Type 0
ReadsStep old new step = IsStep step × Consumes old new (step_text step ++ line_feed ∷ [])

-- the step was made, and the line of its answer stands behind what was there
abbrev pub AnswersStep : Step → World → World → List ℕ → List ℕ → Type 0
AnswersStep step world after pending grown =
    let answer = answer_of (opening_in world.lists) step world.past in
    (after ≡ world_after world step answer)
    × (grown ≡ pending ++ (answer_text answer ++ line_feed ∷ []))

-- the line spells a step, which was made and answered; or it spells none, and nothing was done
abbrev pub AnswersLine : List ℕ → World → World → List ℕ → List ℕ → Bool → Type 0
AnswersLine line world after pending grown true = (step : Step) × Spells line step
    × AnswersStep step world after pending grown
AnswersLine line world after pending grown false =
    ((step : Step) → Spells line step → ⊥) × (after ≡ world) × (grown ≡ pending)

-- the world as the step leaves it
abbrev pub stepped : World → Step → World
stepped world step = world_after world step (answer_of (opening_in world.lists) step world.past)

-- the world is as it was, or the step that the line spells was made
abbrev pub MayMake : List ℕ → World → World → Type 0
MayMake line world after = (after ≡ world)
    ⊎ ((step : Step) × Spells line step × (after ≡ stepped world step))

-- or that of the next line that the reader gives
abbrev pub MayMakeNext : Option (List ℕ) → World → World → Type 0
MayMakeNext input world after =
    (after ≡ world)
    ⊎ ((step : Step) × IsStep step × (rest : List ℕ)
    × Gives input (step_text step ++ line_feed ∷ rest) × (after ≡ stepped world step))

-- one more line was answered, or none was there to be answered
abbrev pub GoesOn : Option (List ℕ) → Option (List ℕ) → World → World → List ℕ
    → List ℕ → Next → Type 0
GoesOn old new world after pending grown Answered = (step : Step) × ReadsStep old new step
    × AnswersStep step world after pending grown
GoesOn old new world after pending grown NoStep = FacesNoStep old
    × (after ≡ world) × (grown ≡ pending)
GoesOn old new world after pending grown End = Gives old [] × (after ≡ world) × (grown ≡ pending)

-- a line that was ready was gone on with; or nothing was read, and nothing was done
abbrev pub MayGoOn : Option (List ℕ) → Option (List ℕ) → World → World → List ℕ → List ℕ
    → Option Next → Type 0
MayGoOn old new world after pending grown (Some next) =
    GoesOn old new world after pending grown next
MayGoOn old new world after pending grown None = Consumes old new []
    × (after ≡ world) × (grown ≡ pending)

-- the lines of the answers of steps, one after another
abbrev pub answer_lines : Opening → List Event → List Step → List ℕ
answer_lines opening past [] = []
answer_lines opening past (step ∷ steps) =
    let answer = answer_of opening step past in
    answer_text answer ++ line_feed ∷ answer_lines opening (history_after step answer past) steps

-- this many lines were read before this number and answered, and nothing else was
pub record Progress (input left : Option (List ℕ)) (old new : World) (number : ℕ)
    (written : List ℕ) : Type 0 where
  pub steps : List Step
  pub each : AllByRecursion IsStep steps
  pub taken : Consumes input left (step_lines steps)
  pub count : number ≡ suc (length steps)
  pub opening : new.lists ≡ old.lists
  pub past : new.past ≡ history_from (opening_in old.lists) old.past steps
  pub answers : written ≡ answer_lines (opening_in old.lists) old.past steps

-- the writer took a beginning of what was kept for it, and the rest is kept
abbrev pub Moves : Option (List ℕ) → Option (List ℕ) → List ℕ → List ℕ → Type 0
Moves old new kept rest = (sent : List ℕ) × Appends old new sent × (kept ≡ sent ++ rest)

-- the progress, with what was written in two parts: what the writer took, and what is kept for it
pub record Running (input left before after : Option (List ℕ)) (old new : World) (number : ℕ)
    (kept : List ℕ) : Type 0 where
  pub sent : List ℕ
  pub appended : Appends before after sent
  pub progress : Progress input left old new number (sent ++ kept)
