-- The bytes of a trace file: a setup line, and a line for each event of the registry's history and of each guardian's.
use Rattle.std.specs.Prelude.{Vec, ℕ, zero, suc, ◌+◌, ◌-◌, ◌≡◌, ◌≢◌, ◌<◌, ◌≤◌, ◌^◌, IsTrue, List, [], ◌∷◌, ◌++◌, length, map, codes, decimal, slice_index_or}
use Rattle.std.specs.List.{AllByRecursion}
use Rattle.std.specs.declared.alloc.Global.{Global}
use Rattle.limits.specs.Limits.{max_guardians}
use Rattle.run_model.specs.declared.history.Event.{Event}
use Rattle.traces.specs.declared.line.Line.{Line}
use Rattle.run_model.specs.Gathering.{Histories}
use Rattle.run_model.specs.LocalHistories.{Stamped}
use Rattle.run_model.specs.Openings.{Setup}
use Rattle.run_model.specs.Reading.{Lacks}
use Rattle.run_model.specs.Runs.{is_accepted}
use Rattle.run_model.specs.Texts.{space, step_text, answer_text, IsStep, IsAnswer, IsOpeningText, setup_text}
use Rattle.run_model.specs.Transcripts.{line_feed}

-- ---- a line

-- whose history a line is of: 0 stands for the registry, another number for the guardian of this number
abbrev pub owner_text : ℕ → List ℕ
owner_text zero = codes "r"
owner_text (suc n) = decimal (suc n)

-- what stands between a step and its answer
abbrev pub arrow : List ℕ
arrow = codes " -> "

abbrev pub event_text : Event → List ℕ
event_text e = step_text e.step ++ (arrow ++ answer_text e.answer)

-- without its line feed
abbrev pub line_text : Line → List ℕ
line_text l = owner_text l.owner ++ space ∷ (decimal l.stamped.0 ++ space ∷ event_text l.stamped.1)

-- the registry, or a guardian that a setup may have
abbrev pub IsOwner : ℕ → Type 0
IsOwner owner = owner ≤ max_guardians

abbrev pub IsStamp : ℕ → Type 0
IsStamp stamp = (1 ≤ stamp) × (stamp < 2 ^ 64)

-- an accepted step with its answer, both such that a line can spell them
pub record IsEvent (e : Event) : Type 0 where
  pub step : IsStep e.step
  pub answer : IsAnswer e.answer
  pub accepted : IsTrue (is_accepted e.answer)

pub record IsLine (l : Line) : Type 0 where
  pub owner : IsOwner l.owner
  pub stamp : IsStamp l.stamped.0
  pub event : IsEvent l.stamped.1

-- ---- the lines of histories

-- lines, each with its line feed
abbrev pub lines_text : List Line → List ℕ
lines_text [] = []
lines_text (l ∷ lines) = line_text l ++ line_feed ∷ lines_text lines

-- the lines of one history
abbrev pub owned_lines : ℕ → List Stamped → List Line
owned_lines owner [] = []
owned_lines owner (c ∷ history) = record { owner = owner; stamped = c } ∷ owned_lines owner history

-- the lines of histories, one after another, whose owners' numbers begin with this one
abbrev pub lines_from : ℕ → List (List Stamped) → List Line
lines_from owner [] = []
lines_from owner (h ∷ hs) = owned_lines owner h ++ lines_from (suc owner) hs

-- the registry's lines, then those of the guardians in rising number
abbrev pub lines_of : Histories → List Line
lines_of hs = lines_from 0 (hs.registry ∷ hs.guardians)

-- each guardian of the setup has a history; if others have, the last of them is not empty
pub record AreHistoriesOver (setup : Setup) (guardians : List (List Stamped)) : Type 0 where
  pub each : length setup ≤ length guardians
  pub last : length setup < length guardians
      → slice_index_or guardians (length guardians - 1) [] ≢ []

-- ---- a file

-- the bytes begin with a line of the setup's document, in any spelling
pub record BeginsWithSetup (bytes : List ℕ) (setup : Setup) (rest : List ℕ) : Type 0 where
  pub document : List ℕ
  pub spells : IsOpeningText document setup
  pub one_line : Lacks line_feed document
  pub text : bytes ≡ codes "setup " ++ (document ++ line_feed ∷ rest)

-- the bytes are a trace of these histories
pub record IsTrace (bytes : List ℕ) (setup : Setup) (hs : Histories) : Type 0 where
  pub each : AllByRecursion IsLine (lines_of hs)
  pub guardians : AreHistoriesOver setup hs.guardians
  pub text : BeginsWithSetup bytes setup (lines_text (lines_of hs))

-- the form in which a trace is written: no white space in its setup
abbrev pub trace_text : Setup → Histories → List ℕ
trace_text setup hs = codes "setup " ++ (setup_text setup ++ line_feed ∷ lines_text (lines_of hs))

-- ---- what is no trace

abbrev pub LacksSetup : List ℕ → Type 0
LacksSetup bytes = (setup : Setup) (rest : List ℕ) → BeginsWithSetup bytes setup rest → ⊥

-- the owners of lines do not fall, and none is smaller than this number
abbrev pub AreInOrder : ℕ → List Line → Type 0
AreInOrder owner [] = Unit {0}
AreInOrder owner (l ∷ lines) = (owner ≤ l.owner) × AreInOrder l.owner lines

-- Behind the setup line and lines in order the bytes go on, and not with a line in order. The bad line's number
-- counts from 1, the setup line's.
pub record HasBadLine (bytes : List ℕ) (number : ℕ) : Type 0 where
  pub setup : Setup
  pub lines : List Line
  pub rest : List ℕ
  pub begins : BeginsWithSetup bytes setup (lines_text lines ++ rest)
  pub each : AllByRecursion IsLine lines
  pub in_order : AreInOrder 0 lines
  pub counted : number ≡ length lines + 2
  pub goes_on : rest ≢ []
  pub no_line : (l : Line) (more : List ℕ) → IsLine l → AreInOrder 0 (lines ++ l ∷ [])
      → rest ≢ line_text l ++ line_feed ∷ more

-- ---- histories as a program keeps them

abbrev pub lists_of : List (Vec Stamped Global) → List (List Stamped)
lists_of guardians = map (λ h. h.items) guardians

abbrev pub histories_in : List Stamped → List (Vec Stamped Global) → Histories
histories_in registry guardians = record { registry = registry; guardians = lists_of guardians }
