-- Words for the clauses of functions that read and write parts of a trace.
use Rattle.std.specs.Prelude.{ℕ, Bool, true, false, IsTrue, ◌≡◌, ◌≢◌, ◌<◌, ◌≤◌, ◌+◌, List, [], ◌∷◌, ◌++◌, length, codes, slice_index_or}
use Rattle.std.specs.List.{AllByRecursion}
use Rattle.limits.specs.Limits.{max_guardians}
use Rattle.run_model.specs.declared.answer.Answer.{Answer}
use Rattle.run_model.specs.declared.history.Event.{Event}
use Rattle.run_model.specs.LocalHistories.{Stamped}
use Rattle.run_model.specs.Openings.{Setup}
use Rattle.run_model.specs.Runs.{is_accepted}
use Rattle.run_model.specs.Texts.{step_text, answer_text, IsAnswer, IsOpeningText}
use Rattle.run_model.specs.Transcripts.{line_feed}
use Rattle.traces.specs.declared.line.Line.{Line}
use Rattle.traces.specs.Traces.{AreInOrder, IsEvent, IsLine, line_text, lines_from, lines_text}

-- what was read of a trace: its setup, and the lines behind the setup line
pub record Reading : Type 0 where
  pub setup : Setup
  pub lines : List Line

-- a first line, without its line feed
abbrev pub SpellsSetup : List ℕ → Setup → Type 0
SpellsSetup line setup = (document : List ℕ) × (line ≡ codes "setup " ++ document)
    × IsOpeningText document setup

-- a guardian that a setup may have
abbrev pub IsGuardian : ℕ → Type 0
IsGuardian number = (1 ≤ number) × (number ≤ max_guardians)

-- the answer of an accepted step
abbrev pub IsAccepted : Answer → Type 0
IsAccepted answer = IsAnswer answer × IsTrue (is_accepted answer)

-- a step and an answer, in two texts
abbrev pub AreParts : List ℕ → List ℕ → Event → Type 0
AreParts step answer e = IsEvent e × (step ≡ step_text e.step) × (answer ≡ answer_text e.answer)

-- a line that may follow was read; or the text is none, and nothing was done
abbrev pub TakesLine : List ℕ → Reading → Reading → Bool → Type 0
TakesLine text old new true =
    (l : Line) × IsLine l × (text ≡ line_text l) × AreInOrder 0 (old.lines ++ l ∷ [])
    × (new ≡ record { setup = old.setup; lines = old.lines ++ l ∷ [] })
TakesLine text old new false =
    ((l : Line) → IsLine l → AreInOrder 0 (old.lines ++ l ∷ []) → text ≢ line_text l)
    × (new ≡ old)

-- a line whose owner is none before this one
abbrev pub IsLineFrom : ℕ → Line → Type 0
IsLineFrom owner l = IsLine l × (owner ≤ l.owner)

-- the owner of the last line, or this number where there is none
abbrev pub last_owner : ℕ → List Line → ℕ
last_owner owner [] = owner
last_owner owner (l ∷ lines) = last_owner l.owner lines

-- lists as a reader keeps them, one for each owner that there may be: this is the owner of the last line
pub record IsKept (setup : Setup) (hs : List (List Stamped)) (last : ℕ) : Type 0 where
  pub each : AllByRecursion IsLine (lines_from 0 hs)
  pub last_is : last_owner 0 (lines_from 0 hs) ≡ last
  pub all : length hs ≡ max_guardians + 1
  pub fits : length setup ≤ max_guardians
  pub later : (i : ℕ) → last < i → slice_index_or hs i [] ≡ []

-- so much was read of these bytes: lines in order, after which the rest is left, and the next line has this number
pub record AreReadTo (bytes rest : List ℕ) (lines : List Line) (number : ℕ) : Type 0 where
  pub text : bytes ≡ lines_text lines ++ rest
  pub each : AllByRecursion IsLine lines
  pub in_order : AreInOrder 0 lines
  pub counted : number ≡ length lines + 2

-- behind the setup line stand these bytes, whose line of this number is bad
pub record StopsAt (bytes : List ℕ) (number : ℕ) : Type 0 where
  pub lines : List Line
  pub rest : List ℕ
  pub are_read : AreReadTo bytes rest lines number
  pub goes_on : rest ≢ []
  pub no_line : (l : Line) (more : List ℕ) → IsLine l → AreInOrder 0 (lines ++ l ∷ [])
      → rest ≢ line_text l ++ line_feed ∷ more
