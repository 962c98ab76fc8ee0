-- What a session is opened over, what a step makes of it, and what it tells.
use Rattle.std.specs.Prelude.{◌≡◌, ◌≤◌, ◌++◌, ℕ, List, ◌∷◌, length, codes, decimal, Some, None, Result, Ok}
use Rattle.action_names.specs.Names.{IsName, Name, name_text}
use Rattle.values.specs.Contents.{content_text}
use Rattle.atomic_types.specs.Operations.{IsOp, Op}
use Rattle.run_model.specs.declared.step.Step.{Step}
use Rattle.run_model.specs.declared.answer.Answer.{Answer}
use Rattle.run_model.specs.Answers.{answer_of}
use Rattle.run_model.specs.Openings.{Setup, objects_at, opening_in}
use Rattle.run_model.specs.Runs.{new_world, world_after}
use Rattle.run_model.specs.Texts.{IsSetupText, answer_text, op_text}
use Rattle.run_model.specs.Versions.{base_of}
use Rattle.run_laws.specs.Laws.{OrphanWhereRefused}
use Rattle.run_laws.specs.Serving.{IsServed}
use Rattle.argus_c.specs.declared.reading.Unread.{Unread}
use Rattle.argus_c.specs.declared.session.Session.{Session}
use Rattle.argus_c.specs.Keeping.{AllMarked, ChangesAreTold}

-- a new world of the setup that this document is, in which no step was made, and whose stores are all to be kept
pub record IsOpened (document : List ℕ) (session : Session) : Type 0 where
  pub setup : Setup
  pub read : IsSetupText document setup
  pub new : session.world.run ≡ new_world setup
  pub none : session.last ≡ None
  pub kept : AllMarked session.changes (length setup)

-- no setup is this document
abbrev pub IsNoSetup : List ℕ → Type 0
IsNoSetup document = (setup : Setup) → IsSetupText document setup → ⊥

-- The step was made, and the world answered as the definitions say.
pub record IsMade (step : Step) (old new : Session) : Type 0 where
  pub answer : Answer
  pub told : new.last ≡ Some answer
  pub right : answer ≡ answer_of (opening_in old.world.run.lists) step old.world.run.past
  pub after : new.world.run ≡ world_after old.world.run step answer
  pub orphans : OrphanWhereRefused step answer old.world.run.past
  pub served : IsServed (opening_in new.world.run.lists) new.world.run.past
  pub changes : ChangesAreTold old new

-- the step that was read was made
pub record IsMadeOf (read : Result Step Unread) (old new : Session) : Type 0 where
  pub step : Step
  pub is : read ≡ Ok step
  pub made : IsMade step old new

-- Nothing happened, and the last answer is the same.
pub record IsUnmade (old new : Session) : Type 0 where
  pub run : new.world.run ≡ old.world.run
  pub last : new.last ≡ old.last
  pub changes : ChangesAreTold old new

-- no step is of this kind
abbrev pub IsNoStep : (Step → Type 0) → Type 0
IsNoStep Is = (step : Step) → Is step → ⊥

-- the text is the name's
pub record IsNamed (text : List ℕ) (action : Name) : Type 0 where
  pub fits : IsName action
  pub same : text ≡ name_text action

-- no action has a name with this text
abbrev pub IsNoName : List ℕ → Type 0
IsNoName text = (action : Name) → IsNamed text action → ⊥

-- the step is this one of the action whose name this is
pub record IsOfAction (text : List ℕ) (of : Name → Step) (step : Step) : Type 0 where
  pub action : Name
  pub named : IsNamed text action
  pub same : step ≡ of action

-- the text is that of the operation
pub record IsOpText (text : List ℕ) (wanted : Op) : Type 0 where
  pub fits : IsOp wanted
  pub same : text ≡ op_text wanted

-- the line of an operation of an action on an object, whose name and arguments are this text
abbrev pub operation_line : List ℕ → ℕ → ℕ → List ℕ → List ℕ
operation_line action guardian number wanted =
    codes "op " ++ action ++ 32 ∷ decimal guardian ++ 47 ∷ decimal number ++ 32 ∷ wanted

-- there is this object
pub record IsObject (session : Session) (guardian number : ℕ) : Type 0 where
  pub guardian_from_one : 1 ≤ guardian
  pub number_from_one : 1 ≤ number
  pub there : number ≤ length (objects_at session.world.run.lists.setup guardian)

-- the text is the line of the last answer
pub record IsAnswerText (session : Session) (text : List ℕ) : Type 0 where
  pub answer : Answer
  pub told : session.last ≡ Some answer
  pub same : text ≡ answer_text answer

-- the text is the one spelling of the object's base
pub record IsBaseText (guardian number : ℕ) (session : Session) (text : List ℕ) : Type 0 where
  pub object : IsObject session guardian number
  pub same : text ≡ content_text (base_of (opening_in session.world.run.lists)
      (record { guardian = guardian; number = number }) session.world.run.past)
