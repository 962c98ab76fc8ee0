-- The texts of steps and answers, and the JSON document that a setup is.
use Rattle.std.specs.Prelude.{ℕ, ℤ, ◌<◌, ◌≤◌, ◌^◌, List, [], ◌∷◌, ◌++◌, length, codes, decimal, IsUtf8, ◌≡◌, Some}
use Rattle.std.specs.Fmt.{signed_decimal}
use Rattle.std.specs.List.{AllByRecursion}
use Rattle.limits.specs.Limits.{max_guardians, max_objects}
use Rattle.serde_json.specs.Data.{Data, array, object, Items, no_items, item, no_members, member}
use Rattle.serde_json.specs.Read.{read}
use Rattle.serde_json.specs.Written.{compact_text}
use Rattle.action_names.specs.Names.{Name, IsName, IsComponent, name_text}
use Rattle.values.specs.declared.content.Content.{Content}
use Rattle.values.specs.declared.value.Value.{Value}
use Rattle.values.specs.Values.{IsValue, value_text}
use Rattle.values.specs.Contents.{IsContent, IsStoredContent, content_data}
use Rattle.atomic_types.specs.Operations as op
use Rattle.atomic_types.specs.declared.operation.Arguments.{Arguments}
use Rattle.atomic_types.specs.declared.operation.Arguments.TheVariants as with
use Rattle.atomic_types.specs.declared.op.Reply.{Reply}
use Rattle.atomic_types.specs.declared.op.Reply.TheVariants.{Gives, Truth, Signals}
use Rattle.atomic_types.specs.declared.op.Reply.TheVariants as reply
use Rattle.atomic_types.specs.declared.op.Signal.{Signal}
use Rattle.atomic_types.specs.declared.op.Signal.TheVariants.{Bounds, WrongTag}
use Rattle.atomic_types.specs.declared.op.Signal.TheVariants as signal
use Rattle.atomic_types.specs.Operations.{IsOp, arguments_of, op_name}
use Rattle.run_model.specs.declared.step.ArmKind.{ArmKind}
use Rattle.run_model.specs.declared.step.ArmKind.TheVariants as arm
use Rattle.run_model.specs.declared.step.ObjectId.{ObjectId}
use Rattle.run_model.specs.declared.step.Step.{Step}
use Rattle.run_model.specs.declared.step.Step.TheVariants.{Top, NestedTop, Call, Arms, Op, Commit, Close, Prepare, Decide, Abort, Tell, Crash, Recover}
use Rattle.run_model.specs.declared.answer.Answer.{Answer}
use Rattle.run_model.specs.declared.answer.Answer.TheVariants.{Began, Granted, Waits, VoteYes, VoteNo, Done, Refused}
use Rattle.run_model.specs.declared.answer.Refusal.{Refusal}
use Rattle.run_model.specs.declared.answer.Refusal.TheVariants.{NoGuardian, NoAction, NoObject, Ended, Busy, Gone, Down, Elsewhere, Orphan, NotSo, TooDeep, NotTop, NotSub, NotClosed, Already, Unready, IsUp, Limit, BadOp}
use Rattle.run_model.specs.Openings.{Setup}
use Rattle.std.specs.Prelude.{true, false}

-- fields of a line are parted by one space
abbrev pub space : ℕ
space = 32

-- a guardian and an object's number there, as in 2/7
abbrev pub object_text : ObjectId → List ℕ
object_text x = decimal x.guardian ++ 47 ∷ decimal x.number

-- arguments, a space between two
abbrev pub arguments_text : Arguments (List ℕ) ℤ Value → List ℕ
arguments_text with.Nothing = []
arguments_text (with.Word word) = word
arguments_text (with.WordValue word v) = word ++ space ∷ value_text v
arguments_text (with.Index index) = signed_decimal index
arguments_text (with.IndexValue index v) = signed_decimal index ++ space ∷ value_text v
arguments_text (with.Value v) = value_text v

-- a name, and arguments with a space before them
abbrev pub called_text : List ℕ → Arguments (List ℕ) ℤ Value → List ℕ
called_text word with.Nothing = word
called_text word arguments = word ++ space ∷ arguments_text arguments

-- an operation's name and its arguments
abbrev pub op_text : op.Op → List ℕ
op_text o = called_text (op_name o) (arguments_of o)

-- the kinds of arms, a space before each
abbrev pub kinds_text : List ArmKind → List ℕ
kinds_text [] = []
kinds_text (arm.Sub ∷ kinds) = codes " s" ++ kinds_text kinds
kinds_text (arm.Top ∷ kinds) = codes " t" ++ kinds_text kinds

-- the one spelling of a step, without its line feed
abbrev pub step_text : Step → List ℕ
step_text (Top g) = codes "top " ++ decimal g
step_text (NestedTop a) = codes "nest " ++ name_text a
step_text (Call a g) = codes "call " ++ name_text a ++ space ∷ decimal g
step_text (Arms a kinds) = codes "arms " ++ name_text a ++ kinds_text kinds
step_text (Op a x wanted) =
    codes "op " ++ name_text a ++ space ∷ object_text x ++ space ∷ op_text wanted
step_text (Commit a) = codes "commit " ++ name_text a
step_text (Close t) = codes "close " ++ name_text t
step_text (Prepare g t) = codes "prepare " ++ decimal g ++ space ∷ name_text t
step_text (Decide t) = codes "decide " ++ name_text t
step_text (Abort a) = codes "abort " ++ name_text a
step_text (Tell g a) = codes "tell " ++ decimal g ++ space ∷ name_text a
step_text (Crash g) = codes "crash " ++ decimal g
step_text (Recover g) = codes "recover " ++ decimal g

-- its numbers, names, texts and operation are within the limits
abbrev pub HasStepParts : Step → Type 0
HasStepParts (Top g) = IsComponent g
HasStepParts (NestedTop a) = IsName a
HasStepParts (Call a g) = IsName a × IsComponent g
HasStepParts (Arms a kinds) = IsName a
HasStepParts (Op a x wanted) = IsName a × IsComponent x.guardian
    × IsComponent x.number × IsOp wanted
HasStepParts (Commit a) = IsName a
HasStepParts (Close t) = IsName t
HasStepParts (Prepare g t) = IsComponent g × IsName t
HasStepParts (Decide t) = IsName t
HasStepParts (Abort a) = IsName a
HasStepParts (Tell g a) = IsComponent g × IsName a
HasStepParts (Crash g) = IsComponent g
HasStepParts (Recover g) = IsComponent g

-- how many bytes a line has at most, without its line feed
abbrev pub max_line : ℕ
max_line = 8192

-- a step that a line can spell
pub record IsStep (step : Step) : Type 0 where
  pub parts : HasStepParts step
  pub line : length (step_text step) ≤ max_line

-- the line spells the step
pub record Spells (line : List ℕ) (step : Step) : Type 0 where
  pub fits : IsStep step
  pub text : line ≡ step_text step

-- names, a space before each
abbrev pub names_text : List Name → List ℕ
names_text [] = []
names_text (a ∷ names) = space ∷ name_text a ++ names_text names

abbrev pub signal_text : Signal → List ℕ
signal_text Bounds = codes "bounds"
signal_text signal.Limit = codes "limit"
signal_text WrongTag = codes "wrong_tag"

abbrev pub reply_text : Reply → List ℕ
reply_text (Gives v) = value_text v
reply_text (Truth true) = codes "true"
reply_text (Truth false) = codes "false"
reply_text reply.Done = codes "done"
reply_text (Signals s) = codes "signals " ++ signal_text s

-- the number of a refusal
abbrev pub refusal_number : Refusal → ℕ
refusal_number NoGuardian = 1
refusal_number NoAction = 2
refusal_number NoObject = 3
refusal_number Ended = 4
refusal_number Busy = 5
refusal_number Gone = 6
refusal_number Down = 7
refusal_number Elsewhere = 8
refusal_number Orphan = 9
refusal_number NotSo = 10
refusal_number TooDeep = 11
refusal_number NotTop = 12
refusal_number NotSub = 13
refusal_number NotClosed = 14
refusal_number Already = 15
refusal_number Unready = 16
refusal_number IsUp = 17
refusal_number Limit = 18
refusal_number BadOp = 19

-- the line of an answer, without its line feed
abbrev pub answer_text : Answer → List ℕ
answer_text (Began names) = codes "began" ++ names_text names
answer_text (Granted r) = codes "granted " ++ reply_text r
answer_text (Waits names) = codes "waits" ++ names_text names
answer_text VoteYes = codes "vote yes"
answer_text VoteNo = codes "vote no"
answer_text (Done count) = codes "done " ++ decimal count
answer_text (Refused why) = codes "refused " ++ decimal (refusal_number why)

-- one name at least, each within the limits
abbrev pub AreNames : List Name → Type 0
AreNames names = (1 ≤ length names) × AllByRecursion IsName names

-- the value of a reply is within the limits
abbrev pub IsReply : Reply → Type 0
IsReply (Gives v) = IsValue v
IsReply (Truth b) = Unit {0}
IsReply reply.Done = Unit {0}
IsReply (Signals s) = Unit {0}

-- a count of unsigned 64 bits
abbrev pub IsCount : ℕ → Type 0
IsCount n = n < 2 ^ 64

-- an answer that a line can spell: its names, value and count are within the limits
abbrev pub IsAnswer : Answer → Type 0
IsAnswer (Began names) = AreNames names
IsAnswer (Granted r) = IsReply r
IsAnswer (Waits names) = AreNames names
IsAnswer VoteYes = Unit {0}
IsAnswer VoteNo = Unit {0}
IsAnswer (Done count) = IsCount count
IsAnswer (Refused why) = Unit {0}

-- the line spells the answer
pub record SpellsAnswer (line : List ℕ) (answer : Answer) : Type 0 where
  pub fits : IsAnswer answer
  pub text : line ≡ answer_text answer

-- the objects of one guardian, each with such a content: at most 1,024
abbrev pub AreObjectsOf : (Content → Type 0) → List Content → Type 0
AreObjectsOf fits contents = (length contents ≤ max_objects) × AllByRecursion fits contents

-- 1 to 1,024 guardians with such contents
pub record IsSetupOf (fits : Content → Type 0) (setup : Setup) : Type 0 where
  pub not_empty : 1 ≤ length setup
  pub within_limit : length setup ≤ max_guardians
  pub each : AllByRecursion (AreObjectsOf fits) setup

-- what a setup's file may hold
abbrev pub IsSetup : Setup → Type 0
IsSetup setup = IsSetupOf IsContent setup

-- what the setup line of a trace may hold: also an array that was emptied at the greatest index
abbrev pub IsOpeningSetup : Setup → Type 0
IsOpeningSetup setup = IsSetupOf IsStoredContent setup

abbrev pub contents_items : List Content → Items
contents_items [] = no_items
contents_items (c ∷ contents) = item (content_data c) (contents_items contents)

abbrev pub guardians_items : Setup → Items
guardians_items [] = no_items
guardians_items (contents ∷ setup) =
    item (object (member (codes "objects") (array (contents_items contents)) no_members))
    (guardians_items setup)

-- the JSON document that a setup is
abbrev pub setup_data : Setup → Data
setup_data setup = object (member (codes "guardians") (array (guardians_items setup)) no_members)

-- the one spelling in which a setup is written: no white space
abbrev pub setup_text : Setup → List ℕ
setup_text setup = compact_text (setup_data setup)

-- the bytes are a text of the document of a setup with such contents: its white space and the order of its members
-- are free, and of members of one name the last counts
pub record IsTextOf (contents : Content → Type 0) (bytes : List ℕ) (setup : Setup) : Type 0 where
  pub fits : IsSetupOf contents setup
  pub utf8 : IsUtf8 bytes
  pub document : read bytes ≡ Some (setup_data setup)

abbrev pub IsSetupText : List ℕ → Setup → Type 0
IsSetupText bytes setup = IsTextOf IsContent bytes setup

abbrev pub IsOpeningText : List ℕ → Setup → Type 0
IsOpeningText bytes setup = IsTextOf IsStoredContent bytes setup
