-- What the words of a command line are, by clap's own definition of simple commands.
use Rattle.std.specs.Prelude.{ℕ, ◌≡◌, ◌↔◌, IsTrue, Bool, List, Option, Some, None, Result, option_map, codes, true}
use Rattle.std.specs.Str.Parse.{ParsesUnsigned}
use Rattle.std.specs.declared.num.ParseIntError.{ParseIntError}
use Rattle.clap.specs.Words.{App, Row, Rule, Text, first_of, one_of, new_app, new_rule, with_rule, with_subcommand, HasKind, ReadsOne, fault_of, subcommand_of}
use Rattle.clap.specs.Simple.{on_top}
use Rattle.clap.specs.declared.builder.action.ArgAction.TheVariants.{SetTrue}
use Rattle.clap.specs.declared.builder.value_parser.ValueParser.TheVariants.{Unsigned}
use Rattle.command_line.specs.declared.request.Command.{Command}
use Rattle.command_line.specs.declared.request.Command.TheVariants as command
use Rattle.command_line.specs.declared.request.Check.{Check}
use Rattle.command_line.specs.declared.request.Picture.{Picture}
use Rattle.command_line.specs.declared.request.Run.{Run}
use Rattle.command_line.specs.declared.request.Steps.{Steps}
use Rattle.command_line.specs.declared.request.Trace.{Trace}
use Rattle.command_line.specs.declared.request.CommandFault.{CommandFault}
use Rattle.command_line.specs.declared.request.CommandFault.TheVariants.{Said, Incomplete}

-- an argument that has to be there
abbrev pub needed : Text → Rule
needed id = record (new_rule id) { required = true }

-- an option with a value
abbrev pub optional : Text → Rule
optional id = record (new_rule id) { long = Some id; value_names = 1 }

-- an option with the number of an event, from 1
abbrev pub counted : Text → Rule
counted id = record (optional id) { parser = Some (Unsigned 1 18446744073709551615) }

-- an option that is there or not
abbrev pub flag : Text → Rule
flag id = record (new_rule id) { long = Some id; action = Some SetTrue }

-- `[--picture OUT] [--from EVENT] [--to EVENT]` as well
abbrev pub with_picture : App → App
with_picture app =
    with_rule (with_rule (with_rule app (optional (codes "picture"))) (counted (codes "from")))
    (counted (codes "to"))

-- `steps [--explain ACTION] [--store DIR] [--reopen] SETUP FILE`, and a picture
abbrev pub steps_app : App
steps_app = with_picture
    (with_rule (with_rule (with_rule (with_rule
    (with_rule (new_app (codes "steps")) (needed (codes "SETUP"))) (needed (codes "FILE")))
    (optional (codes "explain"))) (optional (codes "store"))) (flag (codes "reopen")))

-- `check SCRIPT`
abbrev pub check_app : App
check_app = with_rule (new_app (codes "check")) (needed (codes "SCRIPT"))

-- `run [--serial] [--store DIR] [--trace OUT] [--seconds N] SCRIPT`
abbrev pub run_app : App
run_app = with_rule
    (with_rule (with_rule (with_rule (with_rule (new_app (codes "run")) (needed (codes "SCRIPT")))
    (flag (codes "serial")))
    (optional (codes "store"))) (optional (codes "trace"))) (optional (codes "seconds"))

-- `trace [--explain ACTION] FILE`, and a picture
abbrev pub trace_app : App
trace_app = with_picture (with_rule (with_rule (new_app (codes "trace")) (needed (codes "FILE")))
    (optional (codes "explain")))

-- `argus`, which has a version, whose words come without its own name, and which shows help where there are none
abbrev pub bare_app : App
bare_app =
    on_top (λ s.
    record s { has_version = true; no_binary_name = true; arg_required_else_help = true; subcommand_required = true })
    (new_app (codes "argus"))

abbrev pub argus_app : App
argus_app = with_subcommand (with_subcommand (with_subcommand
    (with_subcommand bare_app steps_app.top) check_app.top) run_app.top) trace_app.top

-- the flag is set where its value is `true`
abbrev pub IsFlag : Text → List Row → Bool → Type 0
IsFlag id rows is_set = IsTrue is_set ↔ (one_of id rows ≡ Some (codes "true"))

-- the number is what the text under the id parses to, if there is one
pub record IsNumber (id : Text) (rows : List Row) (given : Option ℕ) : Type 0 where
  pub none : one_of id rows ≡ None → given ≡ None
  pub value : (text : Text) → one_of id rows ≡ Some text
      → ReadsOne (λ (bs : Text) (r : Result ℕ ParseIntError). ParsesUnsigned 64 10 bs r) text given

pub record IsPictureGiven (rows : List Row) (given : Picture) : Type 0 where
  pub file : first_of (codes "picture") rows ≡ option_map (λ word. word.now) given.file
  pub from : IsNumber (codes "from") rows given.from
  pub to : IsNumber (codes "to") rows given.to

-- what the command is given stands in the rows of the subcommand
pub record IsStepsGiven (rows : List Row) (given : Steps) : Type 0 where
  pub setup : first_of (codes "SETUP") rows ≡ Some given.setup.now
  pub file : first_of (codes "FILE") rows ≡ Some given.file.now
  pub explain : first_of (codes "explain") rows ≡ option_map (λ word. word.now) given.explain
  pub store : first_of (codes "store") rows ≡ option_map (λ word. word.now) given.store
  pub reopen : IsFlag (codes "reopen") rows given.reopen
  pub picture : IsPictureGiven rows given.picture

pub record IsCheckGiven (rows : List Row) (given : Check) : Type 0 where
  pub script : first_of (codes "SCRIPT") rows ≡ Some given.script.now

pub record IsRunGiven (rows : List Row) (given : Run) : Type 0 where
  pub script : first_of (codes "SCRIPT") rows ≡ Some given.script.now
  pub store : first_of (codes "store") rows ≡ option_map (λ word. word.now) given.store
  pub serial : IsFlag (codes "serial") rows given.serial
  pub trace : first_of (codes "trace") rows ≡ option_map (λ word. word.now) given.trace
  pub seconds : first_of (codes "seconds") rows ≡ option_map (λ word. word.now) given.seconds

pub record IsTraceGiven (rows : List Row) (given : Trace) : Type 0 where
  pub file : first_of (codes "FILE") rows ≡ Some given.file.now
  pub explain : first_of (codes "explain") rows ≡ option_map (λ word. word.now) given.explain
  pub picture : IsPictureGiven rows given.picture

-- the command is the subcommand that was found, with what it is given
abbrev pub IsFound : Option (Text × List Row) → Command → Type 0
IsFound found (command.Steps given) = (rows : List Row) × (found ≡ Some (codes "steps", rows))
    × IsStepsGiven rows given
IsFound found (command.Check given) = (rows : List Row) × (found ≡ Some (codes "check", rows))
    × IsCheckGiven rows given
IsFound found (command.Run given) = (rows : List Row) × (found ≡ Some (codes "run", rows))
    × IsRunGiven rows given
IsFound found (command.Trace given) = (rows : List Row) × (found ≡ Some (codes "trace", rows))
    × IsTraceGiven rows given

-- the words are this command
abbrev pub IsCommand : List Text → Command → Type 0
IsCommand words command = IsFound (subcommand_of argus_app words) command

-- the words are no command: clap says so, or they lack a part
abbrev pub IsFault : List Text → CommandFault → Type 0
IsFault words (Said error) = HasKind (fault_of argus_app words) error
IsFault words Incomplete = (command : Command) → IsCommand words command → ⊥
