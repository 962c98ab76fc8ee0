-- What clap's answers say of the words.
use Rattle.std.proofs.Common.{◌≡◌, ℕ, List, true, Option, Some, None, option_map, codes, refl, sym, ap, ap₂, subst, ◌∙◌}
use Rattle.std.specs.Prelude.{◌↔◌, Box, Bool, Result, Ok, Err, IfErr, IsErrAnd, false, unwrap_or}
use Rattle.std.specs.Str.Parse.{ExplainsUnsignedError, HasUnsignedDigitsIfOk, ParsesBool, ParsesUnsigned, true_text}
use Rattle.std.specs.declared.num.ParseIntError.{ParseIntError}
use Rattle.std.specs.Box.{box_value}
use Rattle.clap.specs.Words.{App, Row, Text, HasMatchesOf, first_of, found_of, is_simple, is_simple_and_free, rows_of, subcommand_of, subcommand_rows, subcommand_rows_of}
use Rattle.clap.specs.declared.error.Error.{Error}
use Rattle.clap.specs.declared.parser.matches.ArgMatches.{ArgMatches}
use Rattle.clap.specs.declared.parser.matches.ArgMatches.TheViews.{out-ArgMatches, out-SubCommand}
use Rattle.clap.specs.declared.parser.matches.SubCommand.{SubCommand}
use Rattle.std.specs.Borrow.{Bor}
use Rattle.clap.specs.Words.{HasKind, ReadsOne, fault_of, first_value, one_text, subcommand_name_of}
use Rattle.clap.specs.declared.parser.matches.Found.{Found}
use Rattle.clap.proofs.WalkLemmas.{first_value-rows, one_text-rows}
use Rattle.clap.proofs.OnLiterals.{clap_on_literals}
use Rattle.command_line.specs.declared.request.Command.{Command}
use Rattle.command_line.specs.declared.request.Check.{Check}
use Rattle.command_line.specs.declared.request.CommandFault.{CommandFault}
use Rattle.command_line.specs.declared.request.CommandFault.TheVariants.{Said}
use Rattle.command_line.specs.declared.request.Run.{Run}
use Rattle.command_line.specs.declared.request.Steps.{Steps}
use Rattle.command_line.specs.declared.request.Trace.{Trace}
use Rattle.command_line.specs.Words.{argus_app, IsCheckGiven, IsCommand, IsFault, IsFlag, IsFound, IsNumber, IsRunGiven, IsStepsGiven, IsTraceGiven}

pub argus_is_simple : is_simple argus_app ≡ true
unfolding clap_on_literals
argus_is_simple = refl

pub argus_is_free : is_simple_and_free argus_app ≡ true
unfolding clap_on_literals
argus_is_free = refl

-- what was found is what clap's definition finds
pub found_is : (app : App) (words : List Text) (m : ArgMatches) → app ≡ argus_app → HasMatchesOf app words m → subcommand_rows_of m ≡ subcommand_of argus_app words
found_is app words m e h = (h (ap is_simple e ∙ argus_is_simple)).1 ∙ ap (λ (a : App). subcommand_of a words) e

pub command_is : (app : App) (words : List Text) (m : ArgMatches) (command : Command) → app ≡ argus_app → HasMatchesOf app words m → IsFound (subcommand_rows_of m) command → IsCommand words command
command_is app words m command e h found = subst (λ o. IsFound o command) (found_is app words m e h) found

pub no_command : (app : App) (words : List Text) (m : ArgMatches) → app ≡ argus_app → HasMatchesOf app words m
    → ((command : Command) → IsFound (subcommand_rows_of m) command → ⊥) → (command : Command) → IsCommand words command → ⊥
no_command app words m e h none command is = none command (subst (λ o. IsFound o command) (sym (found_is app words m e h)) is)

-- the error that clap refuses the words with has a kind of its own definition
pub refused_is : {T : Type 0} (app : App) (words : List Text) (error : Error) (r : Result T CommandFault) → app ≡ argus_app
    → (is_simple_and_free app ≡ true → HasKind (fault_of app words) error) → IsErrAnd r (λ fault. fault ≡ Said error) → IfErr r (IsFault words)
refused_is app words error (Ok x) e kinds is = tt
refused_is app words error (Err fault) e kinds is =
    subst (IsFault words) (sym is) (subst (λ (a : App). HasKind (fault_of a words) error) e (kinds (ap is_simple_and_free e ∙ argus_is_free)))

-- what stands at an id
pub word_is : (f : Found) (id : Text) (r : Option (Bor Text)) (word : Bor Text) → option_map (λ t. t.now) r ≡ first_value f id → r ≡ Some word → first_of id (rows_of f) ≡ Some word.now
word_is f id r word e is = sym (first_value-rows f id) ∙ sym e ∙ ap (option_map (λ t. t.now)) is

pub no_word : (f : Found) (id : Text) (r : Option (Bor Text)) → option_map (λ t. t.now) r ≡ first_value f id → r ≡ None → first_of id (rows_of f) ≡ None
no_word f id r e is = sym (first_value-rows f id) ∙ sym e ∙ ap (option_map (λ t. t.now)) is

pub no_setup : (rows : List Row) → first_of (codes "SETUP") rows ≡ None → (given : Steps) → IsStepsGiven rows given → ⊥
no_setup rows e given h = let p = h.setup in absurd cc

pub no_file : (rows : List Row) → first_of (codes "FILE") rows ≡ None → (given : Steps) → IsStepsGiven rows given → ⊥
no_file rows e given h = let p = h.file in absurd cc

pub no_script_to_check : (rows : List Row) → first_of (codes "SCRIPT") rows ≡ None → (given : Check) → IsCheckGiven rows given → ⊥
no_script_to_check rows e given h = let p = h.script in absurd cc

pub no_script_to_run : (rows : List Row) → first_of (codes "SCRIPT") rows ≡ None → (given : Run) → IsRunGiven rows given → ⊥
no_script_to_run rows e given h = let p = h.script in absurd cc

pub no_trace : (rows : List Row) → first_of (codes "FILE") rows ≡ None → (given : Trace) → IsTraceGiven rows given → ⊥
no_trace rows e given h = let p = h.file in absurd cc

-- what `get_one` gives of a text where it reads a `bool`
abbrev ReadsBool : Type 0 → Text → Option Bool → Type 0
ReadsBool E = ReadsOne (λ (bs : Text) (r : Result Bool E). ParsesBool bs r)

value_is : (E : Type 0) (text : Text) (r : Option Bool) → ReadsBool E text r → (unwrap_or r false ≡ true) ↔ (text ≡ true_text)
value_is E text (Some true) is = ((λ _. is), (λ _. refl))
value_is E text (Some false) is = ((λ e. absurd cc), (λ e. absurd cc))
value_is E text None none = ((λ e. absurd cc), (λ e. absurd (none.1.0 e)))

-- a flag is set where its value, read as a `bool`, is true
pub flag_is : (E : Type 0) (f : Found) (id : Text) (r : Option Bool) → (one_text f id ≡ None → r ≡ None)
    → ((text : Text) → one_text f id ≡ Some text → ReadsBool E text r) → IsFlag id (rows_of f) (unwrap_or r false)
flag_is E f id r none some = subst (λ o. (unwrap_or r false ≡ true) ↔ (o ≡ Some (codes "true"))) (one_text-rows f id) (go (one_text f id) none some)
  where
    go : (o : Option Text) → (o ≡ None → r ≡ None) → ((text : Text) → o ≡ Some text → ReadsBool E text r) → (unwrap_or r false ≡ true) ↔ (o ≡ Some (codes "true"))
    go None none some = ((λ e. let p = none refl in absurd cc), (λ e. absurd cc))
    go (Some text) none some =
        let is = value_is E text r (some text refl) in
        ((λ e. ap Some (is.0 e)), (λ e. is.1 cc))

-- the subcommand that was used, with its rows
found_in : {Z : Type 0} (b : Option (Box SubCommand Z)) (name : Text) (rows : List Row) → Some name ≡ option_map (λ x. (out-SubCommand (box_value x)).name.now) b
    → Some rows ≡ option_map (λ p. p.1) (subcommand_rows b) → subcommand_rows b ≡ Some (name, rows)
found_in None name rows e f = absurd cc
found_in (Some b) name rows e f =
    let n : name ≡ (out-SubCommand (box_value b)).name.now = cc in
    let r : rows ≡ rows_of (found_of (out-SubCommand (box_value b)).matches) = cc in
    ap₂ (λ (x : Text) (y : List Row). Some (x, y)) (sym n) (sym r)

pub sub_is : (m : ArgMatches) (r : Option (Bor Text × Bor ArgMatches)) (name : Bor Text) (found : Bor ArgMatches)
    → option_map (λ p. p.0.now) r ≡ subcommand_name_of m → option_map (λ p. rows_of (found_of p.1.now)) r ≡ option_map (λ p. p.1) (subcommand_rows_of m) → r ≡ Some (name, found)
    → subcommand_rows_of m ≡ Some (name.now, rows_of (found_of found.now))
sub_is m r name found e f is =
    found_in (out-ArgMatches m).subcommand name.now (rows_of (found_of found.now)) (sym (ap (option_map (λ p. p.0.now)) is) ∙ e) (sym (ap (option_map (λ p. rows_of (found_of p.1.now))) is) ∙ f)

-- what `get_one` gives of a text where it reads a `u64`
abbrev ReadsNumber : Text → Option ℕ → Type 0
ReadsNumber = ReadsOne (λ (bs : Text) (r : Result ℕ ParseIntError). ParsesUnsigned 64 10 bs r × ExplainsUnsignedError 10 bs r × HasUnsignedDigitsIfOk bs r)

number_read : (text : Text) (r : Option ℕ) → ReadsNumber text r → ReadsOne (λ (bs : Text) (r : Result ℕ ParseIntError). ParsesUnsigned 64 10 bs r) text r
number_read text (Some n) is = is.0
number_read text None is = (is.0, is.1.0)

-- the number is what the text under the id parses to
pub number_is : (f : Found) (id : Text) (r : Option ℕ) → (one_text f id ≡ None → r ≡ None)
    → ((text : Text) → one_text f id ≡ Some text → ReadsNumber text r) → IsNumber id (rows_of f) r
number_is f id r none some = record {
  none = λ e. none (one_text-rows f id ∙ e);
  value = λ text e. number_read text r (some text (one_text-rows f id ∙ e));
}
