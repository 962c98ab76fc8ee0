-- No text of a step or an answer has a line feed.
use Rattle.std.proofs.Common.{◌≡◌, ◌≢◌, ℕ, ℤ, suc, ◌/◌, ◌%◌, Bool, true, false, not, cond, List, [], ◌∷◌, ◌++◌, refl, sym, subst, arith, decimal, codes, pos, negsuc}
use Rattle.std.specs.Prelude.{◌==◌, nat_lt, flat_map}
use Rattle.std.specs.List.{AllByRecursion, list_all}
use Rattle.std.specs.Fmt.{signed_decimal}
use Rattle.std.specs.Char.{digit_char}
use Rattle.std.proofs.lemmas.Bool.{and_parts, eqb-true, eqb-false}
use Rattle.std.proofs.lemmas.Bool.Decides.{nat_tests}
use Rattle.json.specs.Print.{escape_byte, escape_letter}
use Rattle.action_names.specs.Names.{Name, IsName, IsComponent, name_text}
use Rattle.values.specs.declared.value.Value.{Value}
use Rattle.values.specs.declared.value.Value.TheVariants.{Int, Text}
use Rattle.values.specs.Values.{IsValue, value_text}
use Rattle.values.specs.Words.{IsIdentifier, is_letter, is_word_character}
use Rattle.atomic_types.specs.Operations as op
use Rattle.atomic_types.specs.declared.operation.OpName.{OpName}
use Rattle.atomic_types.specs.declared.operation.OpName.TheVariants as verb
use Rattle.atomic_types.specs.declared.operation.Arguments.{Arguments}
use Rattle.atomic_types.specs.declared.operation.Arguments.TheVariants as with
use Rattle.atomic_types.specs.Operations.{AreArguments, IsOp, arguments_of, name_of, word_of}
use Rattle.run_model.specs.declared.step.ArmKind.{ArmKind}
use Rattle.run_model.specs.declared.step.ArmKind.TheVariants as arm
use Rattle.run_model.specs.declared.step.ObjectId.{ObjectId}
use Rattle.run_model.specs.declared.step.Step.{Step}
use Rattle.run_model.specs.declared.step.Step.TheVariants.{Top, NestedTop, Call, Arms, Op, Commit, Close, Prepare, Decide, Abort, Tell, Crash, Recover}
use Rattle.run_model.specs.declared.answer.Answer.{Answer}
use Rattle.run_model.specs.declared.answer.Answer.TheVariants.{Began, Granted, Waits, VoteYes, VoteNo, Done, Refused}
use Rattle.run_model.specs.declared.answer.Refusal.{Refusal}
use Rattle.run_model.specs.declared.history.Event.{Event}
use Rattle.atomic_types.specs.declared.op.Reply.{Reply}
use Rattle.atomic_types.specs.declared.op.Reply.TheVariants.{Gives, Truth, Signals}
use Rattle.atomic_types.specs.declared.op.Reply.TheVariants as replies
use Rattle.atomic_types.specs.declared.op.Signal.{Signal}
use Rattle.atomic_types.specs.declared.op.Signal.TheVariants.{Bounds}
use Rattle.run_model.specs.Texts.{called_text, object_text, op_text, kinds_text, step_text, HasStepParts, IsAnswer, IsReply, answer_text, names_text, refusal_number, reply_text, signal_text}
use Rattle.run_model.proofs.OneAnswer.{refusal_small}
use Rattle.traces.specs.Traces.{IsEvent, arrow, event_text}
use Rattle.run_model.specs.Reading.{Lacks, IsIndex, IsObject}
use Rattle.run_model.specs.Spaces.{Lacks-nil, Lacks-cons, Lacks-append, Lacks-decimal, Lacks-component}

-- a word that is written out
pub word : (bytes : List ℕ) → list_all (λ b. not (b == 10)) bytes ≡ true → Lacks 10 bytes
word [] h = Lacks-nil 10
word (b ∷ bytes) h =
    let p = and_parts _ _ h in
    let first : not (b == 10) ≡ true = p.0 in
    Lacks-cons 10 b bytes (grind (arith, nat_tests)) (word bytes p.1)

-- a word, and what follows it
pub after : (bytes rest : List ℕ) → list_all (λ b. not (b == 10)) bytes ≡ true → Lacks 10 rest → Lacks 10 (bytes ++ rest)
after bytes rest h lacks = Lacks-append 10 bytes rest (word bytes h) lacks

component : (n : ℕ) → IsComponent n → Lacks 10 (decimal n)
component n fits = Lacks-component 10 n (λ r. omega arith) fits

-- two texts with a space or another byte between them
pub both : (c : ℕ) (a b : List ℕ) → c ≢ 10 → Lacks 10 a → Lacks 10 b → Lacks 10 (a ++ c ∷ b)
both c a b other first second = Lacks-append 10 a (c ∷ b) first (Lacks-cons 10 c b other second)

object : (x : ObjectId) → IsObject x → Lacks 10 (object_text x)
object x fits = both 47 (decimal x.guardian) (decimal x.number) (λ e. omega arith) (component x.guardian fits.0) (component x.number fits.1)

components : (a : Name) → AllByRecursion IsComponent a → Lacks 10 (name_text a)
components [] fits = Lacks-nil 10
components (n ∷ []) fits = component n fits.0
components (n ∷ m ∷ a) fits = both 46 (decimal n) (name_text (m ∷ a)) (λ e. omega arith) (component n fits.0) (components (m ∷ a) fits.1)

name : (a : Name) → IsName a → Lacks 10 (name_text a)
name a fits = components a fits.components

index : (z : _) → IsIndex z → Lacks 10 (signed_decimal z)
index (pos n) fits = Lacks-decimal 10 n (λ r. omega arith) (omega arith)
index (negsuc n) fits = Lacks-cons 10 45 (decimal (suc n)) (λ e. omega arith) (Lacks-decimal 10 (suc n) (λ r. omega arith) (omega arith))

character : (c : ℕ) → is_word_character c ≡ true → c ≢ 10
character c h e = grind (arith, nat_tests)

characters : (cs : List ℕ) → list_all (λ d. is_word_character d) cs ≡ true → Lacks 10 cs
characters [] h = Lacks-nil 10
characters (c ∷ cs) h = let p = and_parts _ _ h in Lacks-cons 10 c cs (character c p.0) (characters cs p.1)

letter : (c : ℕ) → is_letter c ≡ true → c ≢ 10
letter c h e = grind (arith, nat_tests)

identifier : (bytes : List ℕ) → IsIdentifier bytes → Lacks 10 bytes
identifier [] h = Lacks-nil 10
identifier (c ∷ cs) h =
    let p = and_parts _ _ h in
    let q = and_parts _ _ p.1 in
    Lacks-cons 10 c cs (letter c p.0) (characters cs q.0)

-- a letter of an escape
escape_letter_other : (x : ℕ) → x ≢ 10 → escape_letter x ≢ 10
escape_letter_other x other e = grind (arith, nat_tests)

digit_other : (d : ℕ) → digit_char d ≢ 10
digit_other d e = grind (arith, nat_tests)

escaped : (x : ℕ) → Lacks 10 (escape_byte x)
unfolding escape_byte
escaped x = go (x == 10) refl
  where
    short : (b : Bool) → x ≢ 10 → Lacks 10 (cond b (92 ∷ escape_letter x ∷ []) (cond (nat_lt x 32) (92 ∷ 117 ∷ 48 ∷ 48 ∷ digit_char (x / 16) ∷ digit_char (x % 16) ∷ []) (x ∷ [])))
    short true other = Lacks-cons 10 92 (escape_letter x ∷ []) (λ e. omega arith) (Lacks-cons 10 (escape_letter x) [] (escape_letter_other x other) (Lacks-nil 10))
    short false other = long (nat_lt x 32)
      where
        long : (b : Bool) → Lacks 10 (cond b (92 ∷ 117 ∷ 48 ∷ 48 ∷ digit_char (x / 16) ∷ digit_char (x % 16) ∷ []) (x ∷ []))
        long true =
            after (92 ∷ 117 ∷ 48 ∷ 48 ∷ []) (digit_char (x / 16) ∷ digit_char (x % 16) ∷ []) refl
            (Lacks-cons 10 (digit_char (x / 16)) (digit_char (x % 16) ∷ []) (digit_other (x / 16)) (Lacks-cons 10 (digit_char (x % 16)) [] (digit_other (x % 16)) (Lacks-nil 10)))
        long false = Lacks-cons 10 x [] other (Lacks-nil 10)

    go : (b : Bool) → (x == 10) ≡ b → Lacks 10 (escape_byte x)
    go true e = subst (λ y. Lacks 10 (escape_byte y)) (sym (eqb-true x 10 e)) (word (92 ∷ 110 ∷ []) refl)
    go false e = short (nat_lt 0 (escape_letter x)) (eqb-false x 10 e)

pub escapes : (bytes : List ℕ) → Lacks 10 (flat_map escape_byte bytes)
escapes [] = Lacks-nil 10
escapes (x ∷ bytes) = Lacks-append 10 (escape_byte x) (flat_map escape_byte bytes) (escaped x) (escapes bytes)

value : (v : Value) → IsValue v → Lacks 10 (value_text v)
value (Int (pos n)) fits = Lacks-decimal 10 n (λ r. omega arith) (omega arith)
value (Int (negsuc n)) fits = index (negsuc n) fits
value (Text bytes) fits = Lacks-cons 10 34 _ (λ e. omega arith) (both 34 (flat_map escape_byte bytes) [] (λ e. omega arith) (escapes bytes) (Lacks-nil 10))

op_name_lacks : (n : OpName) → list_all (λ b. not (b == 10)) (word_of n) ≡ true
op_name_lacks verb.Get = refl
op_name_lacks _ = refl

spaced : (n : OpName) (rest : List ℕ) → Lacks 10 rest → Lacks 10 (word_of n ++ 32 ∷ rest)
spaced n rest lacks = both 32 (word_of n) rest (λ e. omega arith) (word (word_of n) (op_name_lacks n)) lacks

called : (n : OpName) (a : Arguments (List ℕ) ℤ Value) → AreArguments a → Lacks 10 (called_text (word_of n) a)
called n with.Nothing fits = word (word_of n) (op_name_lacks n)
called n (with.Word w) fits = spaced n w (identifier w fits)
called n (with.WordValue w v) fits = spaced n _ (both 32 w (value_text v) (λ e. omega arith) (identifier w fits.0) (value v fits.1))
called n (with.Index i) fits = spaced n (signed_decimal i) (index i fits)
called n (with.IndexValue i v) fits = spaced n _ (both 32 (signed_decimal i) (value_text v) (λ e. omega arith) (index i fits.0) (value v fits.1))
called n (with.Value v) fits = spaced n (value_text v) (value v fits)

operation : (o : op.Op) → IsOp o → Lacks 10 (op_text o)
operation o fits = called (name_of o) (arguments_of o) fits

kinds : (ks : List ArmKind) → Lacks 10 (kinds_text ks)
kinds [] = Lacks-nil 10
kinds (arm.Sub ∷ ks) = after (codes " s") _ refl (kinds ks)
kinds (arm.Top ∷ ks) = after (codes " t") _ refl (kinds ks)

pub step_lacks_line_feed : (s : Step) → HasStepParts s → Lacks 10 (step_text s)
step_lacks_line_feed (Top g) fits = after (codes "top ") _ refl (component g fits)
step_lacks_line_feed (NestedTop a) fits = after (codes "nest ") _ refl (name a fits)
step_lacks_line_feed (Call a g) fits = both 32 (codes "call " ++ name_text a) (decimal g) (λ e. omega arith) (after (codes "call ") _ refl (name a fits.0)) (component g fits.1)
step_lacks_line_feed (Arms a ks) fits = Lacks-append 10 (codes "arms " ++ name_text a) (kinds_text ks) (after (codes "arms ") _ refl (name a fits)) (kinds ks)
step_lacks_line_feed (Op a x wanted) fits =
    both 32 (codes "op " ++ name_text a ++ 32 ∷ object_text x) (op_text wanted) (λ e. omega arith)
    (both 32 (codes "op " ++ name_text a) (object_text x) (λ e. omega arith) (after (codes "op ") _ refl (name a fits.0)) (object x (fits.1, fits.2)))
    (operation wanted fits.3)
step_lacks_line_feed (Commit a) fits = after (codes "commit ") _ refl (name a fits)
step_lacks_line_feed (Close t) fits = after (codes "close ") _ refl (name t fits)
step_lacks_line_feed (Prepare g t) fits = both 32 (codes "prepare " ++ decimal g) (name_text t) (λ e. omega arith) (after (codes "prepare ") _ refl (component g fits.0)) (name t fits.1)
step_lacks_line_feed (Decide t) fits = after (codes "decide ") _ refl (name t fits)
step_lacks_line_feed (Abort a) fits = after (codes "abort ") _ refl (name a fits)
step_lacks_line_feed (Tell g a) fits = both 32 (codes "tell " ++ decimal g) (name_text a) (λ e. omega arith) (after (codes "tell ") _ refl (component g fits.0)) (name a fits.1)
step_lacks_line_feed (Crash g) fits = after (codes "crash ") _ refl (component g fits)
step_lacks_line_feed (Recover g) fits = after (codes "recover ") _ refl (component g fits)

-- ---- answers

names : (bs : List Name) → AllByRecursion IsName bs → Lacks 10 (names_text bs)
names [] fits = Lacks-nil 10
names (b ∷ bs) fits = Lacks-cons 10 32 _ (λ e. omega arith) (Lacks-append 10 (name_text b) (names_text bs) (name b fits.0) (names bs fits.1))

signal : (s : Signal) → list_all (λ b. not (b == 10)) (signal_text s) ≡ true
signal Bounds = refl
signal _ = refl

reply : (r : Reply) → IsReply r → Lacks 10 (reply_text r)
reply (Gives v) fits = value v fits
reply (Truth true) fits = word (codes "true") refl
reply (Truth false) fits = word (codes "false") refl
reply replies.Done fits = word (codes "done") refl
reply (Signals s) fits = after (codes "signals ") (signal_text s) refl (word (signal_text s) (signal s))

small_refusal : (why : Refusal) → Lacks 10 (decimal (refusal_number why))
small_refusal why = Lacks-decimal 10 (refusal_number why) (λ r. omega arith) (omega (arith, refusal_small why))

pub answer_lacks_line_feed : (a : Answer) → IsAnswer a → Lacks 10 (answer_text a)
answer_lacks_line_feed (Began bs) fits = after (codes "began") (names_text bs) refl (names bs fits.1)
answer_lacks_line_feed (Granted r) fits = after (codes "granted ") (reply_text r) refl (reply r fits)
answer_lacks_line_feed (Waits bs) fits = after (codes "waits") (names_text bs) refl (names bs fits.1)
answer_lacks_line_feed VoteYes fits = word (codes "vote yes") refl
answer_lacks_line_feed VoteNo fits = word (codes "vote no") refl
answer_lacks_line_feed (Done n) fits = after (codes "done ") (decimal n) refl (Lacks-decimal 10 n (λ r. omega arith) fits)
answer_lacks_line_feed (Refused why) fits = after (codes "refused ") (decimal (refusal_number why)) refl (small_refusal why)

pub event_lacks_line_feed : (e : Event) → IsEvent e → Lacks 10 (event_text e)
event_lacks_line_feed e fits =
    Lacks-append 10 (step_text e.step) (arrow ++ answer_text e.answer) (step_lacks_line_feed e.step fits.step.parts)
    (after arrow (answer_text e.answer) refl (answer_lacks_line_feed e.answer fits.answer))
