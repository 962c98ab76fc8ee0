-- Reading a line of a trace: its parts up to each space, and its event at an arrow.
use Rattle.std.proofs.Common.{◌≡◌, ◌≢◌, ℕ, zero, suc, ◌+◌, ◌-◌, ◌<◌, ◌≤◌, Bool, true, false, eqb, List, [], ◌∷◌, ◌++◌, length, take, drop, get_or, Option, Some, None, nat_le, codes, if◌then◌else◌, eq-eqb, refl, sym, ap, ◌∙◌, append-nil, length-append, arith, ◌⊎◌, inl, inr, decimal}
use Rattle.std.specs.Bool.{MatchBool, then_some}
use Rattle.std.specs.Prelude.{IsUtf8}
use Rattle.std.proofs.lemmas.Bool.{cases_eq, eqb-true, false≢true, true≢false}
use Rattle.std.proofs.lemmas.Bool.Decides.{nat_tests}
use Rattle.std.proofs.lemmas.Fmt.{decimal_digit, decimal_nonempty, digits_decimal, first_decimal}
use Rattle.std.proofs.lemmas.List.{append_cancel_left, take-append-drop}
use Rattle.std.proofs.lemmas.Str.Parse.{digit_at}
use Rattle.std.proofs.Math.Seq.{drop-append_seam, take-append_seam}
use Rattle.memchr.specs.Find.{IsFirstByte, is_byte}
use Rattle.action_names.specs.Fronts.{BeginsWithNumber, EndsNumber}
use Rattle.action_names.specs.Names.{IsComponent}
use Rattle.action_names.proofs.Fronts.{same_numbers}
use Rattle.run_model.specs.declared.answer.Answer.{Answer}
use Rattle.run_model.specs.declared.history.Event.{Event}
use Rattle.run_model.specs.Reading.{Cuts, Lacks, Reads}
use Rattle.run_model.specs.Runs.{is_accepted}
use Rattle.run_model.specs.Spaces.{Lacks-decimal, numerals}
use Rattle.run_model.specs.Texts.{IsCount, SpellsAnswer, answer_text, step_text}
use Rattle.run_model.proofs.Cutting.{cut_at, from_place, no_cut}
use Rattle.run_model.proofs.OneAnswer.{one_answer}
use Rattle.run_model.proofs.Utf8.{number_is}
use Rattle.traces.specs.declared.line.Line.{Line}
use Rattle.traces.specs.Traces.{IsEvent, IsLine, IsOwner, IsStamp, arrow, event_text, line_text, owner_text}
use Rattle.traces.specs.Reading.{AreParts, IsAccepted, IsGuardian}
use Rattle.traces.proofs.OneLine.{owner_lacks}

-- ---- cutting

pub found_at : (mark : ℕ) (text : List ℕ) (at : ℕ) → IsFirstByte (is_byte mark) text (Some at) → Cuts mark text (take at text) (take (length text - (at + 1)) (drop (at + 1) text))
found_at mark text at first =
    cut_at mark text _ _ at (λ k lt e. first.0.before k (omega arith) lt (eq-eqb (get_or text k 0) mark e)) first.0.high (eqb-true (get_or text at 0) mark first.1) refl
    (from_place text (at + 1))

pub found_nowhere : (mark : ℕ) (text : List ℕ) → IsFirstByte (is_byte mark) text None → (a b : List ℕ) → Lacks mark a → text ≢ a ++ mark ∷ b
found_nowhere mark text nowhere a b lacks e = no_cut mark a b text (λ k lt is. nowhere k (omega arith) lt (eq-eqb (get_or text k 0) mark is)) e

-- ---- whose line it is

-- nothing follows a number that is the whole text
ends_number : EndsNumber []
ends_number low high = omega arith

component_of : (n : ℕ) → IsGuardian n → IsComponent n
component_of n fits = (fits.0, omega (arith, fits.1))

pub no_guardian : (text : List ℕ) → ((n : ℕ) (rest : List ℕ) → BeginsWithNumber text n rest → ⊥) → Reads IsGuardian decimal text None
no_guardian text none = λ n fits e. none n [] (record { fits = component_of n fits; parts = e ∙ sym (append-nil (decimal n)); ended = ends_number })

-- the number that the text begins with is the only one that it may be
only_number : (text rest : List ℕ) (m n : ℕ) → BeginsWithNumber text n rest → IsGuardian m → text ≡ decimal m → (m ≡ n) × ([] ≡ rest)
only_number text rest m n begins fits e = same_numbers m n [] rest (component_of m fits) begins.fits ends_number begins.ended (append-nil (decimal m) ∙ sym e ∙ begins.parts)

pub longer_than_guardian : (text rest : List ℕ) (n : ℕ) → BeginsWithNumber text n rest → eqb (length rest) 0 ≡ false → Reads IsGuardian decimal text None
longer_than_guardian text rest n begins some = λ m fits e.
    true≢false (sym (eq-eqb (length rest) 0 (ap length (sym (only_number text rest m n begins fits e).1))) ∙ some)

pub le_cases : (n m : ℕ) (b : Bool) → nat_le n m ≡ b → MatchBool b (n ≤ m) (m < n)
le_cases n m true e = grind (arith, nat_tests)
le_cases n m false e = grind (arith, nat_tests)

pub guardian_found : (text rest : List ℕ) (n : ℕ) (small : Bool) → BeginsWithNumber text n rest → eqb (length rest) 0 ≡ true → MatchBool small (n ≤ 1024) (1024 < n)
    → Reads IsGuardian decimal text (then_some small n)
guardian_found text rest n true begins none le = ((begins.fits.0, le), begins.parts ∙ ap (λ (t : List ℕ). decimal n ++ t) (empty rest (eqb-true (length rest) 0 none)) ∙ append-nil (decimal n))
  where
    empty : (xs : List ℕ) → length xs ≡ 0 → xs ≡ []
    empty [] h = refl
    empty (x ∷ xs) h = absurd (omega arith)
guardian_found text rest n false begins none le = λ m fits e. omega (arith, le, fits.1, (only_number text rest m n begins fits e).0)

pub registry_found : (text : List ℕ) → text ≡ codes "r" → Reads IsOwner owner_text text (Some 0)
registry_found text e = (omega arith, e)

pub owner_found : (text : List ℕ) (o : Option ℕ) → text ≢ codes "r" → Reads IsGuardian decimal text o → Reads IsOwner owner_text text o
owner_found text None other h = none
  where
    none : (m : ℕ) → IsOwner m → text ≢ owner_text m
    none zero fits e = other e
    none (suc m) fits e = h (suc m) (omega arith, fits) e
owner_found text (Some zero) other h = absurd (omega (arith, h.0.0))
owner_found text (Some (suc m)) other h = (h.0.1, h.1)

-- ---- its stamp

pub stamp_found : (text : List ℕ) (o : Option ℕ) → 49 ≤ get_or text 0 0 → Reads IsCount decimal text o → Reads IsStamp decimal text o
stamp_found text None low h = λ n fits e. h n fits.1 e
stamp_found text (Some zero) low h = absurd (omega (arith, low, ap (λ t. get_or t 0 0) (h.1 ∙ decimal_digit 0 (omega arith))))
stamp_found text (Some (suc n)) low h = ((omega arith, h.0), h.1)

-- a stamp begins with a digit from 1 to 9
pub no_stamp : (text : List ℕ) → (49 ≤ get_or text 0 0 → get_or text 0 0 ≤ 57 → ⊥) → Reads IsStamp decimal text None
no_stamp text other = λ n fits e.
    let d = digit_at (decimal n) 0 (digits_decimal numerals n fits.1) (decimal_nonempty n fits.1) in
    let first = ap (λ t. get_or t 0 0) e in
    other (omega (arith, first, first_decimal n (omega (arith, fits.0)) fits.1)) (omega (arith, first, d.1))

pub no_empty_stamp : (text : List ℕ) → length text < 1 → Reads IsStamp decimal text None
no_empty_stamp text short = λ n fits e. omega (arith, ap length e, decimal_nonempty n fits.1)

pub stamp_is_utf8 : (n : ℕ) → IsStamp n → IsUtf8 (decimal n)
stamp_is_utf8 n fits = number_is n fits.1

-- ---- its event

pub accepted_answer : (text : List ℕ) (answer : Answer) (b : Bool) → SpellsAnswer text answer → b ≡ is_accepted answer
    → Reads IsAccepted answer_text text (if b then Some answer else None)
accepted_answer text answer true spells is = ((spells.fits, sym is), spells.text)
accepted_answer text answer false spells is = λ other fits e.
    let same = one_answer text answer other spells (record { fits = fits.0; text = e }) in
    false≢true (is ∙ ap is_accepted same ∙ fits.1)

-- where the arrow of an event stands
pub arrow_at : (text : List ℕ) (e : Event) (at : ℕ) → text ≡ event_text e → length (step_text e.step) ≡ at
    → (take at text ≡ step_text e.step) × (drop at text ≡ arrow ++ answer_text e.answer)
arrow_at text e at is long = (
  ap (take at) is ∙ ap (λ n. take n (event_text e)) (sym long) ∙ take-append_seam (step_text e.step) (arrow ++ answer_text e.answer),
  ap (drop at) is ∙ ap (λ n. drop n (event_text e)) (sym long) ∙ drop-append_seam (step_text e.step) (arrow ++ answer_text e.answer),
)

-- no event has its arrow before this place
abbrev pub NoArrowBefore : List ℕ → ℕ → Type 0
NoArrowBefore text at = (e : Event) → IsEvent e → text ≡ event_text e → at ≤ length (step_text e.step)

-- nor at this place
pub no_arrow : (text : List ℕ) (at : ℕ) → NoArrowBefore text at → ((rest : List ℕ) → drop at text ≢ arrow ++ rest) → NoArrowBefore text (at + 1)
no_arrow text at before none e fits is = later (cases_eq (length (step_text e.step)) at)
  where
    later : (length (step_text e.step) ≡ at) ⊎ (length (step_text e.step) ≡ at → ⊥) → at + 1 ≤ length (step_text e.step)
    later (inl long) = absurd (none (answer_text e.answer) (arrow_at text e at is long).1)
    later (inr other) = omega (arith, before e fits is)

pub no_parts : (text answer : List ℕ) (at : ℕ) → NoArrowBefore text at → drop at text ≡ arrow ++ answer → ((e : Event) → AreParts (take at text) answer e → ⊥) → NoArrowBefore text (at + 1)
no_parts text answer at before is none e fits same = later (cases_eq (length (step_text e.step)) at)
  where
    later : (length (step_text e.step) ≡ at) ⊎ (length (step_text e.step) ≡ at → ⊥) → at + 1 ≤ length (step_text e.step)
    later (inl long) =
        let parts = arrow_at text e at same long in
        absurd (none e (fits, parts.0, append_cancel_left arrow answer (answer_text e.answer) (sym is ∙ parts.1)))
    later (inr other) = omega (arith, before e fits same)

pub no_event : (text : List ℕ) (at : ℕ) → NoArrowBefore text at → length text ≤ at → Reads IsEvent event_text text None
no_event text at before past = λ e fits is.
    omega (arith, before e fits is, ap length is, length-append (step_text e.step) (arrow ++ answer_text e.answer))

pub event_found : (text answer : List ℕ) (at : ℕ) (e : Event) → drop at text ≡ arrow ++ answer → AreParts (take at text) answer e → Reads IsEvent event_text text (Some e)
event_found text answer at e is parts = (
  parts.0,
  sym (take-append-drop at text) ∙ ap (λ (t : List ℕ). take at text ++ t) is ∙ ap (λ (t : List ℕ). t ++ (arrow ++ answer)) parts.1
      ∙ ap (λ (t : List ℕ). step_text e.step ++ (arrow ++ t)) parts.2,
)

-- ---- a line

pub no_owner_cut : (text : List ℕ) → ((a b : List ℕ) → Lacks 32 a → text ≢ a ++ 32 ∷ b) → Reads IsLine line_text text None
no_owner_cut text none = λ l fits e. none (owner_text l.owner) _ (owner_lacks 32 l.owner (inl refl) fits.owner) e

cut_of : (text front rest : List ℕ) (l : Line) → Cuts 32 text front rest → IsLine l → text ≡ line_text l
    → (front ≡ owner_text l.owner) × (rest ≡ decimal l.stamped.0 ++ 32 ∷ event_text l.stamped.1)
cut_of text front rest l cut fits e = cut.only (owner_text l.owner) _ (owner_lacks 32 l.owner (inl refl) fits.owner) e

pub no_owner : (text front rest : List ℕ) → Cuts 32 text front rest → Reads IsOwner owner_text front None → Reads IsLine line_text text None
no_owner text front rest cut none = λ l fits e. none l.owner fits.owner (cut_of text front rest l cut fits e).0

pub no_stamp_cut : (text front rest : List ℕ) → Cuts 32 text front rest → ((a b : List ℕ) → Lacks 32 a → rest ≢ a ++ 32 ∷ b) → Reads IsLine line_text text None
no_stamp_cut text front rest cut none = λ l fits e.
    none (decimal l.stamped.0) (event_text l.stamped.1) (Lacks-decimal 32 l.stamped.0 (λ r. omega arith) fits.stamp.1) (cut_of text front rest l cut fits e).1

second_cut : (text front rest digits left : List ℕ) (l : Line) → Cuts 32 text front rest → Cuts 32 rest digits left → IsLine l → text ≡ line_text l
    → (digits ≡ decimal l.stamped.0) × (left ≡ event_text l.stamped.1)
second_cut text front rest digits left l cut more fits e =
    more.only (decimal l.stamped.0) (event_text l.stamped.1) (Lacks-decimal 32 l.stamped.0 (λ r. omega arith) fits.stamp.1) (cut_of text front rest l cut fits e).1

pub no_line_stamp : (text front rest digits left : List ℕ) → Cuts 32 text front rest → Cuts 32 rest digits left → Reads IsStamp decimal digits None → Reads IsLine line_text text None
no_line_stamp text front rest digits left cut more none = λ l fits e. none l.stamped.0 fits.stamp (second_cut text front rest digits left l cut more fits e).0

pub no_line_event : (text front rest digits left : List ℕ) → Cuts 32 text front rest → Cuts 32 rest digits left → Reads IsEvent event_text left None → Reads IsLine line_text text None
no_line_event text front rest digits left cut more none = λ l fits e. none l.stamped.1 fits.event (second_cut text front rest digits left l cut more fits e).1

pub line_found : (text front rest digits left : List ℕ) (owner stamp : ℕ) (e : Event) → Cuts 32 text front rest → Cuts 32 rest digits left
    → Reads IsOwner owner_text front (Some owner) → Reads IsStamp decimal digits (Some stamp) → Reads IsEvent event_text left (Some e)
    → Reads IsLine line_text text (Some (record { owner = owner; stamped = (stamp, e) }))
line_found text front rest digits left owner stamp e cut more o s v = (
  record { owner = o.0; stamp = s.0; event = v.0 },
  cut.parts ∙ ap (λ (t : List ℕ). t ++ 32 ∷ rest) o.1
      ∙ ap (λ (t : List ℕ). owner_text owner ++ 32 ∷ t) (more.parts ∙ ap (λ (t : List ℕ). t ++ 32 ∷ left) s.1 ∙ ap (λ (t : List ℕ). decimal stamp ++ 32 ∷ t) v.1),
)
