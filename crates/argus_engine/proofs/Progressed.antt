-- How far the engine has come, and what that gives at its end.
use Rattle.std.proofs.Common.{◌≡◌, ℕ, ◌+◌, List, [], ◌∷◌, ◌++◌, take, drop, Option, Some, None, refl, sym, ap, subst, ◌∙◌, append_assoc, append-nil, arith, inl, inr, length-append, take-append-drop}
use Rattle.std.specs.List.{AllByRecursion}
use Rattle.std.specs.Prelude.{if◌then◌else◌, ◌==◌, ◌⊎◌}
use Rattle.std.specs.declared.io.buffered.BufReader.{BufReader}
use Rattle.std.specs.Io.Buffered.{reader_remaining, reader_inner, reader_buffer, reader_capacity}
use Rattle.std.specs.Io.KnownBytes.{Consumes, Appends, prepend_known}
use Rattle.std.proofs.KnownBytes.{Consumes-trans, Consumes-nil, Appends-trans, Appends-nil}
use Rattle.run_model.specs.declared.step.Step.{Step}
use Rattle.run_model.specs.declared.history.Event.{Event}
use Rattle.run_model.specs.Openings.{Opening, opening_in}
use Rattle.run_model.specs.Answers.{answer_of}
use Rattle.run_model.specs.Runs.{World, history_after, history_from, world_after}
use Rattle.run_model.specs.Texts.{IsStep, step_text, answer_text}
use Rattle.run_model.specs.Transcripts.{IsAnswered, at_end, no_step, error_text}
use Rattle.argus_engine.specs.declared.engine.Next.{Next}
use Rattle.argus_engine.specs.declared.engine.Next.TheVariants as found
use Rattle.argus_engine.specs.declared.engine.Ended.{Ended}
use Rattle.argus_engine.specs.declared.engine.Ended.TheVariants.{Done, Stopped}
use Rattle.argus_engine.specs.Serving.{Gives, Begins, step_lines, Made, MakesFirst, Answers, BeginsAnswers, Writes, TakesFront}
use Rattle.argus_engine.specs.Reading.{FacesNoStep, MayMakeNext, ReadsStep, answer_lines, Progress, Running, GoesOn, Moves}
use Rattle.argus_engine.proofs.Bytes.{left_text, gives_more}
use Rattle.argus_engine.proofs.OneAnswer.{back, forth, one_answer}

pub nothing_yet : (input : Option (List ℕ)) (world : World) (written : List ℕ) → written ≡ [] → Progress input input world world 1 written
nothing_yet input world written e = record { steps = []; each = tt; taken = Consumes-nil input; count = refl; opening = refl; past = refl; answers = e }

each_more : (steps : List Step) (s : Step) → AllByRecursion IsStep steps → IsStep s → AllByRecursion IsStep (steps ++ s ∷ [])
each_more [] s each fits = (fits, tt)
each_more (t ∷ steps) s each fits = (each.0, each_more steps s each.1 fits)

lines_more : (steps : List Step) (s : Step) → step_lines (steps ++ s ∷ []) ≡ step_lines steps ++ (step_text s ++ 10 ∷ [])
lines_more [] s = refl
lines_more (t ∷ steps) s =
    ap (λ (l : List ℕ). step_text t ++ 10 ∷ l) (lines_more steps s) ∙ sym (append_assoc (step_text t) (10 ∷ step_lines steps) (step_text s ++ 10 ∷ []))

past_more : (opening : Opening) (past : List Event) (steps : List Step) (s : Step)
    → history_from opening past (steps ++ s ∷ []) ≡ history_after s (answer_of opening s (history_from opening past steps)) (history_from opening past steps)
past_more opening past [] s = refl
past_more opening past (t ∷ steps) s = past_more opening (history_after t (answer_of opening t past) past) steps s

answers_more : (opening : Opening) (past : List Event) (steps : List Step) (s : Step)
    → answer_lines opening past (steps ++ s ∷ []) ≡ answer_lines opening past steps ++ (answer_text (answer_of opening s (history_from opening past steps)) ++ 10 ∷ [])
answers_more opening past [] s = refl
answers_more opening past (t ∷ steps) s =
    let answer = answer_of opening t past in
    let later = history_after t answer past in
    ap (λ (l : List ℕ). answer_text answer ++ 10 ∷ l) (answers_more opening later steps s)
    ∙ sym (append_assoc (answer_text answer) (10 ∷ answer_lines opening later steps) (answer_text (answer_of opening s (history_from opening later steps)) ++ 10 ∷ []))

-- one line more
pub one_more : (input left now : Option (List ℕ)) (old new next : World) (number : ℕ) (written grown : List ℕ) (s : Step)
    → Progress input left old new number written → ReadsStep left now s
    → next ≡ world_after new s (answer_of (opening_in new.lists) s new.past) → grown ≡ written ++ (answer_text (answer_of (opening_in new.lists) s new.past) ++ 10 ∷ [])
    → Progress input now old next (number + 1) grown
one_more input left now old new next number written grown s p reads stepped wrote =
    let past = history_from (opening_in old.lists) old.past p.steps in
    let same : answer_of (opening_in new.lists) s new.past ≡ answer_of (opening_in old.lists) s past = ap (λ l. answer_of (opening_in l) s new.past) p.opening ∙ ap (λ (h : List Event). answer_of (opening_in old.lists) s h) p.past in
    record {
      steps = p.steps ++ s ∷ [];
      each = each_more p.steps s p.each reads.0;
      taken = subst (Consumes input now) (sym (lines_more p.steps s)) (Consumes-trans input left now (step_lines p.steps) (step_text s ++ 10 ∷ []) p.taken reads.1);
      count = let l = length-append p.steps (s ∷ []) in let c = p.count in omega arith;
      opening = ap (λ (w : World). w.lists) stepped ∙ p.opening;
      past = ap (λ (w : World). w.past) stepped ∙ ap (λ (h : List Event). history_after s (answer_of (opening_in new.lists) s new.past) h) p.past
          ∙ ap (λ a. history_after s a past) same ∙ sym (past_more (opening_in old.lists) old.past p.steps s);
      answers = wrote ∙ ap (λ (l : List ℕ). l ++ (answer_text (answer_of (opening_in new.lists) s new.past) ++ 10 ∷ [])) p.answers
          ∙ ap (λ a. answer_lines (opening_in old.lists) old.past p.steps ++ (answer_text a ++ 10 ∷ [])) same ∙ sym (answers_more (opening_in old.lists) old.past p.steps s);
    }

-- the same with what was written said in another way
pub same_progress : (input left : Option (List ℕ)) (old new : World) (number : ℕ) (written other : List ℕ) → Progress input left old new number written → written ≡ other
    → Progress input left old new number other
same_progress input left old new number written other p e = subst (Progress input left old new number) e p

made : (input left : Option (List ℕ)) (old new after : World) (number : ℕ) (written rest : List ℕ) (p : Progress input left old new number written) → after ≡ new
    → Made old after (step_lines p.steps ++ rest) rest
made input left old new after number written rest p e = record {
  steps = p.steps;
  each = p.each;
  lines = refl;
  opening = ap (λ (w : World). w.lists) e ∙ p.opening;
  past = ap (λ (w : World). w.past) e ∙ p.past;
}

-- the reader has nothing more
pub answers_done : (input left : Option (List ℕ)) (old new after : World) (number : ℕ) (written : List ℕ) → Progress input left old new number written → Gives left [] → after ≡ new
    → Answers input old after written Done
answers_done input left old new after number written p gives e =
    let lines = step_lines p.steps in
    let answers = answer_lines (opening_in old.lists) old.past p.steps in
    record {
      text = lines ++ [];
      given = gives_more input left lines [] p.taken gives;
      answered = subst (λ (a : List ℕ). IsAnswered (opening_in old.lists) old.past 1 (lines ++ []) a) (append-nil answers ∙ sym p.answers) (forth (opening_in old.lists) old.past 1 p.steps [] [] p.each at_end);
      rest = [];
      made = made input left old new after number written [] p e;
      is_end = refl;
    }

-- what comes next is no step, and its error was written
pub answers_stopped : (input left : Option (List ℕ)) (old new after : World) (number : ℕ) (written all : List ℕ) → Progress input left old new number written → FacesNoStep left → after ≡ new
    → all ≡ written ++ error_text number → Answers input old after all Stopped
answers_stopped input left old new after number written all p faces e wrote =
    let lines = step_lines p.steps in
    let answers = answer_lines (opening_in old.lists) old.past p.steps in
    let rest = faces.0 in
    let error = error_text number in
    record {
      text = lines ++ rest;
      given = gives_more input left lines rest p.taken faces.1;
      answered = subst (λ (a : List ℕ). IsAnswered (opening_in old.lists) old.past 1 (lines ++ rest) a) (ap (λ (l : List ℕ). l ++ error) (sym p.answers) ∙ sym wrote)
          (forth (opening_in old.lists) old.past 1 p.steps rest error p.each
          (subst (λ n. IsAnswered (opening_in old.lists) (history_from (opening_in old.lists) old.past p.steps) n rest error) (let c = p.count in omega arith) (no_step faces.2 faces.3)));
      rest = rest;
      made = made input left old new after number written rest p e;
      is_end = (faces.2, faces.3);
    }

-- what was written so far begins what belongs to all
pub begins_so_far : (input left : Option (List ℕ)) (old new : World) (number : ℕ) (written : List ℕ) → Progress input left old new number written → BeginsAnswers input old written
begins_so_far input left old new number written p =
    let lines = step_lines p.steps in
    let answers = answer_lines (opening_in old.lists) old.past p.steps in
    let rest = left_text input left lines p.taken in
    record {
      text = lines ++ rest.0;
      given = rest.1;
      each = λ all h. let b = back (opening_in old.lists) old.past 1 p.steps rest.0 all p.each h in (b.0, b.1 ∙ ap (λ (l : List ℕ). l ++ b.0) (sym p.answers));
      read = lines;
      is_read = (rest.0, refl);
      answers = answers;
      answered = subst (λ (t : List ℕ). IsAnswered (opening_in old.lists) old.past 1 t answers) (append-nil lines)
          (subst (λ (a : List ℕ). IsAnswered (opening_in old.lists) old.past 1 (lines ++ []) a) (append-nil answers) (forth (opening_in old.lists) old.past 1 p.steps [] [] p.each at_end));
      is_part = ([], sym (append-nil written ∙ p.answers));
    }

shorter : (part written all : List ℕ) → Begins part written → Begins written all → Begins part all
shorter part written all b c = (b.0 ++ c.0, c.1 ∙ ap (λ (l : List ℕ). l ++ c.0) b.1 ∙ append_assoc part b.0 c.0)

-- so does a beginning of it
pub begins_part : (input : Option (List ℕ)) (old : World) (part written : List ℕ) → Begins part written → BeginsAnswers input old written → BeginsAnswers input old part
begins_part input old part written b h = record {
  text = h.text;
  given = h.given;
  each = λ all a. shorter part written all b (h.each all a);
  read = h.read;
  is_read = h.is_read;
  answers = h.answers;
  answered = h.answered;
  is_part = shorter part written h.answers b h.is_part;
}

-- the front of the bytes that were to be written behind others
pub front_begins : (sent bytes : List ℕ) (count : ℕ) → Begins (sent ++ take count bytes) (sent ++ bytes)
front_begins sent bytes count = (drop count bytes, ap (λ (l : List ℕ). sent ++ l) (sym (take-append-drop count bytes)) ∙ sym (append_assoc sent (take count bytes) (drop count bytes)))

pub begins_all : (input : Option (List ℕ)) (old new : World) (written : List ℕ) (ended : Ended) → Answers input old new written ended → BeginsAnswers input old written
begins_all input old new written ended h = record {
  text = h.text;
  given = h.given;
  each = λ all a. ([], one_answer (opening_in old.lists) old.past 1 h.text all written a h.answered ∙ sym (append-nil written));
  read = h.text;
  is_read = ([], sym (append-nil h.text));
  answers = written;
  answered = h.answered;
  is_part = ([], sym (append-nil written));
}

-- ---- with what the writer took and what is kept for it

pub started : (input before : Option (List ℕ)) (world : World) (kept : List ℕ) → kept ≡ [] → Running input input before before world world 1 kept
started input before world kept e = record { sent = []; appended = Appends-nil before; progress = nothing_yet input world kept e }

pub went_on : {input left before after : Option (List ℕ)} {old new : World} {number : ℕ} {kept : List ℕ} (now : Option (List ℕ)) (next : World) (grown : List ℕ) (kind : Next)
    → Running input left before after old new number kept → GoesOn left now new next kept grown kind → kind ≡ found.Answered → Running input now before after old next (number + 1) grown
went_on {left = left} {new = new} {kept = kept} now next grown kind r goes e =
    let (s, reads, (stepped, wrote)) = subst (GoesOn left now new next kept grown) e goes in
    record {
      sent = r.sent;
      appended = r.appended;
      progress = one_more _ _ now _ new next _ (r.sent ++ kept) (r.sent ++ grown) s r.progress reads stepped
          (ap (λ (l : List ℕ). r.sent ++ l) wrote ∙ sym (append_assoc r.sent kept _));
    }

-- a beginning of what was kept was sent, and the rest is kept
pub sent_some : {input left before after : Option (List ℕ)} {old new : World} {number : ℕ} {kept : List ℕ} (later : Option (List ℕ)) (rest : List ℕ)
    → Running input left before after old new number kept → Moves after later kept rest → Running input left before later old new number rest
sent_some {before = before} {after = after} {kept = kept} later rest r moved = record {
  sent = r.sent ++ moved.0;
  appended = Appends-trans before after later r.sent moved.0 r.appended moved.1;
  progress = same_progress _ _ _ _ _ (r.sent ++ kept) ((r.sent ++ moved.0) ++ rest) r.progress (ap (λ (l : List ℕ). r.sent ++ l) moved.2 ∙ sym (append_assoc r.sent moved.0 rest));
}

-- the steps that were made are those of the first lines
pub makes_first : {input left before after : Option (List ℕ)} {old new : World} {number : ℕ} {kept : List ℕ} (next : World)
    → Running input left before after old new number kept → next ≡ new → MakesFirst input old next
makes_first {input} {left} {old = old} {new = new} {number = number} {kept = kept} next r e =
    let p = r.progress in
    let rest = left_text input left (step_lines p.steps) p.taken in
    record { text = step_lines p.steps ++ rest.0; given = rest.1; rest = rest.0; made = made input left old new next number (r.sent ++ kept) rest.0 p e }

-- and perhaps the one of the line behind them
pub may_make_next : {input left before after : Option (List ℕ)} {old new : World} {number : ℕ} {kept : List ℕ} (next : World)
    → Running input left before after old new number kept → MayMakeNext left new next → MakesFirst input old next
may_make_next next r (inl e) = makes_first next r e
may_make_next {input} {left} {old = old} {new = new} next r (inr (s, fits, rest, gives, e)) =
    let p = r.progress in
    let past = history_from (opening_in old.lists) old.past p.steps in
    let answer = answer_of (opening_in new.lists) s new.past in
    let same : answer ≡ answer_of (opening_in old.lists) s past = ap (λ l. answer_of (opening_in l) s new.past) p.opening ∙ ap (λ (h : List Event). answer_of (opening_in old.lists) s h) p.past in
    let lines : step_lines (p.steps ++ s ∷ []) ++ rest ≡ step_lines p.steps ++ (step_text s ++ 10 ∷ rest) =
    ap (λ (l : List ℕ). l ++ rest) (lines_more p.steps s) ∙ append_assoc (step_lines p.steps) (step_text s ++ 10 ∷ []) rest
    ∙ ap (λ (l : List ℕ). step_lines p.steps ++ l) (append_assoc (step_text s) (10 ∷ []) rest) in
    record {
      text = step_lines (p.steps ++ s ∷ []) ++ rest;
      given = subst (Gives input) (sym lines) (gives_more input left (step_lines p.steps) (step_text s ++ 10 ∷ rest) p.taken gives);
      rest = rest;
      made = record {
        steps = p.steps ++ s ∷ [];
        each = each_more p.steps s p.each fits;
        lines = refl;
        opening = ap (λ (w : World). w.lists) e ∙ p.opening;
        past = ap (λ (w : World). w.past) e ∙ ap (λ (h : List Event). history_after s answer h) p.past
            ∙ ap (λ a. history_after s a past) same ∙ sym (past_more (opening_in old.lists) old.past p.steps s);
      };
    }

-- no more than that, where no step came next
pub made_no_more : {input left before after : Option (List ℕ)} {old new : World} {number : ℕ} {kept : List ℕ} (now : Option (List ℕ)) (next : World) (grown : List ℕ) (kind : Next)
    → Running input left before after old new number kept → GoesOn left now new next kept grown kind → (kind ≡ found.NoStep) ⊎ (kind ≡ found.End)
    → MakesFirst input old next
made_no_more {left = left} {new = new} {kept = kept} now next grown kind r goes (inl e) = makes_first next r (subst (GoesOn left now new next kept grown) e goes).1
made_no_more {left = left} {new = new} {kept = kept} now next grown kind r goes (inr e) = makes_first next r (subst (GoesOn left now new next kept grown) e goes).1

-- nothing was read, and nothing was made
pub makes_none : (input : Option (List ℕ)) (world : World) → MakesFirst input world world
makes_none input world = makes_first world (started input None world [] refl) refl

pub moves_all : (after later : Option (List ℕ)) (kept none : List ℕ) → Appends after later kept → none ≡ [] → Moves after later kept none
moves_all after later kept none took e = (kept, took, sym (ap (λ (l : List ℕ). kept ++ l) e ∙ append-nil kept))

pub moves_none : (after : Option (List ℕ)) (kept : List ℕ) → Moves after after kept kept
moves_none after kept = ([], Appends-nil after, refl)

pub begun : {input left before after : Option (List ℕ)} {old new : World} {number : ℕ} {kept : List ℕ} (same : List ℕ)
    → Running input left before after old new number kept → same ≡ kept → Writes before after (λ sent. BeginsAnswers input old (sent ++ same))
begun {input} {old = old} same r e =
    (r.sent, r.appended, subst (λ (l : List ℕ). BeginsAnswers input old (r.sent ++ l)) (sym e) (begins_so_far _ _ _ _ _ _ r.progress))

-- a beginning of what was kept was sent
pub begun_part : {input left before after : Option (List ℕ)} {old new : World} {number : ℕ} {kept : List ℕ} (later : Option (List ℕ)) (none : List ℕ)
    → Running input left before after old new number kept → TakesFront after later kept → none ≡ [] → Writes before later (λ sent. BeginsAnswers input old (sent ++ none))
begun_part {input} {before = before} {after = after} {old = old} {kept = kept} later none r took e =
    let sent = r.sent ++ take took.0 kept in (
      sent,
      Appends-trans before after later r.sent (take took.0 kept) r.appended took.2,
      subst (BeginsAnswers input old) (sym (ap (λ (l : List ℕ). sent ++ l) e ∙ append-nil sent))
          (begins_part input old sent (r.sent ++ kept) (front_begins r.sent kept took.0) (begins_so_far _ _ _ _ _ _ r.progress)),
    )

pub done : {input left before after : Option (List ℕ)} {old new : World} {number : ℕ} {kept : List ℕ} (now : Option (List ℕ)) (next : World) (grown : List ℕ) (kind : Next)
    → Running input left before after old new number kept → GoesOn left now new next kept grown kind → kind ≡ found.End
    → Writes before after (λ sent. Answers input old next (sent ++ grown) Done)
done {input} {left} {old = old} {new = new} {number = number} {kept = kept} now next grown kind r goes e =
    let (gives, same, wrote) = subst (GoesOn left now new next kept grown) e goes in
    (r.sent, r.appended, subst (λ (l : List ℕ). Answers input old next (r.sent ++ l) Done) (sym wrote) (answers_done input left old new next number (r.sent ++ kept) r.progress gives same))

pub stopped : {input left before after : Option (List ℕ)} {old new : World} {number : ℕ} {kept : List ℕ} (now : Option (List ℕ)) (next : World) (grown all : List ℕ) (kind : Next)
    → Running input left before after old new number kept → GoesOn left now new next kept grown kind → kind ≡ found.NoStep → all ≡ grown ++ error_text number
    → Writes before after (λ sent. Answers input old next (sent ++ all) Stopped)
stopped {input} {left} {old = old} {new = new} {number = number} {kept = kept} now next grown all kind r goes e wrote =
    let (faces, same, none) = subst (GoesOn left now new next kept grown) e goes in (
      r.sent,
      r.appended,
      answers_stopped input left old new next number (r.sent ++ kept) (r.sent ++ all) r.progress faces same
          (ap (λ (l : List ℕ). r.sent ++ l) (wrote ∙ ap (λ (l : List ℕ). l ++ error_text number) none) ∙ sym (append_assoc r.sent kept (error_text number))),
    )

pub kept_at_no_step : (left now : Option (List ℕ)) (new next : World) (kept grown all : List ℕ) (kind : Next) → GoesOn left now new next kept grown kind → kind ≡ found.NoStep → all ≡ grown → all ≡ kept
kept_at_no_step left now new next kept grown all kind goes e same = same ∙ (subst (GoesOn left now new next kept grown) e goes).2

-- what was answered is begun
pub begun_of_answers : (input before after : Option (List ℕ)) (old new : World) (kept : List ℕ) (ended : Ended)
    → Writes before after (λ sent. Answers input old new (sent ++ kept) ended) → Writes before after (λ sent. BeginsAnswers input old (sent ++ kept))
begun_of_answers input before after old new kept ended w = (w.0, w.1, begins_all input old new (w.0 ++ kept) ended w.2)

-- ---- what was kept is written at last

pub ends_begun : (input before after later : Option (List ℕ)) (old : World) (kept text : List ℕ)
    → Writes before after (λ sent. BeginsAnswers input old (sent ++ kept)) → text ≡ kept → TakesFront after later text → Writes before later (λ written. BeginsAnswers input old written)
ends_begun input before after later old kept text w e took =
    let sent = w.0 ++ take took.0 text in (
      sent,
      Appends-trans before after later w.0 (take took.0 text) w.1 took.2,
      begins_part input old sent (w.0 ++ kept) (subst (λ (l : List ℕ). Begins sent (w.0 ++ l)) e (front_begins w.0 text took.0)) w.2,
    )

pub ends_nothing : (input before : Option (List ℕ)) (world : World) → Writes before before (λ written. BeginsAnswers input world written)
ends_nothing input before world = ([], Appends-nil before, begins_so_far input input world world 1 [] (nothing_yet input world [] refl))

-- a new buffer hides nothing of what its reader gives
pub buffered_gives : {T A : Type 0} (r : BufReader T A) (inner : T) (remaining : T → Option (List ℕ)) → reader_inner r ≡ inner → reader_buffer r ≡ [] → reader_capacity r ≡ 8192
    → reader_remaining remaining r ≡ remaining inner
buffered_gives r inner remaining e empty size = seen (reader_capacity r) (reader_buffer r) (remaining (reader_inner r)) size empty ∙ ap remaining e
  where
    unchanged : (known : Option (List ℕ)) → prepend_known [] known ≡ known
    unchanged None = refl
    unchanged (Some xs) = refl

    seen : (capacity : ℕ) (buffer : List ℕ) (known : Option (List ℕ)) → capacity ≡ 8192 → buffer ≡ [] → (if capacity == 0 then None else prepend_known buffer known) ≡ known
    seen capacity buffer known e f =
        ap (λ (n : ℕ). if n == 0 then None else prepend_known buffer known) e ∙ ap (λ (b : List ℕ). prepend_known b known) f ∙ unchanged known
