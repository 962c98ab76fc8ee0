-- From a step that was read to the step of which the caller spoke.
use Rattle.std.proofs.Common.{◌≡◌, ◌⊎◌, ◌∙◌, inl, inr, ℕ, List, Option, Some, None, Result, Ok, Err, IfOk, ap, refl, sym, subst, arith}
use Rattle.std.specs.Prelude.{◌≢◌, is_ok, is_some}
use Rattle.std.proofs.lemmas.Bool.{false≢true}
use Rattle.action_names.specs.Names.{Name}
use Rattle.run_model.specs.declared.step.Step.{Step}
use Rattle.argus_c.specs.declared.handle.Handle.{Handle}
use Rattle.argus_c.specs.declared.reading.Unread.{Unread}
use Rattle.argus_c.specs.declared.reading.Unread.TheVariants.{Bad}
use Rattle.argus_c.specs.declared.session.Session.{Session}
use Rattle.argus_c.specs.declared.codes.Code.{Code}
use Rattle.argus_c.specs.declared.codes.Code.TheVariants as code
use Rattle.argus_c.specs.Codes.{code_number, done, bad, memory, closed, store}
use Rattle.argus_c.specs.Sessions.{IsMadeOf, IsNoName, IsNoStep, IsOfAction, IsUnmade}
use Rattle.argus_c.specs.Calls.{AnswersRead, AnswersStep, IsHeld, IsLeft, MakesStep, session_of}
use Rattle.argus_c.proofs.Numbers.{is_done, is_bad, is_closed}

abbrev pub some_session : Session → Option Session
some_session s = Some s

pub none_is_not : {A : Type 0} (s : A) → None ≡ Some s → ⊥
none_is_not {A} s e = false≢true (ap is_some e)

not_closed : (c : Code) → (c ≡ code.Done) ⊎ (c ≡ code.Bad) ⊎ (c ≡ code.Memory) ⊎ (c ≡ code.Store) → c ≡ code.Closed → ⊥
not_closed c (inl e) is = absurd (omega (arith, ap code_number (sym e ∙ is)))
not_closed c (inr (inl e)) is = absurd (omega (arith, ap code_number (sym e ∙ is)))
not_closed c (inr (inr (inl e))) is = absurd (omega (arith, ap code_number (sym e ∙ is)))
not_closed c (inr (inr (inr e))) is = absurd (omega (arith, ap code_number (sym e ∙ is)))

one_number : (c : Code) → (c ≡ code.Done) ⊎ (c ≡ code.Bad) ⊎ (c ≡ code.Memory) ⊎ (c ≡ code.Store)
    → (code_number c ≡ done) ⊎ (code_number c ≡ bad) ⊎ (code_number c ≡ memory) ⊎ (code_number c ≡ closed) ⊎ (code_number c ≡ store)
one_number c (inl e) = inl (ap code_number e)
one_number c (inr (inl e)) = inr (inl (ap code_number e))
one_number c (inr (inr (inl e))) = inr (inr (inl (ap code_number e)))
one_number c (inr (inr (inr e))) = inr (inr (inr (inr (ap code_number e))))

pub made_of : {Is : Step → Type 0} (read : Result Step Unread) (old new : Option Session) → IfOk read Is
    → MakesStep (λ step. read ≡ Ok step) old new → MakesStep Is old new
made_of {Is} read old new found m = record {
  step = m.step;
  before = m.before;
  after = m.after;
  is = subst (λ (r : Result Step Unread). IfOk r Is) m.is found;
  was = m.was;
  now = m.now;
  made = m.made;
}

pub answers_read : {Is : Step → Type 0} (read : Result Step Unread) (old new : Handle) (code : ℕ) → IfOk read Is
    → (read ≡ Err Bad → IsNoStep Is) → AnswersRead read old new code → AnswersStep Is old new code
answers_read {Is} read old new code found bad a = record {
  made = λ e. made_of read _ _ found (a.made e);
  none = λ e. bad (a.none e);
  same = a.same;
  was_closed = a.was_closed;
  closed_then = a.closed_then;
  left = a.left;
  one_of = a.one_of;
  error = a.error;
  held = a.held;
}

pub no_step : (text : List ℕ) (of : Name → Step) → IsNoName text → IsNoStep (IsOfAction text of)
no_step text of none step is = none is.action is.named

made_numbers : (read : Result Step Unread) (old new : Handle) (before after : Session) (c : Code)
    → session_of old ≡ Some before → session_of new ≡ Some after → (c ≡ code.Done → IsMadeOf read before after)
    → (c ≡ code.Bad → read ≡ Err Bad) → (c ≡ code.Bad → after ≡ before) → (c ≢ code.Done → IsUnmade before after)
    → (c ≡ code.Done) ⊎ (c ≡ code.Bad) ⊎ (c ≡ code.Memory) ⊎ (c ≡ code.Store) → new.error ≡ code_number c → IsHeld new
    → AnswersRead read old new (code_number c)
made_numbers read old new before after c was now makes none same unmade one error held = record {
  made = λ e. let m = makes (is_done c e) in record { step = m.step; before = before; after = after; is = m.is; was = was; now = now; made = m.made };
  none = λ e. none (is_bad c e);
  same = λ e. now ∙ ap some_session (same (is_bad c e)) ∙ sym was;
  was_closed = λ e. absurd (not_closed c one (is_closed c e));
  closed_then = λ e. absurd (none_is_not before (sym e ∙ was));
  left = λ ne. subst (λ (o : Option Session). IsLeft o (session_of new)) (sym was)
      (subst (λ (o : Option Session). IsLeft (Some before) o) (sym now) (unmade (λ e. ne (ap code_number e))));
  one_of = one_number c one;
  error = error;
  held = held;
}

-- what an open handle answers
pub made_answers : (read : Result Step Unread) (old new : Handle) (before after : Session) (c : Code) (number : ℕ)
    → session_of old ≡ Some before → session_of new ≡ Some after → (c ≡ code.Done → IsMadeOf read before after)
    → (c ≡ code.Bad → read ≡ Err Bad) → (c ≡ code.Bad → after ≡ before) → (c ≢ code.Done → IsUnmade before after)
    → (c ≡ code.Done) ⊎ (c ≡ code.Bad) ⊎ (c ≡ code.Memory) ⊎ (c ≡ code.Store) → number ≡ code_number c → new.error ≡ code_number c
    → IsHeld new → AnswersRead read old new number
made_answers read old new before after c number was now makes none same unmade one is error held =
    subst (λ (n : ℕ). AnswersRead read old new n) (sym is) (made_numbers read old new before after c was now makes none same unmade one error held)

-- a step that was not read but made
pub answers_this : (s : Step) (old new : Handle) (code : ℕ) → AnswersRead (Ok s) old new code → AnswersStep (λ t. t ≡ s) old new code
answers_this s old new code a = answers_read (Ok s) old new code refl (λ e. absurd (false≢true (sym (ap is_ok e)))) a
