-- From a text that was found and written to what a call that tells it answers.
use Rattle.std.proofs.Common.{◌≡◌, ◌⊎◌, ◌∙◌, inl, inr, ℕ, List, Option, Some, None, Result, Ok, Err, IfOk, IfSome, ap, refl, sym, subst, arith}
use Rattle.std.specs.Prelude.{◌≢◌, IfNone, IsOkAnd, IsSomeAnd, String, string_bytes}
use Rattle.std.specs.Global.{Global}
use Rattle.core.specs.declared.alloc.AllocError.{AllocError}
use Rattle.argus_c.specs.declared.codes.Code.{Code}
use Rattle.argus_c.specs.declared.codes.Code.TheVariants as code
use Rattle.argus_c.specs.declared.handle.Handle.{Handle}
use Rattle.argus_c.specs.declared.session.Session.{Session}
use Rattle.argus_c.specs.Codes.{code_number, done, small, nothing, memory, closed}
use Rattle.argus_c.specs.Keeping.{IsKept, IsStoreTextOf, IsThere}
use Rattle.argus_c.specs.Sessions.{IsBaseText, IsObject}
use Rattle.argus_c.specs.Writing.{IsFound, IsTooSmall, IsWritten}
use Rattle.argus_c.specs.Calls.{IsHeld, KeepsIn, KeepsStore, Place, Says, TellsText, session_of}
use Rattle.argus_c.proofs.Numbers.{is_done, is_nothing, is_small, is_closed}
use Rattle.argus_c.proofs.Steps.{none_is_not}

-- a text was found, of which both are said
said : (P Q : String Global → Type 0) (found : Result (Option (String Global)) AllocError) → IfOk found (λ t. IfSome t P) → IsFound found Q
    → (text : String Global) × P text × Q text
said P Q (Err e) p q = absurd q
said P Q (Ok None) p q = absurd q
said P Q (Ok (Some text)) p q = (text, p, q)

-- none was found
unsaid : (N : Type 0) (found : Result (Option (String Global)) AllocError) → IfOk found (λ t. IfNone t N) → IsOkAnd found (λ t. t ≡ None) → N
unsaid N (Err e) n is = absurd is
unsaid N (Ok None) n is = n
unsaid N (Ok (Some text)) n is = absurd (none_is_not text (sym is))

-- where there is no object, there is no text of its base
pub no_base : (g n : ℕ) (session : Session) (found : Result (Option (String Global)) AllocError)
    → IfOk found (λ t. IfNone t (IsObject session g n → ⊥)) → IfOk found (λ t. IfNone t ((text : List ℕ) → IsBaseText g n session text → ⊥))
no_base g k session (Err e) n = n
no_base g k session (Ok None) n = λ text is. n is.object
no_base g k session (Ok (Some text)) n = n

-- where there is no guardian, there is no text of its store
pub no_store : (g : ℕ) (session : Session) (found : Result (Option (String Global)) AllocError)
    → IfOk found (λ t. IfNone t (IsThere session g → ⊥)) → IfOk found (λ t. IfNone t ((text : List ℕ) → IsStoreTextOf g session text → ⊥))
no_store g session (Err e) n = n
no_store g session (Ok None) n = λ text is. n is.there
no_store g session (Ok (Some text)) n = n

abbrev IsOne : Code → Type 0
IsOne c = (c ≡ code.Done) ⊎ (c ≡ code.Small) ⊎ (c ≡ code.Nothing) ⊎ (c ≡ code.Memory)

not_closed : (c : Code) → IsOne c → c ≡ code.Closed → ⊥
not_closed c (inl e) is = absurd (omega (arith, ap code_number (sym e ∙ is)))
not_closed c (inr (inl e)) is = absurd (omega (arith, ap code_number (sym e ∙ is)))
not_closed c (inr (inr (inl e))) is = absurd (omega (arith, ap code_number (sym e ∙ is)))
not_closed c (inr (inr (inr e))) is = absurd (omega (arith, ap code_number (sym e ∙ is)))

one_number : (c : Code) → IsOne c
    → (code_number c ≡ done) ⊎ (code_number c ≡ small) ⊎ (code_number c ≡ nothing) ⊎ (code_number c ≡ memory) ⊎ (code_number c ≡ closed)
one_number c (inl e) = inl (ap code_number e)
one_number c (inr (inl e)) = inr (inl (ap code_number e))
one_number c (inr (inr (inl e))) = inr (inr (inl (ap code_number e)))
one_number c (inr (inr (inr e))) = inr (inr (inr (inl (ap code_number e))))

module _ (Text : Session → List ℕ → Type 0) (old new : Handle) (session : Session) (found : Result (Option (String Global)) AllocError)
    (before after : Place) (c : Code) where
  says : (Is : List ℕ → Type 0) → session_of old ≡ Some session → IfOk found (λ t. IfSome t (λ text. Text session (string_bytes text)))
      → IsFound found (λ text. Is (string_bytes text)) → Says Text (session_of old) Is
  says Is was told is =
      let s = said (λ text. Text session (string_bytes text)) (λ text. Is (string_bytes text)) found told is in
      record { session = session; text = string_bytes s.0; was = was; of = s.1; is = s.2 }

  pub tells : (number : ℕ) → session_of old ≡ Some session → session_of new ≡ Some session
      → IfOk found (λ t. IfSome t (λ text. Text session (string_bytes text)))
      → IfOk found (λ t. IfNone t ((text : List ℕ) → Text session text → ⊥))
      → (c ≡ code.Done → IsFound found (λ text. IsWritten (string_bytes text) before.bytes after.bytes after.len))
      → (c ≡ code.Small → IsFound found (λ text. IsTooSmall (string_bytes text) before.bytes after.len))
      → (c ≡ code.Nothing → IsOkAnd found (λ t. t ≡ None)) → (c ≢ code.Done → after.bytes ≡ before.bytes)
      → (c ≢ code.Done → c ≢ code.Small → after.len ≡ before.len) → IsOne c → number ≡ code_number c → new.error ≡ code_number c
      → IsHeld new → TellsText Text old new before after number
  tells number was now told none written too_small nothing unwritten untold one is error held =
      subst (λ (n : ℕ). TellsText Text old new before after n) (sym is) (record {
        written = λ e. says (λ text. IsWritten text before.bytes after.bytes after.len) was told (written (is_done c e));
        too_small = λ e. says (λ text. IsTooSmall text before.bytes after.len) was told (too_small (is_small c e));
        none = λ e. subst (λ (o : Option Session). IsSomeAnd o (λ s. (text : List ℕ) → Text s text → ⊥)) (sym was)
            (unsaid ((text : List ℕ) → Text session text → ⊥) found none (nothing (is_nothing c e)));
        was_closed = λ e. absurd (not_closed c one (is_closed c e));
        closed_then = λ e. absurd (none_is_not session (sym e ∙ was));
        unwritten = λ ne. unwritten (λ e. ne (ap code_number e));
        untold = λ nd ns. untold (λ e. nd (ap code_number e)) (λ e. ns (ap code_number e));
        same = now ∙ sym was;
        one_of = one_number c one;
        error = error;
        held = held;
      })

-- what an open handle answers when it hears that a store is kept
pub keeps_store : (guardian : ℕ) (old new : Handle) (before after : Session) (number : ℕ) → session_of old ≡ Some before → session_of new ≡ Some after
    → IsKept guardian before after → number ≡ done → new.error ≡ done → IsHeld new → KeepsStore guardian old new number
keeps_store guardian old new before after number was now kept is error held =
    subst (λ (n : ℕ). KeepsStore guardian old new n) (sym is) (record {
      kept = subst (λ (o : Option Session). KeepsIn guardian o (session_of new)) (sym was)
          (subst (λ (o : Option Session). KeepsIn guardian (Some before) o) (sym now) kept);
      was_closed = λ e. absurd (omega (arith, e));
      closed_then = λ e. absurd (none_is_not before (sym e ∙ was));
      one_of = inl refl;
      error = error;
      held = held;
    })
