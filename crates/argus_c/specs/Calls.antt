-- What a call finds in a handle, and leaves there.
use Rattle.std.specs.Prelude.{◌≡◌, ◌≢◌, ◌==◌, ◌⊎◌, ℕ, List, Option, Some, None, Result, Ok, Err, IsSome, IsSomeAnd, if◌then◌else◌}
use Rattle.run_model.specs.declared.step.Step.{Step}
use Rattle.argus_c.specs.declared.handle.Handle.{Handle}
use Rattle.argus_c.specs.declared.reading.Unread.{Unread}
use Rattle.argus_c.specs.declared.reading.Unread.TheVariants.{Bad}
use Rattle.argus_c.specs.declared.session.Session.{Session}
use Rattle.argus_c.specs.Codes.{done, bad, nothing, memory, small, closed, store}
use Rattle.argus_c.specs.Keeping.{IsKept}
use Rattle.argus_c.specs.Sessions.{IsMade, IsNoStep, IsUnmade}
use Rattle.argus_c.specs.Writing.{IsTooSmall, IsWritten}

-- the mark of a handle that holds a world: "argu" as bytes
abbrev pub open_mark : ℕ
open_mark = 1969713761

-- a handle with the mark holds a session
abbrev pub IsHeld : Handle → Type 0
IsHeld handle = handle.mark ≡ open_mark → IsSome handle.seat.value

-- the session that the handle holds
abbrev pub session_of : Handle → Option Session
session_of handle = if handle.mark == open_mark then handle.seat.value else None

-- the step of which this is said was made
pub record MakesStep (Is : Step → Type 0) (old new : Option Session) : Type 0 where
  pub step : Step
  pub before : Session
  pub after : Session
  pub is : Is step
  pub was : old ≡ Some before
  pub now : new ≡ Some after
  pub made : IsMade step before after

-- nothing happened to the session, if there is one
abbrev pub IsLeft : Option Session → Option Session → Type 0
IsLeft None None = Unit {0}
IsLeft (Some old) (Some new) = IsUnmade old new
IsLeft _ _ = ⊥

-- A call that makes a step answers this code: where it makes one, it is so, and it is bad for this reason alone.
pub record Answers (Is : Step → Type 0) (IsBad : Type 0) (old new : Handle)
    (code : ℕ) : Type 0 where
  pub made : code ≡ done → MakesStep Is (session_of old) (session_of new)
  pub none : code ≡ bad → IsBad
  pub same : code ≡ bad → session_of new ≡ session_of old
  pub was_closed : code ≡ closed → session_of old ≡ None
  pub closed_then : session_of old ≡ None → code ≡ closed
  pub left : code ≢ done → IsLeft (session_of old) (session_of new)
  pub one_of : (code ≡ done) ⊎ (code ≡ bad) ⊎ (code ≡ memory) ⊎ (code ≡ closed) ⊎ (code ≡ store)
  pub error : new.error ≡ code
  pub held : IsHeld new

-- for a step of which this is said: bad comes only where there is none
abbrev pub AnswersStep : (Step → Type 0) → Handle → Handle → ℕ → Type 0
AnswersStep Is old new code = Answers Is (IsNoStep Is) old new code

-- for a step that was read
abbrev pub AnswersRead : Result Step Unread → Handle → Handle → ℕ → Type 0
AnswersRead read old new code = Answers (λ step. read ≡ Ok step) (read ≡ Err Bad) old new code

-- there was a session, and the text is such a text of it
pub record Says (Text : Session → List ℕ → Type 0) (old : Option Session)
    (Is : List ℕ → Type 0) : Type 0 where
  pub session : Session
  pub text : List ℕ
  pub was : old ≡ Some session
  pub of : Text session text
  pub is : Is text

-- a place and a length before and after a call
pub record Place : Type 0 where
  pub bytes : List ℕ
  pub len : ℕ

-- A call that tells a text of the session answers this code. The session stays as it is.
pub record TellsText (Text : Session → List ℕ → Type 0) (old new : Handle) (before after : Place)
    (code : ℕ) : Type 0 where
  pub written : code ≡ done
      → Says Text (session_of old) (λ text. IsWritten text before.bytes after.bytes after.len)
  pub too_small : code ≡ small
      → Says Text (session_of old) (λ text. IsTooSmall text before.bytes after.len)
  pub none : code ≡ nothing
      → IsSomeAnd (session_of old) (λ session. (text : List ℕ) → Text session text → ⊥)
  pub was_closed : code ≡ closed → session_of old ≡ None
  pub closed_then : session_of old ≡ None → code ≡ closed
  pub unwritten : code ≢ done → after.bytes ≡ before.bytes
  pub untold : code ≢ done → code ≢ small → after.len ≡ before.len
  pub same : session_of new ≡ session_of old
  pub one_of : (code ≡ done) ⊎ (code ≡ small) ⊎ (code ≡ nothing) ⊎ (code ≡ memory) ⊎ (code ≡ closed)
  pub error : new.error ≡ code
  pub held : IsHeld new

-- the caller keeps the guardian's store, if the handle holds a session
abbrev pub KeepsIn : ℕ → Option Session → Option Session → Type 0
KeepsIn guardian None None = Unit {0}
KeepsIn guardian (Some old) (Some new) = IsKept guardian old new
KeepsIn guardian _ _ = ⊥

-- A call that hears that the caller keeps a guardian's store answers this code.
pub record KeepsStore (guardian : ℕ) (old new : Handle) (code : ℕ) : Type 0 where
  pub kept : KeepsIn guardian (session_of old) (session_of new)
  pub was_closed : code ≡ closed → session_of old ≡ None
  pub closed_then : session_of old ≡ None → code ≡ closed
  pub one_of : (code ≡ done) ⊎ (code ≡ closed)
  pub error : new.error ≡ code
  pub held : IsHeld new
