-- What the clients of a script did, by their own events.
use Rattle.std.specs.Prelude.{◌≡◌, ℕ, IfOk, IsTrue, List, [], ◌∷◌, ◌++◌, Option, None, Some, slice_get}
use Rattle.action_names.specs.Names.{Name}
use Rattle.run_model.specs.declared.answer.Answer.TheVariants.{Began}
use Rattle.run_model.specs.declared.history.Event.{Event}
use Rattle.run_model.specs.declared.step.Step.TheVariants.{Top}
use Rattle.run_model.specs.Actions.{is_committed}
use Rattle.script_model.specs.declared.checked.Client.{Client}
use Rattle.activities.specs.declared.client.ClientEnd.{ClientEnd}
use Rattle.activities.specs.declared.client.ClientEnd.TheVariants.{Aborted, Committed}
use Rattle.activities.specs.Ends.{top_of}
use Rattle.activities.specs.Making.{AreOwn, CommitOnly}
use Rattle.client_threads.specs.declared.clients.DoneClient.{DoneClient}
use Rattle.runtime.specs.Receipts.{events_of}

-- the event of a `top` step at this guardian, which began the action
abbrev pub top_event : ℕ → Name → Event
top_event home a = record { step = Top home; answer = Began (a ∷ []) }

-- what the end says is so, by the events after that of the `top` step
abbrev pub IsToldBy : ClientEnd → List Event → Type 0
IsToldBy (Committed a value) events = IsTrue (is_committed a events)
IsToldBy (Aborted (Some a)) events = CommitOnly [] events
IsToldBy (Aborted None) events = Unit {0}

-- The client's top action began by its first event; each later event is of it or of what these events began, and what
-- they commit too.
pub record BeganTop (home : ℕ) (a : Name) (end : ClientEnd) (events : List Event) : Type 0 where
  pub later : List Event
  pub events_are : events ≡ later ++ top_event home a ∷ []
  pub own : AreOwn (a ∷ []) later
  pub commits : CommitOnly (a ∷ []) later
  pub told : IsToldBy end later

-- a client of this home came to this end by these events; it has none if no action began
abbrev pub CameBy : ℕ → Option Name → ClientEnd → List Event → Type 0
CameBy home None end events = events ≡ []
CameBy home (Some a) end events = BeganTop home a end events

abbrev pub ClientDid : ℕ → ClientEnd → List Event → Type 0
ClientDid home end events = CameBy home (top_of end) end events

-- clients came to these ends, each by events of its own, whose receipts these are, client by client
abbrev pub AllDid : List Client → List ClientEnd → List (List Event) → Type 0
AllDid [] ends receipts = (ends ≡ []) × (receipts ≡ [])
AllDid (client ∷ clients) [] receipts = ⊥
AllDid (client ∷ clients) (end ∷ ends) receipts =
    (own others : List (List Event)) × (receipts ≡ own ++ others)
    × ClientDid client.home end (events_of own) × AllDid clients ends others

-- unless it met a fault, the client did what its end says
abbrev pub IsDone : {K : Type 0} → Client → DoneClient K → Type 0
IsDone client one = IfOk one.end (λ end. ClientDid client.home end (events_of one.receipts))

-- so of the client at this place, if there is one
abbrev pub IsDoneAt : {K : Type 0} → List Client → ℕ → DoneClient K → Type 0
IsDoneAt clients place one = (client : Client)
    → slice_get clients place ≡ Some client → IsDone client one

-- so of each client
abbrev pub AreDone : {K : Type 0} → List Client → List (DoneClient K) → Type 0
AreDone [] [] = Unit {0}
AreDone [] (one ∷ done) = ⊥
AreDone (client ∷ clients) [] = ⊥
AreDone (client ∷ clients) (one ∷ done) = IsDone client one × AreDone clients done
