-- How clients end, and what their actions leave of a world.
use Rattle.std.specs.Prelude.{◌≡◌, IsTrue, ℕ, Bool, true, false, List, [], ◌∷◌, ◌++◌, ◌⊎◌, Option, Some, None, Result, Ok, Err, Vec, filter_map}
use Rattle.std.specs.declared.alloc.Global.{Global}
use Rattle.std.specs.List.{AllByRecursion}
use Rattle.action_names.specs.Names.{Name}
use Rattle.run_model.specs.declared.answer.Answer.TheVariants as answer
use Rattle.run_model.specs.declared.answer.Refusal.{Refusal}
use Rattle.run_model.specs.declared.history.Event.{Event}
use Rattle.run_model.specs.declared.step.Step.TheVariants.{Top}
use Rattle.run_model.specs.Actions.{is_committed}
use Rattle.run_model.specs.Answers.{answer_of}
use Rattle.run_model.specs.Runs.{IsRun, World}
use Rattle.script_model.specs.declared.checked.Client.{Client}
use Rattle.activities.specs.declared.client.ClientEnd.{ClientEnd}
use Rattle.activities.specs.declared.client.ClientEnd.TheVariants.{Aborted, Committed}
use Rattle.activities.specs.declared.flow.Flow.{Flow}
use Rattle.activities.specs.declared.flow.Flow.TheVariants.{Ended, Returned}
use Rattle.activities.specs.declared.open_action.Called.{Called}
use Rattle.activities.specs.declared.open_action.Called.TheVariants.{Began}
use Rattle.run_model.specs.Openings.{opening_in}
use Rattle.activities.specs.Continuing.{EndsAll}
use Rattle.activities.specs.Making.{ClientMakes, ClientsMake, Makes, with_top}

-- the top action that an end names
abbrev pub top_of : ClientEnd → Option Name
top_of (Committed top value) = Some top
top_of (Aborted top) = top

abbrev pub named : List ClientEnd → List Name
named ends = filter_map (λ e. top_of e) ends

-- what a client's end says is so
abbrev pub IsEnd : List Event → ClientEnd → Type 0
IsEnd past (Committed top value) = IsTrue (is_committed top past)
IsEnd past (Aborted (Some top)) = is_committed top past ≡ false
IsEnd past (Aborted None) = Unit {0}

-- an action that ended so has committed
abbrev pub commits : Flow → Bool
commits Ended = true
commits (Returned value) = true
commits _ = false

-- how a client ended, if its top action ended so
abbrev pub end_of : Name → Flow → ClientEnd
end_of top Ended = Committed top None
end_of top (Returned value) = Committed top value
end_of top _ = Aborted (Some top)

-- whether it says so of what an action came to
abbrev pub has_committed : {E : Type 0} → Result Flow E → Bool
has_committed (Ok flow) = commits flow
has_committed (Err fault) = false

-- what a call began
abbrev pub called : Called → List Name
called (Began name) = name ∷ []
called _ = []

-- the action that is named, if one is
abbrev pub named_by : Option Name → List Name
named_by None = []
named_by (Some a) = a ∷ []

-- the `top` step at this guardian began the action, or was refused
abbrev pub IsTopAt : ℕ → World → Option Name → Type 0
IsTopAt home w None = (why : Refusal)
    × (answer_of (opening_in w.lists) (Top home) w.past ≡ answer.Refused why)
IsTopAt home w (Some a) = answer_of (opening_in w.lists) (Top home) w.past ≡ answer.Began (a ∷ [])

-- a client of this home was run: a `top` step began the action that its end names, and each step was of its own actions
pub record ClientRan (home : ℕ) (old new : World) (end : ClientEnd) : Type 0 where
  pub began : IsTopAt home old (top_of end)
  pub makes : ClientMakes home (top_of end) old new
  pub is_end : IsEnd new.past end
  pub ended : EndsAll old new

-- clients were run one after another, each from where the one before it had ended
abbrev pub RanInTurn : List Client → World → World → List ClientEnd → Type 0
RanInTurn [] old new ends = (ends ≡ []) × (new ≡ old)
RanInTurn (client ∷ clients) old new [] = ⊥
RanInTurn (client ∷ clients) old new (end ∷ ends) =
    (next : World) × ClientRan client.home old next end × RanInTurn clients next new ends

-- these clients were run: their ends name, in order, exactly the actions that `top` steps began, and each step was of
-- their own actions
pub record AreRun (clients : List Client) (old new : World) (ends : List ClientEnd) : Type 0 where
  pub in_turn : RanInTurn clients old new ends
  pub is_run : IsRun (opening_in new.lists) new.past
  pub makes : ClientsMake (named ends) old new
  pub told : AllByRecursion (IsEnd new.past) ends
  pub ended : EndsAll old new

-- what a client's end says is so of what it made: its top action has committed, or nothing but what began under it
abbrev pub EndTells : ℕ → ClientEnd → World → World → Type 0
EndTells home (Committed a value) old new = IsTrue (is_committed a new.past)
EndTells home (Aborted (Some a)) old new = Makes (a ∷ []) [] (with_top home a old) new
EndTells home (Aborted None) old new = Unit {0}

-- a client of this home came to this end, by steps of its own actions
pub record ClientMade (home : ℕ) (end : ClientEnd) (old new : World) : Type 0 where
  pub makes : ClientMakes home (top_of end) old new
  pub told : EndTells home end old new

-- the `top` step at this guardian began the action, if one is named
abbrev pub IsTopOrNothing : ℕ → World → Option Name → Type 0
IsTopOrNothing home old None = Unit {0}
IsTopOrNothing home old (Some a) = IsTopAt home old (Some a)

-- a client of this home was begun, if at all, and then a fault ended it: each step was of its own actions
pub record ClientCut (home : ℕ) (old new : World) : Type 0 where
  pub top : Option Name
  pub began : IsTopOrNothing home old top
  pub makes : ClientMakes home top old new

-- a client of this home was run to its end, or until a fault ended it
abbrev pub ClientTried : ℕ → World → World → Type 0
ClientTried home old new =
    ((end : ClientEnd) × IsTopAt home old (top_of end) × ClientMade home end old new)
    ⊎ ClientCut home old new

-- clients were tried one after another, each from where the one before it had ended
abbrev pub TriedInTurn : List Client → World → World → Type 0
TriedInTurn [] old new = new ≡ old
TriedInTurn (client ∷ clients) old new = (next : World) × ClientTried client.home old next
    × TriedInTurn clients next new

-- a client of this home came to its end, or to a fault
abbrev pub ClientCame : {E : Type 0} → ℕ → World → World → Result ClientEnd E → Type 0
ClientCame home old new (Ok end) = IsTopAt home old (top_of end) × ClientMade home end old new
ClientCame home old new (Err fault) = ClientCut home old new

-- so of clients one after another, each from where the one before it had come to
abbrev pub CameInTurn : {E : Type 0} → List Client → World → World → List (Result ClientEnd E)
    → Type 0
CameInTurn [] old new [] = new ≡ old
CameInTurn [] old new (one ∷ more) = ⊥
CameInTurn (client ∷ clients) old new [] = ⊥
CameInTurn (client ∷ clients) old new (one ∷ more) = (next : World)
    × ClientCame client.home old next one × CameInTurn clients next new more

-- the ends of clients and of the next one; of several faults the first counts
abbrev pub ends_with : {E : Type 0} → Result (List ClientEnd) E → Result ClientEnd E
    → Result (List ClientEnd) E
ends_with (Err fault) next = Err fault
ends_with (Ok ends) (Err fault) = Err fault
ends_with (Ok ends) (Ok end) = Ok (ends ++ end ∷ [])

-- so of one client after another
abbrev pub all_ends : {E : Type 0} → Result (List ClientEnd) E → List (Result ClientEnd E)
    → Result (List ClientEnd) E
all_ends ends [] = ends
all_ends ends (one ∷ more) = all_ends (ends_with ends one) more

-- the ends, in a list
abbrev pub listed : {E : Type 0} → Result (Vec ClientEnd Global) E → Result (List ClientEnd) E
listed (Ok ends) = Ok ends.items
listed (Err fault) = Err fault

-- each of these clients came to its end or to a fault, one after another; this is what came of them all: their ends,
-- or the fault of the first to which one came
pub record AllCame {E : Type 0} (clients : List Client) (old new : World)
    (all : Result (List ClientEnd) E) : Type 0 where
  pub came : List (Result ClientEnd E)
  pub in_turn : CameInTurn clients old new came
  pub is_all : all ≡ all_ends (Ok []) came

-- the first so many of the clients were tried, and each step was of their own actions
pub record AreTried (clients : List Client) (old new : World) : Type 0 where
  pub tried : List Client
  pub rest : List Client
  pub parts : clients ≡ tried ++ rest
  pub in_turn : TriedInTurn tried old new
  pub tops : List Name
  pub makes : ClientsMake tops old new
