-- Counters: adds beside one another, beside reads and under puts, and sums that wrap.
use Rattle.std.specs.Prelude.{ℤ, pos, negsuc, List, [], ◌∷◌, ◌++◌}
use Rattle.action_names.specs.Names.{Name}
use Rattle.values.specs.declared.value.Value.TheVariants.{Int}
use Rattle.values.specs.declared.content.Content.TheVariants.{Counter}
use Rattle.atomic_types.specs.declared.operation.Operation.TheVariants.{Total, Put, Add}
use Rattle.atomic_types.specs.declared.op.Reply.TheVariants as reply
use Rattle.run_model.specs.declared.step.ObjectId.{ObjectId}
use Rattle.run_model.specs.declared.step.Step.{Step}
use Rattle.run_model.specs.declared.step.Step.TheVariants.{Top, Call, Op, Commit, Close, Prepare, Decide, Abort, Tell, Crash, Recover}
use Rattle.run_model.specs.declared.answer.Answer.{Answer}
use Rattle.run_model.specs.declared.history.Event.{Event}
use Rattle.run_model.specs.declared.answer.Answer.TheVariants.{Granted, Waits, VoteYes, Done}
use Rattle.run_model.specs.Openings.{Opening, fresh}
use Rattle.proved_examples.specs.Example.{Example, action_1, action_1_1, action_2, action_3, began, granted, history_from_opening}

-- one guardian with one counter
abbrev pub counting_from : ℤ → Opening
counting_from n = fresh ((Counter n ∷ []) ∷ [])

abbrev pub from_ten : Opening
from_ten = counting_from (pos 10)

abbrev pub history_of : Example → List Event
history_of example = history_from_opening from_ten example

abbrev pub counter : ObjectId
counter = record { guardian = 1; number = 1 }

abbrev pub adds : Name → ℤ → Step × Answer
adds a n = (Op a counter (Add (Int n)), granted)

abbrev pub puts : Name → ℤ → Step × Answer
puts a n = (Op a counter (Put (Int n)), granted)

abbrev pub totals : Name → ℤ → Step × Answer
totals a n = (Op a counter Total, Granted (reply.Gives (Int n)))

abbrev pub total_waits : Name → List Name → Step × Answer
total_waits a names = (Op a counter Total, Waits names)

abbrev pub prepared_both : Example
prepared_both =
    (Top 1, began action_1) ∷ (Top 1, began action_2)
    ∷ adds action_1 (pos 5) ∷ adds action_2 (pos 7)
    ∷ total_waits action_2 (action_1 ∷ [])
    ∷ (Close action_1, Done 0) ∷ (Prepare 1 action_1, VoteYes)
    ∷ (Close action_2, Done 0) ∷ (Prepare 1 action_2, VoteYes) ∷ []

-- two adders, both prepared, decided and told in another order, with a crash between
abbrev pub both_decided : Example
both_decided = prepared_both ++ (
    (Decide action_2, Done 0) ∷ (Decide action_1, Done 0)
    ∷ (Crash 1, Done 0) ∷ (Recover 1, Done 0)
    ∷ (Tell 1 action_2, Done 1)
    ∷ (Top 1, began action_3) ∷ total_waits action_3 (action_1 ∷ [])
    ∷ (Tell 1 action_1, Done 1)
    ∷ totals action_3 (pos 22) ∷ [])

abbrev pub one_aborted : Example
one_aborted = prepared_both ++ (
    (Decide action_2, Done 0) ∷ (Abort action_1, Done 0)
    ∷ (Crash 1, Done 0) ∷ (Recover 1, Done 0)
    ∷ (Tell 1 action_2, Done 1)
    ∷ (Top 1, began action_3) ∷ total_waits action_3 (action_1 ∷ [])
    ∷ (Tell 1 action_1, Done 1)
    ∷ totals action_3 (pos 17) ∷ [])

-- a sum that wraps at the greatest number, and at the least
abbrev pub wraps_above : Example
wraps_above = (Top 1, began action_1) ∷ adds action_1 (pos 1)
    ∷ totals action_1 (negsuc 9223372036854775807) ∷ []

abbrev pub wraps_below : Example
wraps_below = (Top 1, began action_1) ∷ adds action_1 (negsuc 0)
    ∷ totals action_1 (pos 9223372036854775807) ∷ []

-- an add beside a read waits, and so does a read beside an add
abbrev pub beside_a_reader : Example
beside_a_reader =
    (Top 1, began action_1) ∷ (Top 1, began action_2) ∷ totals action_1 (pos 10)
    ∷ (Op action_2 counter (Add (Int (pos 1))), Waits (action_1 ∷ []))
    ∷ adds action_1 (pos 1) ∷ total_waits action_2 (action_1 ∷ []) ∷ []

-- a put over one's own adds, and adds over it
abbrev pub put_over_adds : Example
put_over_adds = (Top 1, began action_1) ∷ adds action_1 (pos 5) ∷ puts action_1 (pos 3)
    ∷ adds action_1 (pos 4) ∷ totals action_1 (pos 7) ∷ []

-- adds of a child go to its parent
abbrev pub adds_of_a_child : Example
adds_of_a_child =
    (Top 1, began action_1) ∷ adds action_1 (pos 1) ∷ (Call action_1 1, began action_1_1)
    ∷ adds action_1_1 (pos 2) ∷ totals action_1_1 (pos 13) ∷ (Commit action_1_1, Done 0)
    ∷ total_waits action_1 (action_1_1 ∷ []) ∷ (Tell 1 action_1_1, Done 1)
    ∷ totals action_1 (pos 13) ∷ []
