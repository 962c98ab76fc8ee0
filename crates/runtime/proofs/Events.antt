-- The events of receipts, one receipt more.
use Rattle.std.proofs.Common.{List, None, Option, Some, MatchOption, [], ap, append_assoc, cond, sym, ◌++◌, ◌∙◌, ◌∷◌, ◌≡◌}
use Rattle.std.specs.Prelude.{is_some, option_to_list}
use Rattle.std.proofs.lemmas.List.{append-nil}
use Rattle.run_model.specs.declared.answer.Answer.{Answer}
use Rattle.run_model.specs.declared.history.Event.{Event}
use Rattle.run_model.specs.declared.step.Step.{Step}
use Rattle.run_model.specs.Runs.{history_after, is_accepted}
use Rattle.runtime.specs.Receipts.{event_of, events_of}

pub events_of-append : (xs ys : List (List Event)) → events_of (xs ++ ys) ≡ events_of ys ++ events_of xs
events_of-append [] ys = sym (append-nil (events_of ys))
events_of-append (x ∷ xs) ys = ap (λ l. l ++ event_of x) (events_of-append xs ys) ∙ append_assoc (events_of ys) (events_of xs) (event_of x)

-- the events once a receipt was kept, if there is one
pub kept_events : (step : Step) (answer : Answer) (receipt : Option (List Event)) (past old : List Event) → is_some receipt ≡ is_accepted answer
    → MatchOption receipt (Unit {0}) (λ run. run ≡ history_after step answer past) → events_of (option_to_list receipt) ++ old ≡ history_after step answer old
kept_events step answer None past old some is = ap (λ b. cond b (record { step = step; answer = answer } ∷ old) old) some
kept_events step answer (Some run) past old some is =
    let whole : run ≡ record { step = step; answer = answer } ∷ past = is ∙ sym (ap (λ b. cond b (record { step = step; answer = answer } ∷ past) past) some) in
    ap (λ l. event_of l ++ old) whole ∙ ap (λ b. cond b (record { step = step; answer = answer } ∷ old) old) some
