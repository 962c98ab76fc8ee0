-- The session of an arm, as it begins; and two that have seen the run.
use Rattle.std.proofs.Common.{List, None, Option, Some, [], ap, subst, sym, ◌++◌, ◌∙◌, ◌≡◌}
use Rattle.std.proofs.Math.Logic.{∥∥₁_map}
use Rattle.std.proofs.lemmas.List.{append-nil}
use Rattle.one_run.specs.Pieces.GoesOn.{stays}
use Rattle.run_model.specs.declared.history.Event.{Event}
use Rattle.run_model.specs.Openings.{Opening, OpeningLists}
use Rattle.run_model.specs.Runs.{IsRun}
use Rattle.locked_run.specs.Behind.{IsBehind}
use Rattle.stepping.specs.Beside.{started}
use Rattle.sessions.specs.Sessions.{AreInOrder, GoesOnFromBoth, own_of, run_of, seen_in}
use Rattle.sessions.proofs.Own.{all_append, behind_further, behind_nothing}

-- ---- what an arm begins with

-- it has what its starter has, and no receipt of its own
pub arm_run : (lists left : OpeningLists) (before own since receipts : List (List Event)) (last last_then : Option (List Event)) → left ≡ lists
    → since ≡ before ++ own → receipts ≡ [] → last_then ≡ last
    → run_of left since receipts last_then ≡ started (run_of lists before own last) (before ++ own)
arm_run lists left before own since receipts last last_then named began none seen =
    ap (λ l. run_of l since receipts last_then) named ∙ ap (λ l. run_of lists l receipts last_then) began
    ∙ ap (λ l. run_of lists (before ++ own) l last_then) none ∙ ap (run_of lists (before ++ own) []) seen
    ∙ ap (λ l. record { lists = lists; past = own_of l (seen_in last); since = before ++ own }) (append-nil (before ++ own))

-- receipts by other names for them
pub order_same : (opening : Opening) (before own since receipts : List (List Event)) (last last_then : Option (List Event)) → since ≡ before → receipts ≡ own
    → last_then ≡ last → ∥ AreInOrder opening before own last ∥₁ → ∥ AreInOrder opening since receipts last_then ∥₁
order_same opening before own since receipts last last_then same still seen ordered =
    subst (λ l. ∥ AreInOrder opening l receipts last_then ∥₁) (sym same)
    (subst (λ l. ∥ AreInOrder opening before l last_then ∥₁) (sym still) (subst (λ l. ∥ AreInOrder opening before own l ∥₁) (sym seen) ordered))

pub arm_order : (opening : Opening) (before own since receipts : List (List Event)) (last last_then : Option (List Event)) → since ≡ before ++ own
    → receipts ≡ [] → last_then ≡ last → ∥ AreInOrder opening before own last ∥₁ → ∥ AreInOrder opening since receipts last_then ∥₁
arm_order opening before own since receipts last last_then began none seen ordered =
    order_same opening (before ++ own) [] since receipts last last_then began none seen
    (∥∥₁_map ordered (λ o. record { run = o.run; before_seen = all_append before own (seen_in last) o.before_seen o.own_seen; own_seen = tt; later = tt }))

-- ---- what two have seen, together

pub both_seen : (opening : Opening) (one other joined : List Event) → IsBehind one joined → IsBehind other joined → IsRun opening joined
    → GoesOnFromBoth opening (Some one) (Some other) (Some joined)
both_seen opening one other joined first second run = record { first = first; second = second; run = λ a b. run }

-- one of them has seen nothing
pub first_seen : (opening : Opening) (one : Option (List Event)) → GoesOnFromBoth opening one None one
first_seen opening one = record { first = stays; second = behind_nothing (seen_in one); run = λ a b. a }

pub second_seen : (opening : Opening) (other : Option (List Event)) → GoesOnFromBoth opening None other other
second_seen opening other = record { first = behind_nothing (seen_in other); second = stays; run = λ a b. b }

-- and a look further on
pub seen_further : (opening : Opening) (one other : Option (List Event)) (seen now : List Event) → IsBehind seen now → IsRun opening now
    → GoesOnFromBoth opening one other (Some seen) → GoesOnFromBoth opening one other (Some now)
seen_further opening one other seen now further run both = record {
  first = behind_further both.first further;
  second = behind_further both.second further;
  run = λ a b. run;
}
