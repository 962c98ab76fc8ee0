-- What a session keeps of an answer that came behind what was seen last.
use Rattle.std.proofs.Common.{Err, IfOk, List, Ok, OnErr, Option, Result, ap, subst, sym, ◌∙◌, ◌≡◌}
use Rattle.run_model.specs.declared.answer.Answer.{Answer}
use Rattle.run_model.specs.declared.history.Event.{Event}
use Rattle.run_model.specs.declared.step.Step.{Step}
use Rattle.run_model.specs.Openings.{Opening, OpeningLists, opening_in}
use Rattle.runtime.specs.declared.answered.Answered.{Answered}
use Rattle.runtime.specs.Answering.{IsAnsweredFrom}
use Rattle.runtime.specs.Receipts.{IsKept}
use Rattle.stepping.specs.Beside.{IsAnsweredTo, own_after}
use Rattle.sessions.specs.Sessions.{AreInOrder, IsLastSeen, run_of}
use Rattle.sessions.proofs.Stepped.{answered_to, events_then}

module _ {K E F : Type 0} (opening : Opening) (lists left : OpeningLists) (before before_then own new : List (List Event)) (last last_then : Option (List Event)) (step : Step)
    (answered : Result (Answered K) E) (result : Result Answer F) (named : opening_in lists ≡ opening) (still : left ≡ lists) (same : before_then ≡ before)
    (ordered : ∥ AreInOrder opening before own last ∥₁) (given : IfOk answered (λ a. IsAnsweredFrom opening last step a.answer a.receipt a.seen))
    (kept : IsKept answered result own new) (seen : IsLastSeen answered last last_then) where
  pub step_answered : IfOk result (IsAnsweredTo (λ own seen. Unit {0}) (run_of lists before own last) step)
  step_answered = go answered given result kept
    where
      go : (answered : Result (Answered K) E) → IfOk answered (λ a. IsAnsweredFrom opening last step a.answer a.receipt a.seen)
          → (result : Result Answer F) → IsKept answered result own new
          → IfOk result (IsAnsweredTo (λ own seen. Unit {0}) (run_of lists before own last) step)
      go (Ok a) g (Ok answer) k =
          subst (IsAnsweredTo (λ own seen. Unit {0}) (run_of lists before own last) step) (sym k.0)
          (answered_to opening before own last step a.answer a.receipt a.seen ordered g lists named)
      go (Ok a) g (Err f) k = tt
      go (Err e) g (Ok answer) k = absurd k
      go (Err e) g (Err f) k = tt

  pub step_after : IfOk result (λ answer. run_of left before_then new last_then ≡ own_after (run_of lists before own last) step answer)
  step_after =
      subst (λ l. IfOk result (λ answer. run_of l before_then new last_then ≡ own_after (run_of lists before own last) step answer)) (sym still)
      (subst (λ b. IfOk result (λ answer. run_of lists b new last_then ≡ own_after (run_of lists before own last) step answer)) (sym same)
      (go answered given result kept seen))
    where
      go : (answered : Result (Answered K) E) → IfOk answered (λ a. IsAnsweredFrom opening last step a.answer a.receipt a.seen)
          → (result : Result Answer F) → IsKept answered result own new → IsLastSeen answered last last_then
          → IfOk result (λ answer. run_of lists before new last_then ≡ own_after (run_of lists before own last) step answer)
      go (Ok a) g (Ok answer) k s =
          ap (λ o. run_of lists before new o) s
          ∙ ap (λ l. record { lists = lists; past = l; since = before }) (events_then opening before own last step a.answer a.receipt a.seen ordered g new k.1)
          ∙ ap (λ b. own_after (run_of lists before own last) step b) (sym k.0)
      go (Ok a) g (Err f) k s = tt
      go (Err e) g (Ok answer) k s = absurd k
      go (Err e) g (Err f) k s = tt

  pub step_same : OnErr result (run_of left before_then new last_then ≡ run_of lists before own last)
  step_same =
      subst (λ l. OnErr result (run_of l before_then new last_then ≡ run_of lists before own last)) (sym still)
      (subst (λ b. OnErr result (run_of lists b new last_then ≡ run_of lists before own last)) (sym same) (go answered result kept seen))
    where
      go : (answered : Result (Answered K) E) (result : Result Answer F) → IsKept answered result own new → IsLastSeen answered last last_then
          → OnErr result (run_of lists before new last_then ≡ run_of lists before own last)
      go (Ok a) (Ok answer) k s = tt
      go (Ok a) (Err f) k s = absurd k
      go (Err e) (Ok answer) k s = absurd k
      go (Err e) (Err f) k s = ap (λ l. run_of lists before l last_then) k ∙ ap (λ o. run_of lists before own o) s
