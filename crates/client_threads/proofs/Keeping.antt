-- What a step of a thread leaves, by the receipts that are kept.
use Rattle.std.proofs.Common.{Err, IfOk, List, Ok, OnErr, Result, MatchOption, ap, refl, subst, sym, ◌∙◌, ◌≡◌}
use Rattle.std.specs.Prelude.{option_to_list}
use Rattle.run_model.specs.declared.answer.Answer.{Answer}
use Rattle.run_model.specs.declared.history.Event.{Event}
use Rattle.run_model.specs.declared.step.Step.{Step}
use Rattle.run_model.specs.Answers.{answer_of}
use Rattle.run_model.specs.Openings.{Opening, OpeningLists, opening_in}
use Rattle.run_model.specs.Runs.{World, history_after, world_after}
use Rattle.locked_run.specs.Acting as acting
use Rattle.runtime.specs.declared.answered.Answered.{Answered}
use Rattle.runtime.specs.Receipts.{IsKept, events_of}
use Rattle.runtime.proofs.Events.{events_of-append, kept_events}
use Rattle.activities.specs.Making.{IsAnswered}
use Rattle.client_threads.specs.Callers.{run_of}

module _ {K E F : Type 0} (opening : Opening) (lists : OpeningLists) (step : Step) (answered : Result (Answered K) E) (old new : List (List Event)) (same : opening_in lists ≡ opening)
    (given : IfOk answered (λ a. acting.IsAnswered opening step a.answer a.receipt a.seen)) where
  pub is_answered : (result : Result Answer F) → IsKept answered result old new → IfOk result (IsAnswered lists step)
  is_answered result kept = go answered given result kept
    where
      go : (answered : Result (Answered K) E) → IfOk answered (λ a. acting.IsAnswered opening step a.answer a.receipt a.seen) → (result : Result Answer F) → IsKept answered result old new
          → IfOk result (IsAnswered lists step)
      go (Ok a) g (Ok answer) k = record {
        past = g.past;
        answered = k.0 ∙ g.answered ∙ ap (λ (o : Opening). answer_of o step g.past) (sym same);
      }
      go (Ok a) g (Err f) k = tt
      go (Err e) g (Ok answer) k = absurd k
      go (Err e) g (Err f) k = tt

  pub is_after : (result : Result Answer F) → IsKept answered result old new
      → IfOk result (λ answer. record { lists = lists; past = events_of new } ≡ world_after (record { lists = lists; past = events_of old }) step answer)
  is_after result kept = go answered given result kept
    where
      go : (answered : Result (Answered K) E) → IfOk answered (λ a. acting.IsAnswered opening step a.answer a.receipt a.seen) → (result : Result Answer F) → IsKept answered result old new
          → IfOk result (λ answer. record { lists = lists; past = events_of new } ≡ world_after (record { lists = lists; past = events_of old }) step answer)
      go (Ok a) g (Ok answer) k =
          let events : events_of new ≡ history_after step a.answer (events_of old) =
          ap events_of k.1 ∙ events_of-append old (option_to_list a.receipt)
          ∙ kept_events step a.answer a.receipt g.past (events_of old) g.accepted (subst (λ s. MatchOption a.receipt (Unit {0}) (λ run. run ≡ s)) g.seen_after g.receipt_is) in
          ap (λ l. record { lists = lists; past = l }) events ∙ ap (λ b. world_after (record { lists = lists; past = events_of old }) step b) (sym k.0)
      go (Ok a) g (Err f) k = tt
      go (Err e) g (Ok answer) k = absurd k
      go (Err e) g (Err f) k = tt

  pub is_same : (result : Result Answer F) → IsKept answered result old new → OnErr result (◌≡◌ {A = World} (record { lists = lists; past = events_of new }) (record { lists = lists; past = events_of old }))
  is_same result kept = go answered given result kept
    where
      go : (answered : Result (Answered K) E) → IfOk answered (λ a. acting.IsAnswered opening step a.answer a.receipt a.seen) → (result : Result Answer F) → IsKept answered result old new
          → OnErr result (◌≡◌ {A = World} (record { lists = lists; past = events_of new }) (record { lists = lists; past = events_of old }))
      go (Ok a) g (Ok answer) k = tt
      go (Ok a) g (Err f) k = absurd k
      go (Err e) g (Ok answer) k = absurd k
      go (Err e) g (Err f) k = ap (λ l. record { lists = lists; past = events_of l }) k

-- ---- the calls of a caller

-- A step is answered, and its receipt is kept.
module _ {K E F : Type 0} (lists left : OpeningLists) (old new : List (List Event)) (step : Step) (answered : Result (Answered K) E)
    (result : Result Answer F) (calls : left ≡ lists) (given : IfOk answered (λ a. acting.IsAnswered (opening_in lists) step a.answer a.receipt a.seen))
    (kept : IsKept answered result old new) where
  pub step_answered : IfOk result (IsAnswered lists step)
  step_answered = is_answered (opening_in lists) lists step answered old new refl given result kept

  pub step_after : IfOk result (λ answer. run_of left new ≡ world_after (run_of lists old) step answer)
  step_after =
      subst (λ l. IfOk result (λ answer. run_of l new ≡ world_after (run_of lists old) step answer)) (sym calls)
      (is_after (opening_in lists) lists step answered old new refl given result kept)

  pub step_same : OnErr result (run_of left new ≡ run_of lists old)
  step_same =
      subst (λ l. OnErr result (run_of l new ≡ run_of lists old)) (sym calls)
      (is_same (opening_in lists) lists step answered old new refl given result kept)
