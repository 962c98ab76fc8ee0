-- An operation is answered that it waits only once the patience is over.
use Rattle.std.proofs.Common.{Err, IfOk, List, Ok, Result, [], ap, false, inl, inr, refl, subst, sym, true, ℕ, ◌∙◌, ◌∷◌, ◌≡◌, ◌⊎◌}
use Rattle.std.proofs.lemmas.Bool.{false≢true}
use Rattle.std.specs.Prelude.{not}
use Rattle.run_model.specs.declared.answer.Answer.{Answer}
use Rattle.run_model.specs.declared.answer.Answer.TheVariants as answers
use Rattle.run_model.specs.declared.history.Event.{Event}
use Rattle.runtime.specs.declared.answered.Answered.{Answered}
use Rattle.runtime.specs.Receipts.{IsKept}
use Rattle.runtime.specs.Waiting.{sleeps, waits_for}
use Rattle.stepping.specs.Beside.{is_waits}

waits_for_none : (names : List (List ℕ)) → waits_for names [] ≡ false
waits_for_none [] = refl
waits_for_none (name ∷ names) = waits_for_none names

module _ (Over : Type 0) where
  gives_up : (answer : Answer) → (sleeps answer [] ≡ false) ⊎ Over → is_waits answer ≡ true → Over
  gives_up answer (inr over) waits = over
  gives_up (answers.Waits names) (inl awake) waits = absurd (false≢true (sym awake ∙ ap not (waits_for_none names)))
  gives_up (answers.Refused why) (inl awake) waits = absurd (false≢true waits)
  gives_up (answers.Began names) (inl awake) waits = absurd (false≢true waits)
  gives_up (answers.Granted reply) (inl awake) waits = absurd (false≢true waits)
  gives_up (answers.Done count) (inl awake) waits = absurd (false≢true waits)
  gives_up answers.VoteYes (inl awake) waits = absurd (false≢true waits)
  gives_up answers.VoteNo (inl awake) waits = absurd (false≢true waits)

  pub all_give_up : {K E : Type 0} (answered : Result (Answered K) E) → IfOk answered (λ a. (sleeps a.answer [] ≡ false) ⊎ Over)
      → IfOk answered (λ a. is_waits a.answer ≡ true → Over)
  all_give_up (Ok a) given = gives_up a.answer given
  all_give_up (Err e) given = tt

  pub kept_gives_up : {K E F : Type 0} (answered : Result (Answered K) E) (result : Result Answer F) (old new : List (List Event))
      → IsKept answered result old new → IfOk answered (λ a. is_waits a.answer ≡ true → Over) → IfOk result (λ answer. is_waits answer ≡ true → Over)
  kept_gives_up (Ok a) (Ok answer) old new kept given = subst (λ b. is_waits b ≡ true → Over) (sym kept.0) given
  kept_gives_up (Ok a) (Err f) old new kept given = tt
  kept_gives_up (Err e) (Ok answer) old new kept given = absurd kept
  kept_gives_up (Err e) (Err f) old new kept given = tt
