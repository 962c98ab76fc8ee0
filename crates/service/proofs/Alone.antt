-- Steps of a caller that is alone.
use Rattle.std.proofs.Common.{Bool, List, [], ap, refl, sym, true, ◌++◌, ◌∙◌, ◌∷◌, ◌≡◌}
use Rattle.std.proofs.lemmas.Bool.{and_from, and_parts}
use Rattle.std.specs.List.{list_all}
use Rattle.std.specs.Prelude.{IsTrue, if◌then◌else◌}
use Rattle.run_model.specs.declared.answer.Answer.{Answer}
use Rattle.run_model.specs.declared.history.Event.{Event}
use Rattle.run_model.specs.declared.step.Step.{Step}
use Rattle.run_model.specs.Answers.{answer_of}
use Rattle.run_model.specs.Openings.{Opening, opening_in}
use Rattle.run_model.specs.Runs.{history_after, history_from, is_accepted}
use Rattle.stepping.specs.Beside.{OwnRun, SeesOwn}
use Rattle.stepping.proofs.Beside.{alone}
use Rattle.service.specs.Transacting.{AreOwn, GoesByItself}

all_append : (p : Step → Bool) (xs ys : List Step) → list_all p xs ≡ true → list_all p ys ≡ true → list_all p (xs ++ ys) ≡ true
all_append p [] ys h k = k
all_append p (x ∷ xs) ys h k = let q = and_parts _ _ h in and_from _ _ q.0 (all_append p xs ys q.1 k)

from_append : (o : Opening) (xs ys : List Step) (past : List Event) → history_from o past (xs ++ ys) ≡ history_from o (history_from o past xs) ys
from_append o [] ys past = refl
from_append o (s ∷ xs) ys past = from_append o xs ys (history_after s (answer_of o s past) past)

-- the history after an accepted step
after_one : (step : Step) (answer : Answer) (past : List Event) → IsTrue (is_accepted answer)
    → history_after step answer past ≡ record { step = step; answer = answer } ∷ past
after_one step answer past accepted = ap (λ b. if b then record { step = step; answer = answer } ∷ past else past) accepted

-- the steps of events, the oldest first
own_steps : (mine : Step → Bool) (old : OwnRun) (later : List Event) → AreOwn SeesOwn mine old later
    → (made : List Step) × (list_all mine made ≡ true) × (later ++ old.past ≡ history_from (opening_in old.lists) old.past made)
own_steps mine old [] own = ([], refl, refl)
own_steps mine old (e ∷ later) own =
    let (made, all, so_far) = own_steps mine old later own.3 in
    let now : OwnRun = record old { past = later ++ old.past } in
    let is = (alone now e.step e.answer own.2).0 in (
      made ++ e.step ∷ [],
      all_append mine made (e.step ∷ []) all (and_from _ _ own.0 refl),
      sym (after_one e.step e.answer (later ++ old.past) own.1)
          ∙ ap (λ answer. history_after e.step answer (later ++ old.past)) is
          ∙ ap (λ past. history_after e.step (answer_of (opening_in old.lists) e.step past) past) so_far
          ∙ sym (from_append (opening_in old.lists) made (e.step ∷ []) old.past),
    )

pub goes_by_itself : GoesByItself
goes_by_itself mine old new goes =
    let (made, all, is) = own_steps mine old goes.later goes.own in (made, all, goes.past ∙ is)
