-- Histories that are none are refused, by computation.
use Rattle.std.proofs.Common.{List, [], ◌∷◌, pos, refl, ℕ, ◌≡◌}
use Rattle.values.specs.declared.value.Value.TheVariants.{Int}
use Rattle.run_model.specs.declared.answer.Answer.TheVariants.{Granted, VoteNo, VoteYes}
use Rattle.run_model.specs.Answers.{answer_of}
use Rattle.atomic_types.specs.declared.op.Reply.TheVariants as reply
use Rattle.run_model.specs.Openings.{Opening}
use Rattle.run_model.specs.LocalReadings.{LocalEvent}
use Rattle.local_laws.specs.Owed.{IsLocalRun, IsOwed, begins, goes_on}
use Rattle.run_laws.specs.NoRuns.{two_records}
use Rattle.local_laws.proofs.Owing.{newest_owed}
use Rattle.local_laws.specs.NoLocalRuns.{ListsNotCarried, ReplyIgnoresTelling, VoteIgnoresCrash, aborted_write, histories_of, lost_write}

-- each event has what it should, by recursion, so that it is computed
abbrev AreOwed : Opening → ℕ → List LocalEvent → Type 0
AreOwed opening g [] = Unit {0}
AreOwed opening g (c ∷ here) = IsOwed opening g c here c.event.step × (c.carried.restored ≡ []) × AreOwed opening g here

from_owed : (opening : Opening) (g : ℕ) (here : List LocalEvent) → AreOwed opening g here → IsLocalRun opening g [] here
from_owed opening g [] owed = begins
from_owed opening g (c ∷ here) owed = goes_on c owed.0 owed.1 (from_owed opening g here owed.2)

-- it should have given 0
pub reply_ignores_telling : ReplyIgnoresTelling
reply_ignores_telling = (
  from_owed two_records 1 (histories_of aborted_write 1) (refl, refl, (tt, refl, ((refl, refl), refl, (tt, refl, (tt, refl, tt))))),
  λ r. let e : Granted (reply.Gives (Int (pos 5))) ≡ Granted (reply.Gives (Int (pos 0))) = (newest_owed _ _ _ _ r).1 in cc,
)

-- it should have been a vote no
pub vote_ignores_crash : VoteIgnoresCrash
vote_ignores_crash = (
  from_owed two_records 2 (histories_of lost_write 2) (tt, refl, (tt, refl, (tt, refl, ((refl, refl), refl, (tt, refl, tt))))),
  λ r. let e : VoteYes ≡ VoteNo = newest_owed _ _ _ _ r refl in cc,
)

-- what the call carried makes the difference
pub lists_not_carried : ListsNotCarried
unfolding answer_of
lists_not_carried = ((refl, refl, (refl, refl, (refl, refl, (refl, refl, (refl, refl, (refl, refl, tt)))))), refl, refl, refl)
