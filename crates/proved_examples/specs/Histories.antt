-- Histories of a guardian and of the registry, which gather or fail; what is stored, held and written.
use Rattle.std.specs.Prelude.{ℕ, List, [], ◌∷◌, map, filter, codes, not, ◌==◌, ◌+◌, if◌then◌else◌}
use Rattle.run_model.specs.declared.step.Step.{Step}
use Rattle.run_model.specs.declared.step.Step.TheVariants.{Top, Call, Commit, Close, Prepare, Decide, Tell}
use Rattle.run_model.specs.declared.answer.Answer.{Answer}
use Rattle.run_model.specs.declared.answer.Answer.TheVariants.{Done, VoteYes}
use Rattle.run_model.specs.declared.history.Event.{Event}
use Rattle.run_model.specs.Openings.{Opening, fresh}
use Rattle.run_model.specs.LocalHistories.{Stamped, takes_registry}
use Rattle.run_model.specs.Gathering.{Histories}
use Rattle.proved_examples.specs.Example.{Example, record_of, action_1, action_1_1, began, gives, granted, get_balance, set_balance}

-- one guardian with a balance of 100
abbrev pub one_guardian : Opening
one_guardian = fresh ((record_of (codes "balance") 100 ∷ []) ∷ [])

-- a call takes 30 from the balance, and everything commits
abbrev pub transfer : Example
transfer =
    (Top 1, began action_1)
    ∷ (Call action_1 1, began action_1_1)
    ∷ (get_balance action_1_1, gives 100)
    ∷ (set_balance action_1_1 70, granted)
    ∷ (Commit action_1_1, Done 0)
    ∷ (Tell 1 action_1_1, Done 1)
    ∷ (Close action_1, Done 0)
    ∷ (Prepare 1 action_1, VoteYes)
    ∷ (Decide action_1, Done 0)
    ∷ (Tell 1 action_1, Done 1)
    ∷ []

abbrev pub event_of : Step × Answer → Event
event_of line = record { step = line.0; answer = line.1 }

-- the lines with stamps from the number on
abbrev pub stamped_from : ℕ → Example → List Stamped
stamped_from n [] = []
stamped_from n (line ∷ lines) = (n, event_of line) ∷ stamped_from (n + 1) lines

-- the histories in which each event stands where its step names it
abbrev pub histories_of : Example → Histories
histories_of example =
    let all = stamped_from 1 example in
    record { registry = filter (λ s. takes_registry s.1.step) all; guardians = all ∷ [] }

-- the registry has lost the event of stamp 5
abbrev pub registry_with_a_gap : Histories
registry_with_a_gap =
    let hs = histories_of transfer in
    record { registry = filter (λ s. not (s.0 == 5)) hs.registry; guardians = hs.guardians }

-- the guardian's history says 99 where 100 was read, at stamp 3
abbrev pub with_reply : Stamped → Stamped
with_reply s = if s.0 == 3 then (s.0, record { step = s.1.step; answer = gives 99 }) else s

abbrev pub invented_reply : Histories
invented_reply =
    let hs = histories_of transfer in
    record { registry = hs.registry; guardians = map (λ h. map (λ s. with_reply s) h) hs.guardians }
