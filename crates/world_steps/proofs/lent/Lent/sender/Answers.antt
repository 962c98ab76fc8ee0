use Rattle.std.proofs.Common.{Bool, Some, ap, sym, ℕ, ◌∙◌, ◌≡◌}
use Rattle.action_names.specs.Names.{Name, parent_of}
use Rattle.run_model.specs.Actions.{home_of, is_down}
use Rattle.run_model.specs.LocalHistories.{events_there}
use Rattle.run_model.specs.LocalReadings.{events_here}
use Rattle.layer_contracts.specs.Guardians.{lent_two}
use Rattle.world_steps.specs.Lending.{said_two}
use Rattle.world_steps.specs.Naming.{first_named, second_named}
use Rattle.world_steps.proofs.Saying.{two_say}
use Rattle.world_steps.proofs.Senders.{commit_sends, sends_no_down, sends_no_other}
use Rattle.world_steps.proofs.lent.Lent.sender.Goals as goal
use Rattle.world_steps.proofs.lent.Lent.sender.Goals.{else-named-at-via-then-named-at+else-not-is_down, else-named-at-via-else-named-at}

pub returns-then-not-is_down : goal.returns-then-not-is_down
returns-then-not-is_down g c = λ f a b lent.
    let home : Name → ℕ = λ n. home_of n (events_there f.registry) in
    let down : ℕ → Bool = λ h. is_down h (events_here (lent_two a b h)) in
    let parent : home (parent_of c.in-Commit.field-0) ≡ c.args.named.second =
    sym (c.requires.second f lent.forest ∙ ap (λ s. second_named s (events_there f.registry)) c.in-Commit.is) in
    ap (λ h. Some h) (c.requires.first f lent.forest ∙ ap (λ s. first_named s (events_there f.registry)) c.in-Commit.is)
    ∙ commit_sends home down c.args.step.now c.in-Commit.field-0 c.args.at c.in-Commit.is (parent ∙ c.if-named-at.true)
    (sym (c.is_down.ensures (said_two f a b) (two_say _ _ _ f a b lent)) ∙ c.if-not-is_down.true)

pub returns-else-named-at : goal.returns-else-named-at
returns-else-named-at g c = λ f a b lent.
    let home : Name → ℕ = λ n. home_of n (events_there f.registry) in
    let down : ℕ → Bool = λ h. is_down h (events_here (lent_two a b h)) in
    let parent : home (parent_of c.in-Commit.field-0) ≡ c.args.named.second =
    sym (c.requires.second f lent.forest ∙ ap (λ s. second_named s (events_there f.registry)) c.in-Commit.is) in
    elim c.else-named-at.branch [
      | else-named-at-via-then-named-at+else-not-is_down w ↦
          sends_no_down home down c.args.step.now c.in-Commit.field-0 c.args.at c.in-Commit.is (parent ∙ w.if-named-at.true)
          (sym (w.is_down.ensures (said_two f a b) (two_say _ _ _ f a b lent)) ∙ w.if-not-is_down.false)
      | else-named-at-via-else-named-at w ↦
          sends_no_other home down c.args.step.now c.in-Commit.field-0 c.args.at c.in-Commit.is (λ e. w.if-named-at.false (sym parent ∙ e))
    ]
