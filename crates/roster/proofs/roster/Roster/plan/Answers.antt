use Rattle.std.proofs.Common.{[], ap, get_or, length, subst, sym, true, ℕ, ◌∙◌, ◌≡◌}
use Rattle.action_names.specs.Deps.{Deps}
use Rattle.action_names.specs.Names.{IsName, Name, has_name}
use Rattle.layer_contracts.specs.Messages.{sent_by}
use Rattle.places.proofs.Walking.{more_none}
use Rattle.run_model.proofs.Events.{step_is}
use Rattle.run_model.specs.Actions.{home_in, maker_in, names_begun}
use Rattle.roster.proofs.Idle.{idle_fits, idle_made}
use Rattle.roster.proofs.Planning.{are_born, home_made, roster_kept}
use Rattle.roster.proofs.Sent.{commits_old, names_have}
use Rattle.roster.specs.Entries.{CanCount, CommitsOld, FitsBegun, IsMerged}
use Rattle.roster.specs.Steps.{closed_in, ended_in, turn_in}
use Rattle.roster.specs.Tables.{home_at, placed, table}
use Rattle.roster.proofs.roster.Roster.plan.Goals as goal

pub returns-then-concerns_none-clause-more : goal.returns-then-concerns_none-clause-more
returns-then-concerns_none-clause-more g c = more_none c.args.places.now

pub returns-then-concerns_none-clause-fits : goal.returns-then-concerns_none-clause-fits
returns-then-concerns_none-clause-fits g c = idle_fits c.args.self.now

pub returns-then-concerns_none-clause-planned : goal.returns-then-concerns_none-clause-planned
returns-then-concerns_none-clause-planned g c = λ f n d here stands same agrees.
    idle_made (table c.args.places.now c.args.self.now) c.args.event.now (sent_by f c.args.event.now c.args.sending)
    (c.concerns_none.ensures c.if-concerns_none.true)

pub returns-in_err-plan_begun-clause-more : goal.returns-in_err-plan_begun-clause-more
returns-in_err-plan_begun-clause-more g c = c.plan_begun.ensures.more

pub returns-in_err-plan_begun-clause-same : goal.returns-in_err-plan_begun-clause-same
returns-in_err-plan_begun-clause-same g c = λ n here is.
    roster_kept n here c.args.places.now c.plan_begun.new.places c.args.self.now c.plan_begun.new.self c.plan_begun.ensures.more c.plan_begun.ensures.kept is

pub returns-in_err-plan_begun-clause-crashes : goal.returns-in_err-plan_begun-clause-crashes
returns-in_err-plan_begun-clause-crashes g c = c.plan_begun.ensures.kept.crashes

pub returns-in_err-entry-clause-more : goal.returns-in_err-entry-clause-more
returns-in_err-entry-clause-more g c = c.plan_begun.ensures.more

pub returns-in_err-entry-clause-same : goal.returns-in_err-entry-clause-same
returns-in_err-entry-clause-same g c = λ n here is.
    roster_kept n here c.args.places.now c.plan_begun.new.places c.args.self.now c.plan_begun.new.self c.plan_begun.ensures.more c.plan_begun.ensures.kept is

pub returns-in_err-entry-clause-crashes : goal.returns-in_err-entry-clause-crashes
returns-in_err-entry-clause-crashes g c = c.plan_begun.ensures.kept.crashes

pub returns-in_err-plan_count-clause-more : goal.returns-in_err-plan_count-clause-more
returns-in_err-plan_count-clause-more g c = c.plan_begun.ensures.more

pub returns-in_err-plan_count-clause-same : goal.returns-in_err-plan_count-clause-same
returns-in_err-plan_count-clause-same g c = λ n here is.
    roster_kept n here c.args.places.now c.plan_begun.new.places c.args.self.now c.plan_begun.new.self c.plan_begun.ensures.more c.plan_begun.ensures.kept is

pub returns-in_err-plan_count-clause-crashes : goal.returns-in_err-plan_count-clause-crashes
returns-in_err-plan_count-clause-crashes g c = c.plan_begun.ensures.kept.crashes

pub returns-clause-more : goal.returns-clause-more
returns-clause-more g c = c.plan_begun.ensures.more

pub returns-clause-same : goal.returns-clause-same
returns-clause-same g c = λ n here is.
    roster_kept n here c.args.places.now c.plan_begun.new.places c.args.self.now c.plan_begun.new.self c.plan_begun.ensures.more c.plan_begun.ensures.kept is

pub returns-clause-crashes : goal.returns-clause-crashes
returns-clause-crashes g c = c.plan_begun.ensures.kept.crashes

pub returns-clause-fits : goal.returns-clause-fits
returns-clause-fits g c =
    let rows = c.plan_begun.new.self.rows.items in
    let begun = c.plan_begun.new.begun in
    record {
      begun = subst (FitsBegun c.plan_begun.new.self begun.items) begun.ok.0 c.in_ok-plan_begun.ensures.fits;
      count = subst (λ at. CanCount rows at (length begun.items)) (sym c.birth_in-entry.ensures.maker)
          (subst (CanCount rows c.concerned_in-ended.result.maker) (c.len.ensures ∙ begun.ok.0) c.in_ok-plan_count.ensures);
    }

pub returns-clause-planned : goal.returns-clause-planned
returns-clause-planned g c = λ f n d here stands same agrees.
    let names = c.plan_begun.new.places in
    let after = table names c.plan_begun.new.self in
    let e = c.args.event.now in
    let step = e.step in
    let came = sent_by f e c.args.sending in
    let made : c.event.inside.step.now ≡ step = sym (step_is c.event.view_is) in
    let birth = c.birth_in-entry.result in
    let maker : birth.maker ≡ placed after (maker_in step) =
    c.birth_in-entry.ensures.maker ∙ c.concerned_in-ended.ensures.maker ∙ ap (λ s. placed after (maker_in s)) made in
    let home : birth.home ≡ home_in step (λ a. home_at after a) =
    c.birth_in-entry.ensures.home names
    ∙ home_made after c.event.inside.step.now c.concerned_in-ended.result.maker c.concerned_in-ended.ensures.maker
    ∙ ap (λ s. home_in s (λ a. home_at after a)) made in
    let are = c.in_ok-plan_begun.ensures.begun f stands in
    let named : (a : Name) → has_name (names_begun e.answer) a ≡ true → IsName a =
    λ a has. names_have (λ (x : ℕ × Deps). get_or names x.0 []) c.plan_begun.new.begun.items a are.named (ap (λ ns. has_name ns a) are.names ∙ has) in
    let old : CommitsOld e = commits_old e n d here same agrees named in
    record {
      ended = c.concerned_in-ended.ensures.ended ∙ ap (λ s. placed after (ended_in s)) made;
      closed = c.concerned_in-ended.ensures.closed ∙ ap (λ s. placed after (closed_in s)) made;
      merged = subst (λ s. IsMerged after s came c.in_ok-entry.field-0) made
          (c.in_ok-entry.ensures f e stands (step_is c.event.view_is) old);
      maker = maker;
      begun = are_born after e came birth home (c.birth_in-entry.ensures.life names) maker c.plan_begun.new.begun.items
          are;
      placed = c.in_ok-plan_begun.ensures.placed;
      turn = c.turn_in-entry.ensures ∙ ap turn_in made;
    }
