use Rattle.std.proofs.Common.{[], ap₂, rules, subst, sym, ◌+◌, ◌≡◌}
use Rattle.run_model.specs.Openings.{opening_in}
use Rattle.volatile_state.specs.Memories.{IsSound}
use Rattle.world_steps.specs.Standings.{standing}
use Rattle.world.proofs.First.{each_more}
use Rattle.world.proofs.beginning.memories.Goals as goal

pub loop-index-preserved : goal.loop-index-preserved
loop-index-preserved c =
    let lists = c.args.opening.now.value in
    let same : c.in_ok-clone.field-0.value ≡ lists = search rules in
    record {
      count = search rules;
      each =
          each_more (λ i m. IsSound m (standing (opening_in lists) [] (i + 1))) c.loop-index.memories.items c.push.new.self.items c.in_ok-new.field-0
          c.in_ok-push.ensures.items c.loop-index.invariant.each
          (subst (λ s. IsSound c.in_ok-new.field-0 s)
          (ap₂ (λ l n. record { opening = opening_in l; number = n + 1; past = [] }) same (sym c.loop-index.invariant.count)) c.in_ok-new.ensures);
    }

pub returns : goal.returns
returns c = record { count = search rules; each = c.loop-index.invariant.each }
