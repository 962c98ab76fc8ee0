use Rattle.std.proofs.Common.{IfOk, Ok, OnOk, map, ◌≡◌}
use Rattle.activities.specs.declared.flow.Flow.TheVariants.{Ended}
use Rattle.activities.specs.Acting.{acting}
use Rattle.activities.specs.Apart.{GoOn, all_gone, arms_taken_in}
use Rattle.activities.proofs.apart.flow_of.Given as goal

abbrev pub invariant-loop-arm : goal.invariant-loop-arm
invariant-loop-arm l = record {
  name : l.action.name ≡ l.fn.action.name;
  home : l.action.home ≡ l.fn.action.home;
  flow : IfOk l.flow (λ flow. all_gone (Ok flow) (map (λ arm. arm.ended) l.arm-iterator.rest.items) ≡ all_gone (Ok Ended) (map (λ arm. arm.ended) l.fn.arms.items));
  goes_on : (last : _) → GoOn l.flow (map (λ arm. arm.ended) l.arm-iterator.rest.items) last → GoOn (Ok Ended) (map (λ arm. arm.ended) l.fn.arms.items) last;
  taken : OnOk l.flow (arms_taken_in (acting l.action) l.arm-iterator.rest.items ≡ arms_taken_in (acting l.fn.action) l.fn.arms.items);
}
