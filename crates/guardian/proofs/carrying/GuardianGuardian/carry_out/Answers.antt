use Rattle.std.proofs.Common.{Err, None, Ok, Result, Some, ap, is_ok, refl, subst, ℕ}
use Rattle.std.proofs.lemmas.Bool.{true≢false}
use Rattle.layer_contracts.specs.Stores.{CountsFailure, LeavesStore}
use Rattle.layer_contracts.specs.declared.guardian.Fault.{Fault}
use Rattle.guardian.proofs.Stores.{made_of}
use Rattle.guardian.proofs.Whole.{fits_within, inside, plan_within, planned_within, recorded_at, whole_next, whole_still}
use Rattle.guardian.proofs.carrying.GuardianGuardian.carry_out.Goals as goal

-- an answer without its stamp
abbrev as_written : Result ℕ Fault → Result (Unit {0}) Fault
as_written (Ok n) = Ok tt
as_written (Err fault) = Err fault

pub write-requires : goal.write-requires
write-requires g c = planned_within g.S.Stable.seen c.args.event.now c.self.view_is c.requires.planned

pub keep-requires-clause-fits : goal.keep-requires-clause-fits
keep-requires-clause-fits g c = fits_within c.self.view_is c.requires.fits

pub keep-requires-clause-planned : goal.keep-requires-clause-planned
keep-requires-clause-planned g c =
    let planned = planned_within g.S.Stable.seen c.args.event.now c.self.view_is c.requires.planned in (
      planned.0,
      planned.1,
      planned.2.memory,
      planned.3,
      planned.4,
      recorded_at g.S.Stable.seen planned.0 planned.1 c.args.event.now c.self.inside.store c.write.new.store planned.2.store planned.4
          (c.in_default.ensures.leaves planned.0 planned.1 planned.2 planned.3 planned.4),
    )

pub invariant_of-self : goal.invariant_of-self
invariant_of-self g c =
    let planned = planned_within g.S.Stable.seen c.args.event.now c.self.view_is c.requires.planned in (
      _,
      whole_still g.S.Stable.seen c.self.inside.memory c.self.inside.store planned.0 planned.0 planned.1 c.write.new.store c.in-Err.fault planned.2
          (c.in-Err.ensures.leaves planned.0 planned.1 planned.2 planned.3 planned.4),
    )

pub invariant_of-self-2 : goal.invariant_of-self-2
invariant_of-self-2 g c =
    let m = c.self.inside.memory in
    let s = c.self.inside.store in
    let seen = g.S.Stable.seen in
    let planned = planned_within seen c.args.event.now c.self.view_is c.requires.planned in
    let leaves = c.in_default.ensures.leaves planned.0 planned.1 planned.2 planned.3 planned.4 in (
      _,
      whole_next seen m s c.draw-drawn.result planned.0 planned.1 c.keep.new.memory c.write.new.store planned.2 planned.3.next
          (c.keep.ensures planned.0 planned.1 planned.2.memory planned.3 planned.4
          (recorded_at seen planned.0 planned.1 c.args.event.now s c.write.new.store planned.2.store planned.4 leaves)) leaves,
    )

pub returns-in-Err : goal.returns-in-Err
returns-in-Err g c =
    let m = c.self.inside.memory in
    let s = c.self.inside.store in
    let seen = g.S.Stable.seen in
    let planned = planned_within seen c.args.event.now c.self.view_is c.requires.planned in
    let leaves = c.in-Err.ensures.leaves planned.0 planned.1 planned.2 planned.3 planned.4 in
    record {
      ok = tt;
      undrawn = refl;
      kept = tt;
      err = λ h at. whole_still seen m s planned.0 h planned.1 c.write.new.store c.in-Err.fault (inside seen c.self.view_is at) leaves;
      store = λ h news at of same. subst (λ k. LeavesStore h news (seen k.store) (seen c.write.new.store) (Some c.in-Err.fault)) c.self.view_is
          (c.in-Err.ensures.leaves h news (inside seen c.self.view_is at) (plan_within c.self.view_is h news of) same);
      cause = λ failed. subst (λ k. CountsFailure (seen k.store) (seen c.write.new.store)) c.self.view_is (c.in-Err.ensures.cause (ap as_written failed));
    }

pub keep-requires-clause-found : goal.keep-requires-clause-found
keep-requires-clause-found g c =
    let planned = planned_within g.S.Stable.seen c.args.event.now c.self.view_is c.requires.planned in
    (made_of planned.0 planned.1 (g.S.Stable.seen c.self.inside.store) (g.S.Stable.seen c.write.new.store) planned.2.store
    (c.in_default.ensures.leaves planned.0 planned.1 planned.2 planned.3 planned.4)).found

pub returns : goal.returns
returns g c =
    let m = c.self.inside.memory in
    let s = c.self.inside.store in
    let seen = g.S.Stable.seen in
    record {
      ok = c.draw-drawn.ensures;
      undrawn = tt;
      kept = λ h news at of same.
          let whole = inside seen c.self.view_is at in
          let planned = plan_within c.self.view_is h news of in
          let leaves = c.in_default.ensures.leaves h news whole planned same in
          whole_next seen m s c.draw-drawn.result h news c.keep.new.memory c.write.new.store whole planned.next
          (c.keep.ensures h news whole.memory planned same (recorded_at seen h news c.args.event.now s c.write.new.store whole.store same leaves)) leaves;
      err = tt;
      store = λ h news at of same. subst (λ k. LeavesStore h news (seen k.store) (seen c.write.new.store) None) c.self.view_is
          (c.in_default.ensures.leaves h news (inside seen c.self.view_is at) (plan_within c.self.view_is h news of) same);
      cause = λ failed. absurd (true≢false (ap (λ r. is_ok r) failed));
    }
