-- Work that ran once in an action.
use Rattle.std.proofs.Common.{Err, Ok, Result, inr, refl, subst, ℕ, ◌≡◌}
use Rattle.std.specs.Result.{IsErrAnd}
use Rattle.action_names.specs.Names.{Name}
use Rattle.run_model.specs.declared.step.Step.{Step}
use Rattle.run_model.specs.declared.step.Step.TheVariants as steps
use Rattle.stepping.specs.Beside.{OwnRun, Sees}
use Rattle.stepping.specs.Stepping.{Leaves}
use Rattle.service.specs.Calling.{ComesToNothing, IsCall}
use Rattle.service.specs.Opening.{BeganAt}
use Rattle.service.specs.Transacting.{Goes, ends_top, finishes}
use Rattle.service.specs.Working.{CallsOnce, Does, IsOutcomeOf, IsResultOf, RunsIn, RunsOnce}
use Rattle.service.specs.declared.fault.CallFault.{CallFault}
use Rattle.service.specs.declared.outcome.Outcome.{Outcome}
use Rattle.service.specs.declared.place.Place.{Place}
use Rattle.service.proofs.Calls.{begins_by}

-- an error that comes of what kept the subaction from its commit
pub failed_of : {T E : Type 0} (comes : CallFault → E → Type 0) (stopped : CallFault → Type 0) (x : T) (result : Result T E) (fault : CallFault)
    → IsErrAnd result (comes fault) → stopped fault → IsResultOf comes stopped (Ok x) result
failed_of comes stopped x (Ok y) fault h why = absurd h
failed_of comes stopped x (Err e) fault h why = inr (refl, fault, h, why)

module _ {M : Type 0} (run : M → OwnRun) (sees : Sees) (leaves : Leaves M) {J T E : Type 0} (does : Does J T E) where
  -- in a top action that began
  pub ran_in : (first : Step) (old begun : M) (new : OwnRun) (at : Place) (before after : J) (outcome : Outcome T E)
      → IsCall run sees leaves first BeganAt old begun (Ok at)
      → ((done : Result T E) × IsOutcomeOf done outcome × RunsOnce sees does (ends_top at.action) (run begun) new before after done)
      → (done : Result T E) × IsOutcomeOf done outcome × RunsIn sees does first ends_top (run old) new before after done
  ran_in first old begun new at before after outcome call (done, of, runs) = (
    done,
    of,
    record { action = at.action; begun = run begun; begins = begins_by run sees leaves first old begun at call; runs = runs },
  )

  -- in a subaction, of which the call gave this
  pub sub_ran : (comes : CallFault → E → Type 0) (a : Name) (g : ℕ) (old begun : M) (worked new : OwnRun) (sub : Place) (s : Name) (before after : J)
      (gave done result : Result T E) → IsCall run sees leaves (steps.Call a g) BeganAt old begun (Ok sub) → s ≡ sub.action → gave ≡ done
      → does before (run begun) gave after worked → Goes sees (finishes s) worked new
      → IsResultOf comes (ComesToNothing sees worked (steps.Commit s)) done result → CallsOnce sees does comes a g (run old) new before after result
  sub_ran comes a g old begun worked new sub s before after gave done result call same is ran goes of =
      inr (
        done,
        record {
          action = sub.action;
          begun = run begun;
          begins = begins_by run sees leaves (steps.Call a g) old begun sub call;
          runs = record {
            worked = worked;
            ran = subst (λ r. does before (run begun) r after worked) is ran;
            ended = subst (λ n. Goes sees (finishes n) worked new) same goes;
          };
        },
        subst (λ n. IsResultOf comes (ComesToNothing sees worked (steps.Commit n)) done result) same of,
      )
