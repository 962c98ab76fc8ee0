-- Two arms that ran at once and ended, as the action's transaction sees them.
use Rattle.std.proofs.Common.{List, None, Option, Result, Some, subst, sym, true, ℕ, ◌∙◌, ◌≡◌}
use mathlib.Core.Bool.{Bool-set}
use Rattle.std.proofs.Math.Logic.{∥∥₁_elim, ∥∥₁_map, ∥∥₁_prop}
use Rattle.std.specs.Option.{option_or}
use Rattle.std.specs.Result.{is_ok}
use Rattle.action_names.specs.Names.{Name}
use Rattle.run_model.specs.declared.history.Event.{Event}
use Rattle.run_model.specs.Actions.{is_committed}
use Rattle.stepping.specs.Beside.{OwnRun, Sees, started}
use Rattle.service.specs.Arms.{AreJoined}
use Rattle.service.specs.Together.{BeginArms, EndsArm, RanTogether}
use Rattle.service.specs.Transacting.{EndedAndTold, Works, began_at}
use Rattle.service.specs.Working.{Does}
use Rattle.service.specs.declared.fault.CallFault.{CallFault}
use Rattle.service.specs.declared.place.Place.{Place}
use Rattle.service.proofs.BothArms.{AreSiblings, begun_arms, siblings, works_of_arms}
use Rattle.service.proofs.EndedArms.{above_not, arm_committed, arm_ran, arm_told, arm_works, commits_no_other, commits_no_sibling, commits_not_beside, commits_not_self, one_begun, one_says, other_begun, other_says, some_same}

module _ {J T E K U F : Type 0} {sees : Sees} {does : Does J T E} {also_does : Does K U F} {comes : CallFault → E → Type 0}
    {also_comes : CallFault → F → Type 0} (a : Name) (x begun : OwnRun) (since : List (List Event)) (one other new : OwnRun) (s_at s_now t_at t_now : Place) (before after : J)
    (also_before also_after : K) (s_kept : Option (Result T E)) (t_kept : Option (Result U F))
    (p : EndsArm sees does comes s_at s_now (started begun since) one before after s_kept)
    (q : EndsArm sees also_does also_comes t_at t_now (started begun since) other also_before also_after t_kept)
    (j : ∥ AreJoined sees begun since one other new ∥₁)
    (begins : BeginArms sees a s_at.action t_at.action x begun) where
  abbrev start : OwnRun
  start = started begun since

  abbrev s : Name
  s = s_at.action

  abbrev t : Name
  t = t_at.action

  abbrev kin : AreSiblings a s t
  kin = siblings a s t x begun begins

  pub both_ran : RanTogether sees does also_does comes also_comes a x new before after also_before also_after p.result q.result
  both_ran =
      let s_begun = one_begun a s t x begun begins in
      let t_begun = other_begun a s t x begun begins in
      record {
        first = s;
        second = t;
        begun = begun;
        begins = begins;
        since = since;
        first_run = one;
        second_run = other;
        first_ran = arm_ran s_at s_now start one before after s_kept p;
        second_ran = arm_ran t_at t_now start other also_before also_after t_kept q;
        joined = j;
        first_says =
            ∥∥₁_elim j (Bool-set (is_committed s new.past) (is_ok p.result)) (λ k.
            one_says a s t x begun begins since one other new k p.result (arm_committed s_at s_now start one before after s_kept p)
            (commits_not_self s_at s_now start one before after s_kept p s_begun)
            (commits_not_beside t_at t_now start other also_before also_after t_kept q s kin.other_apart s_begun));
        second_says =
            ∥∥₁_elim j (Bool-set (is_committed t new.past) (is_ok q.result)) (λ k.
            other_says a s t x begun begins since one other new k q.result (arm_committed t_at t_now start other also_before also_after t_kept q)
            (commits_not_self t_at t_now start other also_before also_after t_kept q t_begun)
            (commits_not_beside s_at s_now start one before after s_kept p t kin.one_apart t_begun));
        no_other = λ b under not_s not_t above.
            ∥∥₁_elim j (Bool-set (is_committed b new.past) (is_committed b x.past)) (λ k.
            commits_no_other a s t x begun begins since one other new k
            (λ c is differs apart.
            commits_no_sibling s_at s_now start one before after s_kept p a c (above_not a s t x begun begins s kin.one_below) is differs apart)
            (λ c is differs apart.
            commits_no_sibling t_at t_now start other also_before also_after t_kept q a c (above_not a s t x begun begins t kin.other_below) is differs apart)
            b under not_s not_t above);
      }

  -- with what each is known to give
  pub both_gave : (gave : Result T E) (also_gave : Result U F) → s_kept ≡ Some gave → t_kept ≡ Some also_gave
      → RanTogether sees does also_does comes also_comes a x new before after also_before also_after gave also_gave
  both_gave gave also_gave is also_is =
      subst (λ r. RanTogether sees does also_does comes also_comes a x new before after also_before also_after gave r)
      (some_same (sym q.is ∙ also_is))
      (subst (λ r. RanTogether sees does also_does comes also_comes a x new before after also_before also_after r q.result)
      (some_same (sym p.is ∙ is)) both_ran)

  pub both_worked : (home : ℕ) (was : Option CallFault) → began_at home a x.past ≡ true → s_at.home ≡ home → t_at.home ≡ home → s_at.left ≡ None
      → t_at.left ≡ None → ∥ Works sees a x new was (option_or (option_or was s_now.left) t_now.left) ∥₁
  both_worked home was there s_home t_home s_none t_none =
      ∥∥₁_elim j ∥∥₁_prop (λ k.
      ∥∥₁_elim (arm_works s_at s_now start one before after s_kept p a kin.one_below s_none) ∥∥₁_prop (λ u.
      ∥∥₁_map (arm_works t_at t_now start other also_before also_after t_kept q a kin.other_below t_none) (λ v.
      works_of_arms a begun since one other new k (begun_arms a s t x begun begins) s_now.left t_now.left u v x s t home was begins there
      (λ h. subst (λ g. EndedAndTold s g one) s_home (arm_told s_at s_now start one before after s_kept p h))
      (λ h. subst (λ g. EndedAndTold t g other) t_home (arm_told t_at t_now start other also_before also_after t_kept q h)))))
