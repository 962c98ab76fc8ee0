-- Two arms ran, each in a session of its own.
use Rattle.std.proofs.Common.{List, None, Option, Some, ap, subst, sym, ◌++◌, ◌∙◌, ◌≡◌}
use Rattle.std.proofs.Math.Logic.{∥∥₁_elim, ∥∥₁_map, ∥∥₁_prop}
use Rattle.std.proofs.lemmas.List.{append_assoc}
use Rattle.run_model.specs.declared.history.Event.{Event}
use Rattle.run_model.specs.Openings.{Opening, OpeningLists, opening_in}
use Rattle.stepping.specs.Beside.{OwnRun, started}
use Rattle.service.specs.Arms.{AreJoined, any_step}
use Rattle.service.specs.Transacting.{Goes}
use Rattle.sessions.specs.Sessions.{AreApart, AreInOrder, GoesOnFromBoth, LooksOn, run_of}
use Rattle.sessions.proofs.Apart.{apart_in, apart_unseen}
use Rattle.sessions.proofs.Beginning.{order_same, seen_further}
use Rattle.sessions.proofs.Joining.{order_joined, runs_joined}
use Rattle.sessions.proofs.Own.{behind_further}

-- A session and those of two arms, each of which went on from what the session has.
module _ (opening : Opening) (lists lists_one lists_other : OpeningLists) (before own before_one one before_other other : List (List Event))
    (last last_one last_other arms seen last_then : Option (List Event)) (named : opening_in lists ≡ opening)
    (mine : ∥ AreInOrder opening before own last ∥₁) (first : ∥ AreInOrder opening before_one one last_one ∥₁)
    (second : ∥ AreInOrder opening before_other other last_other ∥₁) (with_one : GoesOnFromBoth opening last last_one arms)
    (with_both : GoesOnFromBoth opening arms last_other seen) (looks : LooksOn opening ((own ++ one) ++ other) seen last_then)
    (goes : ∥ Goes (λ own seen. Unit {0}) any_step (started (run_of lists before own last) (before ++ own)) (run_of lists_one before_one one last_one) ∥₁)
    (goes_too : ∥ Goes (λ own seen. Unit {0}) any_step (started (run_of lists before own last) (before ++ own)) (run_of lists_other before_other other last_other) ∥₁)
  where
    apart : AreApart one other
    apart = go seen last_then with_both looks
      where
        go : (s t : Option (List Event)) → GoesOnFromBoth opening arms last_other s → LooksOn opening ((own ++ one) ++ other) s t → AreApart one other
        go None t both none = apart_unseen opening before_one one other last_one (behind_further with_one.second both.first) first
        go (Some past) None both never = absurd never
        go (Some past) (Some now) both look = apart_in now own one other look.2

    with_now : GoesOnFromBoth opening arms last_other last_then
    with_now = go seen last_then with_both looks
      where
        go : (s t : Option (List Event)) → GoesOnFromBoth opening arms last_other s → LooksOn opening ((own ++ one) ++ other) s t
            → GoesOnFromBoth opening arms last_other t
        go None t both none = subst (GoesOnFromBoth opening arms last_other) (sym none) both
        go (Some past) None both never = absurd never
        go (Some past) (Some now) both look = seen_further opening arms last_other past now look.1 look.0 both

    module _ (left : OpeningLists) (since receipts : List (List Event)) (now : Option (List Event)) (still : left ≡ lists) (same : since ≡ before)
        (kept : receipts ≡ (own ++ one) ++ other) (is : now ≡ last_then) where
      all : receipts ≡ own ++ (one ++ other)
      all = kept ∙ append_assoc own one other

      -- the receipts of all are in order
      pub order_then : ∥ AreInOrder opening since receipts now ∥₁
      order_then =
          order_same opening before (own ++ (one ++ other)) since receipts last_then now same all is
          (∥∥₁_elim mine ∥∥₁_prop (λ m. ∥∥₁_elim first ∥∥₁_prop (λ f. ∥∥₁_elim second ∥∥₁_prop (λ s. ∥∥₁_elim goes ∥∥₁_prop (λ g. ∥∥₁_map goes_too (λ h.
          order_joined opening before own before_one one before_other other last last_one last_other arms last_then apart m f s g.since h.since with_one with_now))))))

      -- and the runs of the arms are joined
      pub joined_then : ∥ AreJoined (λ own seen. Unit {0}) (run_of lists before own last) (before ++ own) (run_of lists_one before_one one last_one)
          (run_of lists_other before_other other last_other) (run_of left since receipts now) ∥₁
      joined_then =
          subst (λ (o : OwnRun). ∥ AreJoined (λ own seen. Unit {0}) (run_of lists before own last) (before ++ own) (run_of lists_one before_one one last_one)
          (run_of lists_other before_other other last_other) o ∥₁) (sym named_so)
          (∥∥₁_elim mine ∥∥₁_prop (λ m. ∥∥₁_elim first ∥∥₁_prop (λ f. ∥∥₁_elim second ∥∥₁_prop (λ s. ∥∥₁_elim goes ∥∥₁_prop (λ g. ∥∥₁_map goes_too (λ h.
          runs_joined opening before own before_one one before_other other last last_one last_other arms last_then apart m f s g.since h.since with_one with_now
          lists lists_one lists_other named g h))))))
        where
          named_so : run_of left since receipts now ≡ run_of lists before (own ++ (one ++ other)) last_then
          named_so =
              ap (λ l. run_of l since receipts now) still ∙ ap (λ l. run_of lists l receipts now) same ∙ ap (λ l. run_of lists before l now) all
              ∙ ap (run_of lists before (own ++ (one ++ other))) is
