-- Work that is undone: no child of the action has committed.
use Rattle.std.proofs.Common.{Err, Ok, OnErr, Option, Result, [], ap, eq-eqb, eqb-true, false, not, refl, subst, sym, true, ℕ, ◌==◌, ◌∙◌, ◌∷◌, ◌≡◌}
use mathlib.Core.Bool.{Bool-set}
use Rattle.std.proofs.Math.Logic.{∥∥₁_elim}
use Rattle.std.specs.Coded.{Π_prop, →_prop}
use Rattle.std.proofs.lemmas.Bool.{and_from, and_parts, false_from_ne_true, false≢true, not-true, not_from_false}
use Rattle.action_names.specs.Names.{Name, is_prefix, parent_of}
use Rattle.run_model.specs.declared.step.Step.{Step}
use Rattle.run_model.specs.declared.step.Step.TheVariants as steps
use Rattle.run_model.specs.Actions.{is_committed, step_commits}
use Rattle.run_laws.proofs.Growth.{Follows, follows_through, here}
use Rattle.run_laws.proofs.Names.{clash, same_name_true}
use Rattle.service.specs.Transacting.{Begins, CommitsNoChild, Goes, Works, is_below, settles, works_in, works_with}
use Rattle.stepping.specs.Beside.{OwnRun, Sees}
use Rattle.stepping.specs.Stepping.{Leaves}
use Rattle.service.specs.Calling.{IsCall}
use Rattle.service.specs.Opening.{BeganAt}
use Rattle.service.specs.declared.fault.CallFault.{CallFault}
use Rattle.service.specs.declared.place.Place.{Place}
use Rattle.service.proofs.Calls.{begins_by}
use Rattle.service.proofs.Going.{began_within, called_below, goes_grows, goes_one, kept, prefix_self, step_kept, with_each}
use Rattle.service.proofs.Others.{commits_no_other}

-- what is below is in the parent or below
below_parent : (s b : Name) → is_below s b ≡ true → is_prefix s (parent_of b) ≡ true
below_parent [] b h = refl
below_parent (x ∷ s) [] h = absurd (false≢true (and_parts (is_prefix (x ∷ s) []) (not (is_prefix [] (x ∷ s))) h).0)
below_parent (x ∷ s) (y ∷ []) h = absurd (both s (and_parts _ _ h).0 (not-true _ (and_parts _ _ h).1))
  where
    both : (s : Name) → is_prefix (x ∷ s) (y ∷ []) ≡ true → is_prefix (y ∷ []) (x ∷ s) ≡ false → ⊥
    both [] h k = clash (and_from _ _ (eq-eqb y x (sym (eqb-true x y (and_parts _ _ h).0))) refl) k
    both (z ∷ s) h k = false≢true (and_parts _ _ h).1
below_parent (x ∷ s) (y ∷ z ∷ b) h =
    let (down, back) = and_parts _ _ h in
    let (same, more) = and_parts _ _ down in
    let yx : (y == x) ≡ true = eq-eqb y x (sym (eqb-true x y same)) in
    let up : is_prefix (y ∷ z ∷ b) (x ∷ s) ≡ false = not-true _ back in
    and_from _ _ same
    (below_parent s (z ∷ b) (and_from _ _ more (not_from_false _ (false_from_ne_true _ (λ k. clash (and_from _ _ yx k) up)))))

-- work below a child of a commits no child of a
child_commits_none : (a s b : Name) → is_prefix s a ≡ false → parent_of b ≡ a → (step : Step) → works_in s step ≡ true → step_commits step b ≡ false
child_commits_none a s b out under (steps.Commit c) h =
    false_from_ne_true _ (λ p.
    let e = same_name_true c b p in
    clash (subst (λ d. is_prefix s d ≡ true) (ap parent_of e ∙ under) (below_parent s c h)) out)
child_commits_none a s b out under (steps.Decide c) h = absurd (false≢true h)
child_commits_none a s b out under _ h = refl

-- so do top actions that are not above it
pub work_commits_none : {sees : Sees} (a s : Name) (x y : OwnRun) (was is : Option CallFault) → is_prefix s a ≡ false → Works sees s x y was is → CommitsNoChild a x y
work_commits_none a s x y was is out work b under apart =
    kept (λ step. step_commits step b) (works_with work.tops s) x y
    (λ step own.
    with_each (λ k. step_commits k b ≡ false) work.tops s step (child_commits_none a s b out under step)
    (λ t i k. commits_no_other t b (apart t (work.began t i)) step k) own)
    work.goes

pub settles_commits_none : (s b : Name) (step : Step) → settles s step ≡ true → step_commits step b ≡ false
settles_commits_none s b (steps.Commit c) h = absurd (false≢true h)
settles_commits_none s b (steps.Decide c) h = absurd (false≢true h)
settles_commits_none s b _ h = refl

pub settling_commits_none : {sees : Sees} (a s : Name) (x y : OwnRun) → Goes sees (settles s) x y → CommitsNoChild a x y
settling_commits_none a s x y g b under apart = kept (λ step. step_commits step b) (settles s) x y (settles_commits_none s b) g

pub none_committed_then : (a : Name) (x y z : OwnRun) → Follows x.past y.past → Follows y.past z.past → CommitsNoChild a x y → CommitsNoChild a y z
    → CommitsNoChild a x z
none_committed_then a x y z f g m n b under apart =
    n b under (λ t h. apart t (began_within t x y z z f h here))
    ∙ m b under (λ t h. apart t (began_within t x x y z here h g))

pub none_committed_same : (a : Name) (x y : OwnRun) → y ≡ x → CommitsNoChild a x y
none_committed_same a x y e b under apart = ap (λ (w : OwnRun). is_committed b w.past) e

none_committed_prop : (a : Name) (x y : OwnRun) → IsProp (CommitsNoChild a x y)
none_committed_prop a x y = Π_prop (λ b. →_prop (→_prop (Bool-set (is_committed b y.past) (is_committed b x.past))))

-- a subaction that was called, worked and was not committed
pub sub_undone : {M : Type 0} (run : M → OwnRun) (sees : Sees) (leaves : Leaves M) (a s : Name) (g : ℕ) (x y : M) (z w : OwnRun) (sub : Place)
    (was mid : Option CallFault) → IsCall run sees leaves (steps.Call a g) BeganAt x y (Ok sub) → s ≡ sub.action
    → ∥ Works sees sub.action (run y) z was mid ∥₁ → Goes sees (settles s) z w → CommitsNoChild a (run x) w
sub_undone run sees leaves a s g x y z w sub was mid call same works goes =
    ∥∥₁_elim works (none_committed_prop a (run x) w) (λ inside.
    let work : Follows (run y).past z.past = goes_grows (works_with inside.tops sub.action) (run y) z inside.goes in
    none_committed_then a (run x) (run y) w first (follows_through work last) called
    (none_committed_then a (run y) z w work last (work_commits_none a sub.action (run y) z was mid out inside) (settling_commits_none a s z w goes)))
  where
    begins : Begins sees (steps.Call a g) sub.action (run x) (run y)
    begins = begins_by run sees leaves (steps.Call a g) x y sub call

    out : is_prefix sub.action a ≡ false
    out =
        not-true (is_prefix sub.action a)
        (and_parts (is_prefix a sub.action) (not (is_prefix sub.action a)) (called_below (run x) a g sub.action begins.answer)).1

    first : Follows (run x).past (run y).past
    first = goes_grows (works_in a) (run x) (run y) (goes_one {sees = sees} (works_in a) (steps.Call a g) call.gives.answer (run x) (run y) (prefix_self a) call.gives.made.answered call.gives.made.after)

    last : Follows z.past w.past
    last = goes_grows (settles s) z w goes

    called : CommitsNoChild a (run x) (run y)
    called b under apart =
        step_kept (λ step. step_commits step b) (steps.Call a g) call.gives.answer (run x) (run y) refl call.gives.made.after

-- what is so anyway is so of an error
pub if_error : {T E : Type 0} (r : Result T E) (So : Type 0) → So → OnErr r So
if_error (Ok x) So so = tt
if_error (Err e) So so = so
