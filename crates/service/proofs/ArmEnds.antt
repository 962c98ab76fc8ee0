-- How an arm ends, by what came of its work.
use Rattle.std.proofs.Common.{Err, List, Ok, Option, Result, ap, inl, refl, subst, sym, true, ℕ, ◌+◌, ◌≡◌, ◌≤◌}
use Rattle.std.proofs.Math.Logic.{∥∥₁_map}
use Rattle.std.proofs.lemmas.Bool.{false≢true}
use Rattle.std.specs.Prelude.{OnOk, vec_capacity, vec_len}
use Rattle.std.specs.Result.{IsErrAnd, is_ok}
use Rattle.std.specs.declared.vec.Vec.{Vec}
use Rattle.action_names.specs.Names.{Name}
use Rattle.run_model.specs.declared.step.Step.TheVariants as steps
use Rattle.run_model.specs.Actions.{is_committed}
use Rattle.stepping.specs.Beside.{OwnRun, Sees}
use Rattle.service.specs.Arms.{any_step}
use Rattle.service.specs.Calling.{ComesToNothing}
use Rattle.service.specs.Together.{HasRoomAgain, IsEndOf}
use Rattle.service.specs.Transacting.{EndedAndTold, Goes, Includes, Settles, Works, finishes, settles, works_with}
use Rattle.service.specs.declared.fault.CallFault.{CallFault}
use Rattle.service.specs.declared.place.Place.{Place}
use Rattle.service.proofs.Going.{goes_then, goes_wider, settles_finishes, settles_wider}
use Rattle.service.proofs.Undone.{if_error}
use Rattle.service.proofs.Working.{failed_of}

-- an error gives no value
not_ok : {T E : Type 0} (r : Result T E) (P : E → Type 0) (So : Type 0) → IsErrAnd r P → OnOk r So
not_ok (Ok x) P So h = absurd h
not_ok (Err x) P So h = tt

-- what is so anyway is so of a value
pub if_value : {T E : Type 0} (r : Result T E) (So : Type 0) → So → OnOk r So
if_value (Ok x) So so = so
if_value (Err x) So so = tt

-- what needs room is so of a value that comes only where there was room
pub if_room : {T E U F : Type 0} (r : Result T E) (room : Result U F) (So : Type 0) → OnOk r (is_ok room ≡ true) → OnOk room So → OnOk r So
if_room (Ok x) (Ok y) So h so = so
if_room (Ok x) (Err y) So h so = absurd (false≢true h)
if_room (Err x) room So h so = tt

-- a list as long as the room that it has
pub again_at : {Z : Type 0} (numbers : Vec ℕ Z) (more : ℕ) → more ≡ vec_len numbers → vec_len numbers + more ≤ vec_capacity numbers → HasRoomAgain numbers
again_at numbers more e h = subst (λ n. vec_len numbers + n ≤ vec_capacity numbers) e h

-- a part of values that are the same
pub part_same : {V A : Type 0} (v w : V) (f : V → A) → v ≡ w → f v ≡ f w
part_same v w f e = ap f e

pub includes_same : (xs ys : List ℕ) → ys ≡ xs → Includes xs ys
includes_same xs ys e = subst (Includes xs) (sym e) (λ n h. h)

module _ {T E : Type 0} {sees : Sees} {comes : CallFault → E → Type 0} (at now : Place) (worked run : OwnRun) (same : now.action ≡ at.action)
    (reached : now.reached.items ≡ at.reached.items) where
  -- the work gave a value, and the arm committed
  pub ended_ok : (x : T) → Settles sees (finishes at.action) worked run at.left now.left (EndedAndTold at.action at.home run)
      → is_committed at.action run.past ≡ true → HasRoomAgain now.reached → IsEndOf sees comes at now worked run (Ok x) (Ok x)
  ended_ok x ends committed room = record {
    action = same;
    reached = includes_same at.reached.items now.reached.items reached;
    ends = ends;
    gives = refl;
    committed = committed;
    room = room;
    undone = tt;
  }

  -- the work gave a value, and a fault kept the arm from its commit
  pub ended_failed : (x : T) (result : Result T E) (fault : CallFault)
      → Settles sees (finishes at.action) worked run at.left now.left (EndedAndTold at.action at.home run) → IsErrAnd result (comes fault)
      → ComesToNothing sees worked (steps.Commit at.action) fault → Goes sees (settles at.action) worked run
      → IsEndOf sees comes at now worked run (Ok x) result
  ended_failed x result fault ends came why undone = record {
    action = same;
    reached = includes_same at.reached.items now.reached.items reached;
    ends = ends;
    gives = failed_of comes (ComesToNothing sees worked (steps.Commit at.action)) x result fault came why;
    committed = not_ok result (comes fault) (is_committed at.action run.past ≡ true) came;
    room = not_ok result (comes fault) (HasRoomAgain now.reached) came;
    undone = if_error result (Goes sees (settles at.action) worked run) undone;
  }

  -- the work gave an error, and the arm was aborted
  pub ended_err : (error : E) → Settles sees (settles at.action) worked run at.left now.left (EndedAndTold at.action at.home run)
      → IsEndOf {T = T} sees comes at now worked run (Err error) (Err error)
  ended_err error ends = record {
    action = same;
    reached = includes_same at.reached.items now.reached.items reached;
    ends =
        settles_wider (settles at.action) (finishes at.action) worked run at.left now.left (EndedAndTold at.action at.home run)
        (settles_finishes at.action) ends;
    gives = inl refl;
    committed = tt;
    room = tt;
    undone = ends.goes;
  }

module _ {sees : Sees} where
  -- what an arm does, as steps of any kind
  pub run_goes : (s t : Name) (x y z : OwnRun) (was mid is : Option CallFault) (So : Type 0) → ∥ Works sees s x y was mid ∥₁
      → Settles sees (finishes t) y z mid is So → ∥ Goes sees any_step x z ∥₁
  run_goes s t x y z was mid is So works ends =
      ∥∥₁_map works (λ work.
      goes_then any_step x y z (goes_wider (works_with work.tops s) any_step x y (λ _ _. refl) work.goes)
      (goes_wider (finishes t) any_step y z (λ _ _. refl) ends.goes))
