-- How an action comes to its end: what it leaves, and whether it has committed.
use Rattle.std.proofs.Common.{Bool, IsTrue, List, [], false, if◌then◌else◌, refl, sym, true, ℕ, ◌∙◌, ◌∷◌, ◌≡◌}
use Rattle.std.proofs.lemmas.Bool.{or_left}
use Rattle.action_names.specs.Names.{Name, is_top}
use Rattle.run_model.specs.declared.step.Step.TheVariants.{Abort, Close, Commit, Decide, Prepare, Tell}
use Rattle.run_model.specs.Actions.{is_begun, is_committed, is_ended}
use Rattle.run_model.specs.Runs.{World}
use Rattle.run_model.specs.Votes.{is_yes}
use Rattle.run_laws.proofs.Names.{same_name_self}
use Rattle.activities.specs.declared.flow.Flow.{Flow}
use Rattle.activities.specs.declared.flow.Flow.TheVariants.{Aborted, Ended, Outwards, Returned}
use Rattle.activities.specs.declared.flow.Reach.TheVariants as reach
use Rattle.activities.specs.Ends.{commits}
use Rattle.activities.specs.Serial.{Acting, Tried, aborted, after, and_then, asked, by_try, commit_tried, committed, end_tried, ended, once_told, or_aborted, outwards, tried, two_phases, voted}
use Rattle.activities.proofs.Alone.{kept_commit}
use Rattle.activities.proofs.Going.{still_begun, still_ended}
use Rattle.activities.proofs.Leaving.{CameToEnd, IsRunning, WentOn, one_came, open_among, went_by, went_nowhere, went_quietly, went_through}
use Rattle.activities.proofs.Steps.{IsOpen, abort_ends, commit_told}

-- what is so of either outcome of a first try is so of two
then_so : (P : Tried → Type 0) (t : Tried) (next : World → Tried) → (t.done ≡ false → P t) → (t.done ≡ true → P (next t.world)) → P (and_then t next)
then_so P t next f g = go t.done refl
  where
    go : (b : Bool) → t.done ≡ b → P (if b then next t.world else t)
    go true e = g e
    go false e = f e

-- it was tried to commit the action: it has committed where that was done
pub record IsTried (a : Name) (old : World) (t : Tried) : Type 0 where
  pub went : WentOn (a ∷ []) (a ∷ []) old t.world
  pub told : t.done ≡ is_committed a t.world.past

-- it has ended, whether or not that was done
pub record IsEnded (a : Name) (old : World) (t : Tried) : Type 0 where
  pub is_tried : IsTried a old t
  pub has_ended : IsTrue (is_ended a t.world.past)

-- what the body of the action leaves
abbrev Quietly : Name → World → World → Type 0
Quietly a old new = WentOn (a ∷ []) [] old new

-- what was open is open still
pub open_quietly : (a b : Name) (old new : World) → Quietly b old new → IsOpen a old → IsOpen a new
open_quietly a b old new w o = open_among (b ∷ []) [] old new a o w refl

-- and has committed where it had
same_commit : (a b : Name) (old new : World) → Quietly b old new → IsTrue (is_begun a old.past) → is_committed a new.past ≡ is_committed a old.past
same_commit a b old new w h = kept_commit (b ∷ []) [] old new w.makes w.is_run a h refl

-- ---- tellings

told_quietly : (a : Name) (guardians : List ℕ) (w : World) → IsRunning w → Quietly a w (once_told a guardians w)
told_quietly a [] w r = went_nowhere (a ∷ []) [] w r
told_quietly a (g ∷ guardians) w r =
    let step : Quietly a w (after (Tell g a) w) = went_by a w r (Tell g a) tt refl [] refl refl in
    went_through (a ∷ []) [] w (after (Tell g a) w) (once_told a guardians (after (Tell g a) w)) step
    (told_quietly a guardians (after (Tell g a) w) step.is_run)

-- ---- votes

voted_quietly : (a : Name) (guardians : List ℕ) (w : World) → IsRunning w → Quietly a w (voted a guardians w).world
voted_quietly a [] w r = went_nowhere (a ∷ []) [] w r
voted_quietly a (g ∷ guardians) w r =
    let step : Quietly a w (after (Prepare g a) w) = went_by a w r (Prepare g a) tt refl [] refl refl in
    then_so (λ t. Quietly a w t.world) (record { world = after (Prepare g a) w; done = is_yes (asked (Prepare g a) w) }) (voted a guardians)
    (λ e. step)
    (λ e. went_through (a ∷ []) [] w (after (Prepare g a) w) (voted a guardians (after (Prepare g a) w)).world step
    (voted_quietly a guardians (after (Prepare g a) w) step.is_run))

-- ---- commits

-- where it was not done, it is as if it had not been tried
not_tried : (a : Name) (old : World) (t : Tried) → Quietly a old t.world → IsOpen a old → t.done ≡ false → IsTried a old t
not_tried a old t w o e = record {
  went = went_quietly (a ∷ []) (a ∷ []) old t.world w;
  told = e ∙ sym (same_commit a a old t.world w o.begun ∙ o.uncommitted);
}

-- what was tried after steps that committed nothing
then_tried : (a : Name) (old mid : World) (t : Tried) → Quietly a old mid → IsTried a mid t → IsTried a old t
then_tried a old mid t w s = record {
  went = went_through (a ∷ []) (a ∷ []) old mid t.world (went_quietly (a ∷ []) (a ∷ []) old mid w) s.went;
  told = s.told;
}

two_phases_tried : (a : Acting) (w : World) → IsRunning w → IsOpen a.name w → IsTried a.name w (two_phases a w)
two_phases_tried a w r o =
    then_so (IsTried a.name w) asking (tried (Decide a.name)) (not_tried a.name w asking asked_so o)
    (λ e. then_tried a.name w asking.world (tried (Decide a.name) asking.world) asked_so (decided asking.world asked_so.is_run
    (open_quietly a.name a.name w asking.world asked_so o)))
  where
    asking : Tried
    asking = and_then (tried (Close a.name) w) (voted a.name a.participants)

    closed : Quietly a.name w (after (Close a.name) w)
    closed = went_by a.name w r (Close a.name) tt refl [] refl refl

    asked_so : Quietly a.name w asking.world
    asked_so =
        then_so (λ t. Quietly a.name w t.world) (tried (Close a.name) w) (voted a.name a.participants) (λ e. closed)
        (λ e. went_through (a.name ∷ []) [] w (after (Close a.name) w) (voted a.name a.participants (after (Close a.name) w)).world closed
        (voted_quietly a.name a.participants (after (Close a.name) w) closed.is_run))

    decided : (v : World) → IsRunning v → IsOpen a.name v → IsTried a.name v (tried (Decide a.name) v)
    decided v s open_there = record {
      went = went_by a.name v s (Decide a.name) tt refl (a.name ∷ []) refl refl;
      told = commit_told v (after (Decide a.name) v) (Decide a.name) a.name _ refl refl (same_name_self a.name) open_there.uncommitted;
    }

commit_is_tried : (a : Acting) (w : World) → IsRunning w → IsOpen a.name w → IsTried a.name w (commit_tried a w)
commit_is_tried a w r o = go (is_top a.name)
  where
    go : (top : Bool) → IsTried a.name w (if top then two_phases a w else tried (Commit a.name) w)
    go true = two_phases_tried a w r o
    go false = record {
      went = went_by a.name w r (Commit a.name) tt refl (a.name ∷ []) refl refl;
      told = commit_told w (after (Commit a.name) w) (Commit a.name) a.name _ refl refl (same_name_self a.name) o.uncommitted;
    }

-- what is told of it afterwards changes nothing of that
still_tried : (a : Name) (old : World) (t : Tried) (new : World) (done : Bool) → IsTried a old t → IsTrue (is_begun a old.past) → Quietly a t.world new
    → done ≡ t.done → IsTried a old (record { world = new; done = done })
still_tried a old t new done s b w e = record {
  went = went_through (a ∷ []) (a ∷ []) old t.world new s.went (went_quietly (a ∷ []) (a ∷ []) t.world new w);
  told = e ∙ s.told ∙ sym (same_commit a a t.world new w (still_begun old t.world a s.went.makes b));
}

committed_tried : (a : Acting) (w : World) → IsRunning w → IsOpen a.name w → IsTried a.name w (committed a w)
committed_tried a w r o =
    let s : IsTried a.name w (commit_tried a w) = commit_is_tried a w r o in
    let t : Tried = commit_tried a w in
    then_so (IsTried a.name w) t (λ next. record { world = once_told a.name a.homes next; done = true }) (λ e. s)
    (λ e. still_tried a.name w t (once_told a.name a.homes t.world) true s o.begun
    (told_quietly a.name a.homes t.world s.went.is_run) (sym e))

-- ---- aborts

aborted_quietly : (a : Acting) (w : World) → IsRunning w → Quietly a.name w (aborted a w)
aborted_quietly a w r =
    let step : Quietly a.name w (after (Abort a.name) w) = went_by a.name w r (Abort a.name) tt refl [] refl refl in
    went_through (a.name ∷ []) [] w (after (Abort a.name) w) (aborted a w) step
    (told_quietly a.name a.homes (after (Abort a.name) w) step.is_run)

aborted_ends : (a : Acting) (w : World) → IsRunning w → IsTrue (is_begun a.name w.past) → IsTrue (is_ended a.name (aborted a w).past)
aborted_ends a w r b =
    let step : Quietly a.name w (after (Abort a.name) w) = went_by a.name w r (Abort a.name) tt refl [] refl refl in
    still_ended (after (Abort a.name) w) (aborted a w) a.name (told_quietly a.name a.homes (after (Abort a.name) w) step.is_run).makes
    (abort_ends w a.name b)

-- one that is aborted has come to its end
pub aborted_came : (a : Acting) (w : World) → IsRunning w → IsTrue (is_begun a.name w.past) → CameToEnd (a.name ∷ []) w (aborted a w)
aborted_came a w r b =
    one_came a.name w (aborted a w) (went_quietly (a.name ∷ []) (a.name ∷ []) w (aborted a w) (aborted_quietly a w r)) (aborted_ends a w r b)

-- ---- the end

aborted_ended : (a : Acting) (old : World) (t : Tried) → IsTried a.name old t → IsTrue (is_begun a.name old.past) → t.done ≡ false
    → IsEnded a.name old (record { world = aborted a t.world; done = false })
aborted_ended a old t s b e = record {
  is_tried =
      still_tried a.name old t (aborted a t.world) false s b (aborted_quietly a t.world s.went.is_run) (sym e);
  has_ended = aborted_ends a t.world s.went.is_run (still_begun old t.world a.name s.went.makes b);
}

or_aborted_ended : (a : Acting) (old : World) (t : Tried) → IsTried a.name old t → IsTrue (is_begun a.name old.past) → IsEnded a.name old (or_aborted a t)
or_aborted_ended a old t s b = go t.done refl
  where
    go : (done : Bool) → t.done ≡ done → IsEnded a.name old (if done then t else record { world = aborted a t.world; done = false })
    go true e = record { is_tried = s; has_ended = or_left _ _ (sym s.told ∙ e) }
    go false e = aborted_ended a old t s b e

end_tried_ended : (a : Acting) (wanted : Bool) (w : World) → IsRunning w → IsOpen a.name w → IsEnded a.name w (end_tried a wanted w)
end_tried_ended a true w r o = or_aborted_ended a w (committed a w) (committed_tried a w r o) o.begun
end_tried_ended a false w r o = aborted_ended a w (record { world = w; done = false }) (not_tried a.name w (record { world = w; done = false }) (went_nowhere (a.name ∷ []) [] w r) o refl) o.begun refl

-- ---- the end, and whether it committed

-- an action came to this end
pub record HasRun (a : Name) (old new : World) (flow : Flow) : Type 0 where
  pub came : CameToEnd (a ∷ []) old new
  pub told : commits flow ≡ is_committed a new.past

-- aborts do not commit
no_commit : (top : Bool) (flow : Flow) → commits (outwards top flow) ≡ false
no_commit true (Outwards reach.TopAction) = refl
no_commit false (Outwards reach.TopAction) = refl
no_commit top (Outwards reach.Client) = refl
no_commit top Ended = refl
no_commit top (Returned value) = refl
no_commit top Aborted = refl

pub ended_so : (a : Acting) (flow : Flow) (w : World) → IsRunning w → IsOpen a.name w → HasRun a.name w (ended a flow w).world (ended a flow w).flow
ended_so a flow w r o = record {
  came = one_came a.name w t.world e.is_tried.went e.has_ended;
  told = said ∙ e.is_tried.told;
}
  where
    t : Tried
    t = end_tried a (commits flow) w

    e : IsEnded a.name w t
    e = end_tried_ended a (commits flow) w r o

    wanted : (c : Bool) → commits flow ≡ c → commits (by_try a flow (end_tried a c w)).flow ≡ (end_tried a c w).done
    wanted false h = no_commit (is_top a.name) flow
    wanted true h = go (end_tried a true w).done
      where
        go : (done : Bool) → commits (if done then flow else outwards (is_top a.name) flow) ≡ done
        go true = h
        go false = no_commit (is_top a.name) flow

    said : commits (by_try a flow t).flow ≡ t.done
    said = wanted (commits flow) refl
