-- The laws of a run, as statements over the definitions alone.
use Rattle.std.specs.Prelude.{◌≡◌, ◌⊎◌, ◌++◌, IsTrue, IsFalse, List, [], ◌∷◌, length, Option, Some, None}
use Rattle.action_names.specs.Names.{Name, is_top, is_ancestor, top_of}
use Rattle.atomic_types.specs.Operations.{is_read}
use Rattle.atomic_types.specs.Objects.{reply_of}
use Rattle.run_model.specs.declared.step.Step.{Step}
use Rattle.run_model.specs.declared.step.Step.TheVariants.{NestedTop, Call, Arms, Op, Commit, Close}
use Rattle.run_model.specs.declared.step.ObjectId.{ObjectId}
use Rattle.run_model.specs.declared.answer.Answer.{Answer}
use Rattle.run_model.specs.declared.answer.Answer.TheVariants.{Refused}
use Rattle.run_model.specs.declared.answer.Refusal.TheVariants.{Orphan}
use Rattle.run_model.specs.declared.history.Event.{Event}
use Rattle.run_model.specs.Actions.{is_begun, is_committed, is_aborted, is_closed, is_done, step_crashes}
use Rattle.run_model.specs.Visibility.{is_visible, is_lost, is_orphan}
use Rattle.run_model.specs.Keeping.{Performed, performed_by, is_kept}
use Rattle.run_model.specs.Openings.{Opening, first_content}
use Rattle.run_model.specs.Replay.{Store, replayed, store_after}
use Rattle.run_model.specs.Answers.{answer_of}
use Rattle.run_model.specs.Runs.{IsRun}
use Rattle.run_model.specs.Places.{collide, place_of, place_lt, Exchanges, visible_by_grant, visible_by_place, asked, replies_given}

-- the event came in this history, after those before it
abbrev pub Came : Event → List Event → List Event → Type 0
Came e before past = (later : List Event) × (past ≡ later ++ e ∷ before)

-- the event is the granting of the operation
abbrev pub Grants : Performed → Event → List Event → Type 0
Grants o e before = (o.number ≡ length (e ∷ before))
    × (performed_by o.number e.step e.answer ≡ o ∷ [])

-- Where c is visible to a and b to c, b is visible to a.
abbrev pub VisibilityCarriesOver : Type 0
VisibilityCarriesOver = (a b c : Name) (past : List Event) → IsTrue (is_visible c a past)
    → IsTrue (is_visible b c past) → IsTrue (is_visible b a past)

-- What has closed or ended has nothing active below it, unless an ancestor of the active one aborted.
abbrev pub NothingActiveBelowDone : Type 0
NothingActiveBelowDone = (opening : Opening) (past : List Event) (d c : Name) → IsRun opening past
    → IsTrue (is_begun c past) → IsFalse (is_done c past) → IsTrue (is_ancestor d c)
    → IsTrue (is_done d past) → (f : Name) × IsTrue (is_ancestor f c) × IsTrue (is_aborted f past)

-- No lost action is visible under a committed top action.
abbrev pub NothingLostAt : List Event → Type 0
NothingLostAt past = (t b : Name)
    → IsTrue (is_top t) → IsTrue (is_committed t past) → IsTrue (is_ancestor t b)
    → IsTrue (is_visible b t past) → IsFalse (is_lost b past)

abbrev pub NothingLostUnderCommitted : Type 0
NothingLostUnderCommitted = (opening : Opening) (past : List Event) → IsRun opening past
    → NothingLostAt past

-- the crash before which the operation was kept and after which it is not came after its top action had closed
abbrev pub DroppedWhenClosed : Performed → List Event → Type 0
DroppedWhenClosed o past = (crash : Event) × (earlier : List Event) × Came crash earlier past
    × IsTrue (step_crashes crash.step o.object.guardian)
    × IsTrue (is_kept o earlier) × IsFalse (is_kept o (crash ∷ earlier))
    × IsTrue (is_closed (top_of o.action) earlier)

-- What is visible to an action that is no orphan is kept, but for reads that a crash dropped after their top action
-- had closed.
abbrev pub VisibleIsKeptAt : List Event → Type 0
VisibleIsKeptAt past = (a : Name) (o : Performed) (e : Event) (before : List Event)
    → IsFalse (is_orphan a past) → Came e before past → Grants o e before
    → IsTrue (is_visible o.action a past)
    → IsTrue (is_kept o past) ⊎ (IsTrue (is_read o.operation) × DroppedWhenClosed o past)

abbrev pub VisibleIsKept : Type 0
VisibleIsKept = (opening : Opening) (past : List Event) → IsRun opening past → VisibleIsKeptAt past

-- What is not kept is never kept again.
abbrev pub KeptNeverAgain : Type 0
KeptNeverAgain = (o : Performed) (e : Event) (before earlier later : List Event)
    → Came e before earlier → Grants o e before
    → IsFalse (is_kept o earlier) → IsFalse (is_kept o (later ++ earlier))

-- Two conflicting operations that are visible to one action that is no orphan stand by place as they stood by grant.
abbrev pub ConflictsKeepOrderAt : List Event → Type 0
ConflictsKeepOrderAt past = (a : Name) (o p : Performed) (e f : Event) (before between : List Event)
    → IsFalse (is_orphan a past) → Came e before between → Grants o e before → Came f between past
    → Grants p f between → IsTrue (is_visible o.action a past) → IsTrue (is_visible p.action a past)
    → IsTrue (collide o p) → IsTrue (place_lt (place_of o past) (place_of p past))

abbrev pub ConflictsKeepOrder : Type 0
ConflictsKeepOrder = (opening : Opening) (past : List Event) → IsRun opening past
    → ConflictsKeepOrderAt past

-- The list by place comes from the list by grant through exchanges of neighbours that do not conflict.
abbrev pub GrantToPlaceAt : List Event → Type 0
GrantToPlaceAt past = (a : Name) → IsFalse (is_orphan a past)
    → Exchanges (visible_by_grant a past) (visible_by_place a past)

abbrev pub GrantToPlace : Type 0
GrantToPlace = (opening : Opening) (past : List Event) → IsRun opening past → GrantToPlaceAt past

-- Exchanges leave each reply: where those of one list are a store's, so are those of the other.
abbrev pub ExchangesLeaveReplies : Type 0
ExchangesLeaveReplies = (store : Store) (os ps : List Performed) → Exchanges os ps
    → replayed store os ≡ replies_given os → replayed store ps ≡ replies_given ps

-- They leave the last contents.
abbrev pub ExchangesLeaveContents : Type 0
ExchangesLeaveContents = (store : Store) (os ps : List Performed) → Exchanges os ps
    → (x : ObjectId) → store_after store os x ≡ store_after store ps x

-- No operation's place is before that of the operation in front of it.
abbrev pub StandsInOrder : List Event → List Performed → Type 0
StandsInOrder past [] = Unit {0}
StandsInOrder past (o ∷ []) = Unit {0}
StandsInOrder past (o ∷ p ∷ ps) = IsFalse (place_lt (place_of p past) (place_of o past))
    × StandsInOrder past (p ∷ ps)

abbrev pub ListIsByPlace : Type 0
ListIsByPlace = (past : List Event) (a : Name) → StandsInOrder past (visible_by_place a past)

-- Two operations never have one place.
abbrev pub PlacesDiffer : Type 0
PlacesDiffer = (past : List Event) (o p : Performed) → place_of o past ≡ place_of p past
    → o.number ≡ p.number

-- A reply that an action was given while it was no orphan is that of the operations so far that were visible to it,
-- replayed in order of grant.
abbrev pub RepliesByGrantAt : Opening → List Event → Type 0
RepliesByGrantAt opening past = (o : Performed) (e : Event) (before : List Event)
    → Came e before past → Grants o e before → IsFalse (is_orphan o.action before)
    → o.reply
    ≡ reply_of (store_after (first_content opening) (visible_by_grant o.action before) o.object)
    o.operation

abbrev pub RepliesByGrant : Type 0
RepliesByGrant = (opening : Opening) (past : List Event) → IsRun opening past
    → RepliesByGrantAt opening past

-- The serial view: the operations visible to a begun action that is no orphan, replayed from the opening's contents
-- in order of place, give exactly the replies that were given.
abbrev pub SerialViewAt : Opening → List Event → Type 0
SerialViewAt opening past = (a : Name) → IsTrue (is_begun a past) → IsFalse (is_orphan a past)
    → replayed (first_content opening) (visible_by_place a past)
    ≡ replies_given (visible_by_place a past)

abbrev pub SerialView : Type 0
SerialView = (opening : Opening) (past : List Event) → IsRun opening past
    → SerialViewAt opening past

-- Two runs of one opening whose visible lists of two such actions are equal, as lists of action, object and
-- operation, give them equal replies.
abbrev pub EqualListsAt : Opening → List Event → Type 0
EqualListsAt opening past = (other : List Event) (a b : Name) → IsRun opening other
    → IsTrue (is_begun a past) → IsTrue (is_begun b other)
    → IsFalse (is_orphan a past) → IsFalse (is_orphan b other)
    → asked (visible_by_place a past) ≡ asked (visible_by_place b other)
    → replies_given (visible_by_place a past) ≡ replies_given (visible_by_place b other)

abbrev pub EqualListsEqualReplies : Type 0
EqualListsEqualReplies = (opening : Opening) (past : List Event) → IsRun opening past
    → EqualListsAt opening past

-- the action that takes the step, of those that may be refused as orphans
abbrev pub actor_of : Step → Option Name
actor_of (NestedTop a) = Some a
actor_of (Call a g) = Some a
actor_of (Arms a kinds) = Some a
actor_of (Op a x wanted) = Some a
actor_of (Commit a) = Some a
actor_of (Close t) = Some t
actor_of _ = None

-- Who is refused as an orphan is one: where a step is answered so, an action takes it, and it is an orphan.
abbrev pub OrphanWhereRefused : Step → Answer → List Event → Type 0
OrphanWhereRefused step answer past = answer ≡ Refused Orphan
    → (a : Name) × (actor_of step ≡ Some a) × IsTrue (is_orphan a past)

abbrev pub RefusedOrphansAreOrphans : Type 0
RefusedOrphansAreOrphans = (opening : Opening) (past : List Event) (step : Step)
    → IsRun opening past → OrphanWhereRefused step (answer_of opening step past) past
