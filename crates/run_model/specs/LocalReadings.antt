-- What a guardian reads in its own history: the events that name it, the newest first, with what their messages
-- carried. What the definitions ask of these events alone they are asked as of any history; what they ask of other
-- guardians is read off the messages.
use Rattle.std.specs.Prelude.{ℕ, suc, max, Bool, false, not, ◌&&◌, ◌||◌, ◌==◌, ◌+◌, ◌-◌, nat_lt, List, [], ◌∷◌, ◌++◌, length, map, filter, take, if◌then◌else◌, Option, Some, None, is_some}
use Rattle.std.specs.List.{list_any}
use Rattle.action_names.specs.Names.{Name, ancestors, same_name, has_name, parent_of}
use Rattle.action_names.specs.Deps.{lesser}
use Rattle.run_model.specs.declared.step.Step.{Step}
use Rattle.run_model.specs.declared.step.Step.TheVariants.{Commit, Op, Prepare}
use Rattle.atomic_types.specs.Operations as op
use Rattle.run_model.specs.declared.step.ObjectId.{ObjectId}
use Rattle.run_model.specs.declared.answer.Answer.{Answer}
use Rattle.run_model.specs.declared.history.Event.{Event}
use Rattle.run_model.specs.Actions.{begins, is_begun, home_of, crashes, step_crashes}
use Rattle.run_model.specs.Visibility.{votes_yes}
use Rattle.run_model.specs.Keeping.{Performed, Standing, same_object, performed_by, undoes_by}
use Rattle.run_model.specs.Openings.{Opening, first_content}
use Rattle.atomic_types.specs.declared.part.Part.{Part}
use Rattle.run_model.specs.Lists.{is_orphan_by}
use Rattle.run_model.specs.Votes.{is_number}
use Rattle.run_model.specs.Refusals.{Facts, facts_of}
use Rattle.run_model.specs.Answers.{Results, operated_by, told_count_by, answer_by}
use Rattle.run_model.specs.StableContent.{Prepared, parts_by, step_decides, step_told, installed_by, installed_over}

-- What the messages of an event carried to one guardian: whose lists came, in which life of that guardian (how often
-- it had crashed), what of its known aborts and crashes it had not sent before, the newest first; dependencies of
-- actions; and outcomes, with whether each is a commit. In the life before an opening alone, a vote also has what the
-- store gave back of the top action.
pub record Carried : Type 0 where
  pub sender : Option ℕ
  pub life : ℕ
  pub aborts : List Name
  pub counts : List (ℕ × ℕ)
  pub dependencies : List (Name × List (ℕ × ℕ))
  pub outcomes : List (Name × Bool)
  pub restored : List (ℕ × Part)

-- the messages carried nothing
abbrev pub nothing_carried : Carried
nothing_carried =
    record { sender = None; life = 0; aborts = []; counts = []; dependencies = []; outcomes = []; restored = [] }

-- an event as a guardian keeps it
pub record LocalEvent : Type 0 where
  pub stamp : ℕ
  pub event : Event
  pub carried : Carried

abbrev pub events_here : List LocalEvent → List Event
events_here here = map (λ c. c.event) here

-- what a list of outcomes says of b
abbrev pub outcome_in : List (Name × Bool) → Name → Option Bool
outcome_in [] b = None
outcome_in (x ∷ xs) b = if same_name x.0 b then Some x.1 else outcome_in xs b

abbrev pub says_committed : Option Bool → Bool
says_committed None = false
says_committed (Some committed) = committed

abbrev pub says_aborted : Option Bool → Bool
says_aborted None = false
says_aborted (Some committed) = not committed

-- the event brought the outcome of b
abbrev pub brings : LocalEvent → Name → Option Bool
brings c b = outcome_in c.carried.outcomes b

-- the guardian was told the outcome of b since its last crash
abbrev pub told_here : ℕ → Name → List LocalEvent → Bool
told_here g b [] = false
told_here g b (c ∷ here) =
    not (step_crashes c.event.step g) && (told_here g b here || is_some (brings c b))

-- it was ever told that b committed
abbrev pub told_committed_here : Name → List LocalEvent → Bool
told_committed_here b here = list_any (λ c. says_committed (brings c b)) here

-- the kept operations on an object, the newest first, numbered as they stand here
abbrev pub kept_here : ObjectId → List LocalEvent → List Performed
kept_here x [] = []
kept_here x (c ∷ here) =
    filter (λ o. same_object o.object x)
    (performed_by (suc (length here)) c.event.step c.event.answer)
    ++ filter
    (λ o. not (undoes_by (λ b. says_aborted (brings c b)) c.event.step (events_here here) o))
    (kept_here x here)

-- of what a store gave back with a vote, that of an object
abbrev pub given_back : Step → List (ℕ × Part) → ObjectId → List (Name × Part)
given_back (Prepare g t) values x =
    if g == x.guardian
    then map (λ v. (t, v.1)) (filter (λ (v : ℕ × Part). v.0 == x.number) values) else []
given_back _ values x = []

-- what the store gave back of an object, and no abort has undone since, the newest first
abbrev pub restored_here : ObjectId → List LocalEvent → List (Name × Part)
restored_here x [] = []
restored_here x (c ∷ here) =
    given_back c.event.step c.carried.restored x
    ++ filter (λ r. not (list_any (λ b. says_aborted (brings c b)) (ancestors r.0)))
    (restored_here x here)

-- how an object stands
abbrev pub standing_here : List LocalEvent → ObjectId → Standing
standing_here here x =
    record { told = λ b. told_committed_here b here; kept = kept_here x here; restored = restored_here x here }

-- names that are learnt, in front of those known, each once
abbrev pub learnt : List Name → List Name → List Name
learnt [] known = known
learnt (b ∷ bs) known = let old = learnt bs known in if has_name old b then old else b ∷ old

abbrev pub aborted_in : List (Name × Bool) → List Name
aborted_in [] = []
aborted_in (x ∷ xs) = if x.1 then aborted_in xs else x.0 ∷ aborted_in xs

-- the aborts that the guardian knows, in the order in which it learnt them, the newest first
abbrev pub aborts_here : ℕ → List LocalEvent → List Name
aborts_here g [] = []
aborts_here g (c ∷ here) =
    if step_crashes c.event.step g then []
    else learnt c.carried.aborts (learnt (aborted_in c.carried.outcomes) (aborts_here g here))

-- the first number of a list that stands beside h
abbrev pub beside : List (ℕ × ℕ) → ℕ → Option ℕ
beside [] h = None
beside (x ∷ xs) h = if x.0 == h then Some x.1 else beside xs h

abbrev pub or_zero : Option ℕ → ℕ
or_zero None = 0
or_zero (Some n) = n

-- the greatest of the numbers that stand beside h
abbrev pub most_of : List (ℕ × ℕ) → ℕ → ℕ
most_of [] h = 0
most_of (x ∷ xs) h = if x.0 == h then max x.1 (most_of xs h) else most_of xs h

-- counts that are learnt, in front of those known, where they are greater
abbrev pub raised : List (ℕ × ℕ) → List (ℕ × ℕ) → List (ℕ × ℕ)
raised [] known = known
raised (x ∷ xs) known = let old = raised xs known in
    if nat_lt (most_of old x.0) x.1 then x ∷ old else old

-- what comes of a sender's life and lists
abbrev pub counts_from : Option ℕ → ℕ → List (ℕ × ℕ) → List (ℕ × ℕ) → List (ℕ × ℕ)
counts_from None life counts known = known
counts_from (Some h) life counts known = raised ((h, life) ∷ counts) known

-- the crashes of others that the guardian knows, in the order in which it learnt them, the newest first
abbrev pub counts_here : ℕ → List LocalEvent → List (ℕ × ℕ)
counts_here g [] = []
counts_here g (c ∷ here) =
    if step_crashes c.event.step g then []
    else counts_from c.carried.sender c.carried.life c.carried.counts (counts_here g here)

-- how many crashes of h it knows of; its own it always knows
abbrev pub known_crashes_here : ℕ → ℕ → List LocalEvent → ℕ
known_crashes_here g h here =
    if g == h then crashes g (events_here here) else most_of (counts_here g here) h

-- the message is of h, in this life of h
abbrev pub is_of : Option ℕ → ℕ → ℕ → ℕ → Bool
is_of None life h present = false
is_of (Some k) life h present = (k == h) && (life == present)

-- how many entries of a list h has sent to g in their present lives
abbrev pub sent_here : (Carried → ℕ) → ℕ → ℕ → ℕ → List LocalEvent → ℕ
sent_here size g h present [] = 0
sent_here size g h present (c ∷ here) =
    if step_crashes c.event.step g then 0
    else (if is_of c.carried.sender c.carried.life h present then size c.carried else 0)
    + sent_here size g h present here

-- what stands in front of the first n entries that came
abbrev pub after_first : {X : Type 0} → ℕ → List X → List X
after_first n xs = take (length xs - n) xs

-- what h, whose history is there, has not sent yet to g, whose history is here
abbrev pub unsent_aborts : ℕ → ℕ → List LocalEvent → List LocalEvent → List Name
unsent_aborts h g there here =
    after_first (sent_here (λ m. length m.aborts) g h (crashes h (events_here there)) here)
    (aborts_here h there)

abbrev pub unsent_counts : ℕ → ℕ → List LocalEvent → List LocalEvent → List (ℕ × ℕ)
unsent_counts h g there here =
    after_first (sent_here (λ m. length m.counts) g h (crashes h (events_here there)) here)
    (counts_here h there)

-- what a list of dependencies says of an action and a guardian
abbrev pub least_of : List (Name × List (ℕ × ℕ)) → Name → ℕ → Option ℕ
least_of [] a h = None
least_of (x ∷ xs) a h = if same_name x.0 a then beside x.1 h else least_of xs a h

abbrev pub after_commit : Step → Name → Option ℕ → (Name → Option ℕ) → Option ℕ
after_commit (Commit d) a own came = if same_name (parent_of d) a then lesser own (came d) else own
after_commit _ a own came = own

-- the least incarnation of h on which an action that is at home here depends
abbrev pub dependency_here : Name → ℕ → List LocalEvent → Option ℕ
dependency_here a h [] = None
dependency_here a h (c ∷ here) =
    if begins c.event a then least_of c.carried.dependencies a h
    else after_commit c.event.step a (dependency_here a h here)
    (λ d. least_of c.carried.dependencies d h)

-- an action that is at home here is known as an orphan here
abbrev pub is_orphan_here : Opening → ℕ → List LocalEvent → Name → Bool
is_orphan_here opening g here a =
    is_orphan_by opening (λ b. has_name (aborts_here g here) b) (λ h. known_crashes_here g h here)
    (λ h. dependency_here a h here) a

-- the action is on the roster: it was begun, and is at home here
abbrev pub is_at_home : ℕ → Name → List LocalEvent → Bool
is_at_home g a here = is_begun a (events_here here) && (home_of a (events_here here) == g)

-- The facts that the refusals of an operation ask, of actions on the roster: those of these events, but for known
-- orphans.
abbrev pub facts_here : Opening → ℕ → List LocalEvent → Facts
facts_here opening g here = record (facts_of opening (events_here here)) {
  begun = λ a. is_at_home g a here;
  orphan = λ a. is_orphan_here opening g here a;
  told = λ h a. told_here h a here;
}

-- what the message of a vote brought of its top action says how it votes
abbrev pub vote_here : ℕ → Name → List (Name × List (ℕ × ℕ)) → List LocalEvent → Bool
vote_here g t came here = is_number (least_of came t g) (crashes g (events_here here))

-- the count of a telling that brings this outcome of a
abbrev pub count_here : Opening → ℕ → Name → Bool → List LocalEvent → ℕ
count_here opening g a committed here =
    told_count_by opening g committed (λ x. standing_here here x) a

-- what operations come to here; votes and tellings are read with their messages
abbrev pub results_here : Opening → List LocalEvent → Results
results_here opening here = record {
  operation = λ a x wanted. operated_by (first_content opening x) (standing_here here x) a wanted;
  vote = λ h t. false;
  count = λ h a. 0;
}

-- the answer of an operation: there is no action but those on the roster
abbrev pub operation_here : Opening → ℕ → Name → ObjectId → op.Op → List LocalEvent → Answer
operation_here opening g a x wanted here =
    answer_by opening (facts_here opening g here) (results_here opening here) (Op a x wanted)

-- the record of t in the store: from the yes vote on it, with what t held just after it, until the guardian is told
-- t's outcome
abbrev pub prepared_here : Opening → ℕ → Name → List LocalEvent → Option Prepared
prepared_here opening g t [] = None
prepared_here opening g t (c ∷ here) =
    if votes_yes c.event.step c.event.answer g t
    then Some
    (record { home = or_zero c.carried.sender; parts = parts_by opening g (λ x. standing_here (c ∷ here) x) t })
    else (if step_told c.event.step g t then None else prepared_here opening g t here)

-- t is among the decided top actions of the store: those that its store held, and only its home keeps the event that
-- decided one
abbrev pub decided_here : Opening → ℕ → Name → List LocalEvent → Bool
decided_here opening g t here =
    (opening.stores g).decided t || list_any (λ c. step_decides c.event.step t) here

-- what is installed of object n
abbrev pub stable_base_here : Opening → ℕ → ℕ → List LocalEvent → Option Part
stable_base_here opening g n [] = (opening.stores g).base n
stable_base_here opening g n (c ∷ here) =
    installed_over (installed_by c.event.step g n
    (λ t. prepared_here opening g t here) (λ t. says_committed (brings c t)))
    (stable_base_here opening g n here)
