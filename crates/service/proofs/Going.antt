-- Runs that go on by steps of a transaction.
use Rattle.std.proofs.Common.{Bool, List, None, Option, Some, [], ap, ap₂, eq-eqb, eqb-true, false, inl, inr, refl, subst, sym, true, ℕ, ◌++◌, ◌||◌, ◌∙◌, ◌∷◌, ◌≡◌, ◌⊎◌}
use Rattle.std.proofs.lemmas.Bool.{and_from, and_parts, false_from_ne_true, false≢true, not-true, not_from_false, or_cases, or_left, or_right}
use Rattle.std.proofs.lemmas.List.{append_assoc, append_cancel_right}
use Rattle.std.specs.List.{list_any}
use Rattle.std.specs.Prelude.{if◌then◌else◌}
use Rattle.action_names.specs.Names.{Name, child_of, has_name, is_prefix, same_name}
use Rattle.run_model.specs.declared.answer.Answer.{Answer}
use Rattle.run_model.specs.declared.answer.Answer.TheVariants as answers
use Rattle.run_model.specs.declared.answer.Refusal.{Refusal}
use Rattle.run_model.specs.declared.history.Event.{Event}
use Rattle.run_model.specs.declared.step.Step.{Step}
use Rattle.run_model.specs.declared.step.Step.TheVariants as steps
use Rattle.run_model.specs.Actions.{begun, is_aborted, is_begun, is_committed, is_ended, names_begun, next_number, step_commits, step_crashes}
use Rattle.run_model.specs.Answers.{answer_of, outcome, refused_or}
use Rattle.run_model.specs.Openings.{Opening, OpeningLists, opening_in}
use Rattle.run_model.specs.Refusals.{checks, first_refusal}
use Rattle.run_model.specs.Runs.{history_after, is_accepted}
use Rattle.run_model.specs.Telling.{told_since_crash}
use Rattle.run_model.specs.Votes.{has_voted, step_votes}
use Rattle.run_laws.proofs.Growth.{Follows, aborted_stays, begun_stays, committed_stays, followed, here, later}
use Rattle.run_laws.proofs.Names.{clash, eqb_self, has_name_append, same_name_self, same_name_true}
use Rattle.run_laws.proofs.Begun.{begun_cases, begun_more}
use Rattle.stepping.specs.Beside.{IsAnsweredTo, OwnRun, Sees, own_after, started}
use Rattle.service.specs.declared.fault.CallFault.{CallFault}
use Rattle.service.specs.Transacting.{AllBegan, AllSettled, AllVotersTold, AreOwn, Began, CameToNothing, EndedAndTold, FallsShort, Goes, IsSettled, NoneBegan, Settles, Works, by_itself, in_arm, began_at, begins_at, belongs, belongs_to, ends_top, finishes, is_below, settles, works_in, works_with}
use Rattle.service.proofs.Parts.{begun_is_new}

-- ---- names

pub prefix_self : (a : Name) → is_prefix a a ≡ true
prefix_self [] = refl
prefix_self (x ∷ a) = and_from _ _ (eqb_self x) (prefix_self a)

prefix_then : (a b c : Name) → is_prefix a b ≡ true → is_prefix b c ≡ true → is_prefix a c ≡ true
prefix_then [] b c h k = refl
prefix_then (x ∷ a) [] c h k = absurd (false≢true h)
prefix_then (x ∷ a) (y ∷ b) [] h k = absurd (false≢true k)
prefix_then (x ∷ a) (y ∷ b) (z ∷ c) h k =
    let p = and_parts _ _ h in
    let q = and_parts _ _ k in
    let e : x ≡ z = eqb-true x y p.0 ∙ eqb-true y z q.0 in
    and_from _ _ (eq-eqb x z e) (prefix_then a b c p.1 q.1)

-- a child is below
pub child_below : (a : Name) (n : ℕ) → is_below a (child_of a n) ≡ true
child_below a n = and_from _ _ (down a) (not_from_false _ (up a))
  where
    down : (a : Name) → is_prefix a (child_of a n) ≡ true
    down [] = refl
    down (x ∷ a) = and_from _ _ (eqb_self x) (down a)

    up : (a : Name) → is_prefix (child_of a n) a ≡ false
    up [] = refl
    up (x ∷ a) = false_from_ne_true _ (λ h. clash (and_parts _ _ h).1 (up a))

-- what is below what is below
below_lift : (a s b : Name) → is_prefix a s ≡ true → is_below s b ≡ true → is_below a b ≡ true
below_lift a s b up h =
    let (down, back) = and_parts _ _ h in
    and_from _ _ (prefix_then a s b up down)
    (not_from_false _ (false_from_ne_true _ (λ p. clash (prefix_then b a s p up) (not-true _ back))))

-- work below an action is work in it
pub lift : (a s : Name) → is_prefix a s ≡ true → (step : Step) → works_in s step ≡ true → works_in a step ≡ true
lift a s up (steps.NestedTop b) h = prefix_then a s b up h
lift a s up (steps.Call b g) h = prefix_then a s b up h
lift a s up (steps.Arms b kinds) h = prefix_then a s b up h
lift a s up (steps.Op b x wanted) h = prefix_then a s b up h
lift a s up (steps.Commit b) h = below_lift a s b up h
lift a s up (steps.Abort b) h = below_lift a s b up h
lift a s up (steps.Tell g b) h = below_lift a s b up h
lift a s up _ h = absurd (false≢true h)

-- so is what finishes an action below
pub finishes_below : (a s : Name) → is_below a s ≡ true → (step : Step) → finishes s step ≡ true → works_in a step ≡ true
finishes_below a s below (steps.Commit b) h = subst (λ c. is_below a c ≡ true) (same_name_true s b h) below
finishes_below a s below (steps.Abort b) h = subst (λ c. is_below a c ≡ true) (same_name_true s b h) below
finishes_below a s below (steps.Tell g b) h = subst (λ c. is_below a c ≡ true) (same_name_true s b h) below
finishes_below a s below _ h = absurd (false≢true h)

-- what settles finishes, and a top action is ended so
pub settles_finishes : (s : Name) (step : Step) → settles s step ≡ true → finishes s step ≡ true
settles_finishes s (steps.Abort b) h = h
settles_finishes s (steps.Tell g b) h = h
settles_finishes s _ h = absurd (false≢true h)

pub settles_ends : (t : Name) (step : Step) → settles t step ≡ true → ends_top t step ≡ true
settles_ends t (steps.Abort b) h = h
settles_ends t (steps.Tell g b) h = h
settles_ends t _ h = absurd (false≢true h)

-- no such step is a crash
pub work_crashes_not : (a : Name) (g : ℕ) (step : Step) → works_in a step ≡ true → step_crashes step g ≡ false
work_crashes_not a g (steps.Crash h) own = absurd (false≢true own)
work_crashes_not a g _ own = refl

pub end_crashes_not : (t : Name) (g : ℕ) (step : Step) → ends_top t step ≡ true → step_crashes step g ≡ false
end_crashes_not t g (steps.Crash h) own = absurd (false≢true own)
end_crashes_not t g _ own = refl

-- work does not commit the action in which it is done
pub work_commits_not : (a : Name) (step : Step) → works_in a step ≡ true → step_commits step a ≡ false
work_commits_not a (steps.Commit b) h =
    false_from_ne_true _ (λ p. clash (subst (λ c. is_prefix c a ≡ true) (sym (same_name_true b a p)) (prefix_self a)) (not-true _ (and_parts _ _ h).1))
work_commits_not a (steps.Decide b) h = absurd (false≢true h)
work_commits_not a _ h = refl

-- work votes on nothing
pub work_votes_not : (a t : Name) (g : ℕ) (step : Step) → works_in a step ≡ true → step_votes step g t ≡ false
work_votes_not a t g (steps.Prepare h b) own = absurd (false≢true own)
work_votes_not a t g _ own = refl

pub finishes_votes_not : (a t : Name) (g : ℕ) (step : Step) → finishes a step ≡ true → step_votes step g t ≡ false
finishes_votes_not a t g (steps.Prepare h b) own = absurd (false≢true own)
finishes_votes_not a t g _ own = refl

-- ---- steps of several top actions

-- what is so of the steps of each is so of those of all
pub belongs_each : (P : Step → Type 0) (tops : List Name) (step : Step)
    → ((t : Name) → has_name tops t ≡ true → belongs t step ≡ true → P step) → belongs_to tops step ≡ true → P step
belongs_each P [] step f h = absurd (false≢true h)
belongs_each P (t ∷ tops) step f h = elim (or_cases (belongs t step) (belongs_to tops step) h) [
  | inl k ↦ f t (or_left (same_name t t) (has_name tops t) (same_name_self t)) k
  | inr k ↦ belongs_each P tops step (λ u i own. f u (or_right (same_name t u) (has_name tops u) i) own) k
]

pub belongs_front : (us vs : List Name) (step : Step) → belongs_to us step ≡ true → belongs_to (us ++ vs) step ≡ true
belongs_front [] vs step h = absurd (false≢true h)
belongs_front (t ∷ us) vs step h = elim (or_cases (belongs t step) (belongs_to us step) h) [
  | inl k ↦ or_left (belongs t step) (belongs_to (us ++ vs) step) k
  | inr k ↦ or_right (belongs t step) (belongs_to (us ++ vs) step) (belongs_front us vs step k)
]

pub belongs_back : (us vs : List Name) (step : Step) → belongs_to vs step ≡ true → belongs_to (us ++ vs) step ≡ true
belongs_back [] vs step h = h
belongs_back (t ∷ us) vs step h = or_right (belongs t step) (belongs_to (us ++ vs) step) (belongs_back us vs step h)

pub with_work : (tops : List Name) (a : Name) (step : Step) → works_in a step ≡ true → works_with tops a step ≡ true
with_work tops a step h = or_left (works_in a step) (belongs_to tops step) h

pub with_tops : (tops : List Name) (a : Name) (step : Step) → belongs_to tops step ≡ true → works_with tops a step ≡ true
with_tops tops a step h = or_right (works_in a step) (belongs_to tops step) h

-- steps of work, if each way of being one gives as much
pub with_each : (P : Step → Type 0) (tops : List Name) (a : Name) (step : Step) → (works_in a step ≡ true → P step)
    → ((t : Name) → has_name tops t ≡ true → belongs t step ≡ true → P step) → works_with tops a step ≡ true → P step
with_each P tops a step f g h = elim (or_cases (works_in a step) (belongs_to tops step) h) [ inl k ↦ f k | inr k ↦ belongs_each P tops step g k ]

pub with_front : (us vs : List Name) (a : Name) (step : Step) → works_with us a step ≡ true → works_with (us ++ vs) a step ≡ true
with_front us vs a step h = elim (or_cases (works_in a step) (belongs_to us step) h) [
  | inl k ↦ with_work (us ++ vs) a step k
  | inr k ↦ with_tops (us ++ vs) a step (belongs_front us vs step k)
]

pub with_back : (us vs : List Name) (a : Name) (step : Step) → works_with vs a step ≡ true → works_with (us ++ vs) a step ≡ true
with_back us vs a step h = elim (or_cases (works_in a step) (belongs_to vs step) h) [
  | inl k ↦ with_work (us ++ vs) a step k
  | inr k ↦ with_tops (us ++ vs) a step (belongs_back us vs step k)
]

-- work below an action, with the same top actions
pub with_lift : (tops : List Name) (a s : Name) → is_prefix a s ≡ true → (step : Step) → works_with tops s step ≡ true
    → works_with tops a step ≡ true
with_lift tops a s up step h = elim (or_cases (works_in s step) (belongs_to tops step) h) [
  | inl k ↦ with_work tops a step (lift a s up step k)
  | inr k ↦ with_tops tops a step k
]

belongs_crashes_not : (t : Name) (g : ℕ) (step : Step) → belongs t step ≡ true → step_crashes step g ≡ false
belongs_crashes_not t g step h = elim (or_cases (works_in t step) (ends_top t step) h) [
  | inl k ↦ work_crashes_not t g step k
  | inr k ↦ end_crashes_not t g step k
]

pub with_crashes_not : (tops : List Name) (a : Name) (g : ℕ) (step : Step) → works_with tops a step ≡ true → step_crashes step g ≡ false
with_crashes_not tops a g step h =
    with_each (λ s. step_crashes s g ≡ false) tops a step (work_crashes_not a g step) (λ t i own. belongs_crashes_not t g step own) h

-- a subaction's name is a child's
pub called_child : (opening : Opening) (a : Name) (g : ℕ) (past : List Event) (name : Name)
    → answer_of opening (steps.Call a g) past ≡ answers.Began (name ∷ []) → name ≡ child_of a (next_number opening a past)
unfolding answer_of
called_child opening a g past name h = by (first_refusal (checks opening (steps.Call a g) past)) h
  where
    by : (o : Option Refusal) → refused_or o (outcome opening (steps.Call a g) past) ≡ answers.Began (name ∷ [])
        → name ≡ child_of a (next_number opening a past)
    by None h = cc
    by (Some why) h = cc

-- a top action's name is a number
pub top_named : (opening : Opening) (first : Step) (past : List Event) (n : ℕ) (t : Name)
    → outcome opening first past ≡ answers.Began ((n ∷ []) ∷ []) → answer_of opening first past ≡ answers.Began (t ∷ []) → t ≡ n ∷ []
unfolding answer_of
top_named opening first past n t made h = by (first_refusal (checks opening first past)) h
  where
    by : (o : Option Refusal) → refused_or o (outcome opening first past) ≡ answers.Began (t ∷ []) → t ≡ n ∷ []
    by None h = one (sym made ∙ h)
      where
        one : answers.Began ((n ∷ []) ∷ []) ≡ answers.Began (t ∷ []) → t ≡ n ∷ []
        one e = cc
    by (Some why) h = cc

pub ended_stays : (b : Name) (x y : List Event) → Follows x y → is_ended b x ≡ true → is_ended b y ≡ true
ended_stays b x y f h = by (or_cases _ _ h)
  where
    by : (is_committed b x ≡ true) ⊎ (is_aborted b x ≡ true) → is_ended b y ≡ true
    by (inl c) = or_left _ _ (committed_stays b f c)
    by (inr a) = or_right _ _ (aborted_stays b f a)

-- ---- what steps keep

-- a test of steps that fails at a step
after_kept : (p : Step → Bool) (step : Step) (answer : Answer) (past : List Event) → p step ≡ false
    → list_any (λ (e : Event). p e.step) (history_after step answer past) ≡ list_any (λ (e : Event). p e.step) past
after_kept p step answer past none = by (is_accepted answer)
  where
    by : (b : Bool)
        → list_any (λ (e : Event). p e.step) (if b then record { step = step; answer = answer } ∷ past else past) ≡ list_any (λ (e : Event). p e.step) past
    by true = ap (λ b. b || list_any (λ (e : Event). p e.step) past) none
    by false = refl

pub step_kept : (p : Step → Bool) (step : Step) (answer : Answer) (old new : OwnRun) → p step ≡ false → new ≡ own_after old step answer
    → list_any (λ (e : Event). p e.step) new.past ≡ list_any (λ (e : Event). p e.step) old.past
step_kept p step answer old new none after =
    ap (λ (w : OwnRun). list_any (λ (e : Event). p e.step) w.past) after ∙ after_kept p step answer old.past none

-- ---- what begins

pub none_began : (step : Step) (answer : Answer) (old new : OwnRun) → names_begun answer ≡ [] → new ≡ own_after old step answer → NoneBegan old new
none_began step answer old new none after b = ap (λ (w : OwnRun). is_begun b w.past) after ∙ by (is_accepted answer)
  where
    by : (t : Bool) → is_begun b (if t then record { step = step; answer = answer } ∷ old.past else old.past) ≡ is_begun b old.past
    by true = ap (λ names. has_name (names ++ begun old.past) b) none
    by false = refl

pub none_same : (old new : OwnRun) → new ≡ old → NoneBegan old new
none_same old new e b = ap (λ (w : OwnRun). is_begun b w.past) e

pub none_then : (x y z : OwnRun) → NoneBegan x y → NoneBegan y z → NoneBegan x z
none_then x y z n m b = m b ∙ n b

-- ---- what is settled

pub began_stays : (g : ℕ) (b : Name) {past now : List Event} → Follows past now → began_at g b past ≡ true → began_at g b now ≡ true
began_stays g b here h = h
began_stays g b (later e f) h = or_right _ _ (began_stays g b f h)

-- what ended, and whose guardian was told, is settled where it began
pub settled_where : (s : Name) (g : ℕ) (y w : OwnRun) → began_at g s y.past ≡ true → Follows y.past w.past → EndedAndTold s g w → IsSettled s w
settled_where s g y w there grows h = record {
  ended = h.0;
  home = g;
  there = began_stays g s grows there;
  told = h.1;
}

pub all_settled_if_none : (old new : OwnRun) → NoneBegan old new → AllSettled old new
all_settled_if_none old new n b h k = absurd (clash (sym (n b) ∙ h) k)

-- an action that a step began, and no other
module _ (step : Step) (s : Name) (x y : OwnRun)
    (there : y ≡ record x { past = record { step = step; answer = answers.Began (s ∷ []) } ∷ x.past }) where
  -- at this guardian
  pub begun_at : (g : ℕ) → begins_at step g (λ c. began_at g c x.past) ≡ true → began_at g s y.past ≡ true
  begun_at g at =
      ap (λ (w : OwnRun). began_at g s w.past) there
      ∙ or_left _ _ (and_from _ _ (or_left _ _ (same_name_self s)) at)

  pub begun_only : (b : Name) → is_begun b y.past ≡ true → is_begun b x.past ≡ false → s ≡ b
  begun_only b new old =
      by
      (begun_cases (record { step = step; answer = answers.Began (s ∷ []) }) x.past b (sym (ap (λ (w : OwnRun). is_begun b w.past) there) ∙ new))
    where
      by : (has_name (s ∷ []) b ≡ true) ⊎ (is_begun b x.past ≡ true) → s ≡ b
      by (inl h) = one (or_cases _ _ h)
        where
          one : (same_name s b ≡ true) ⊎ (false ≡ true) → s ≡ b
          one (inl p) = same_name_true s b p
          one (inr p) = absurd (false≢true p)
      by (inr h) = absurd (clash h old)

-- ---- what began in between

recent_of : {past now : List Event} → Follows past now → (recent : List Event) × (now ≡ recent ++ past)
recent_of here = ([], refl)
recent_of (later e f) = let (recent, same) = recent_of f in (e ∷ recent, ap (λ xs. e ∷ xs) same)

begun_front : (t : Name) (recent before : List Event) → is_begun t recent ≡ true → is_begun t (recent ++ before) ≡ true
begun_front t [] before h = absurd (false≢true h)
begun_front t (e ∷ recent) before h = elim (begun_cases e recent t h) [
  | inl k ↦ has_name_append (names_begun e.answer) (begun (recent ++ before)) t ∙ or_left _ _ k
  | inr k ↦ begun_more e (recent ++ before) t (begun_front t recent before k)
]

pub began_within : (t : Name) (x y z w : OwnRun) → Follows x.past y.past → Began t y z → Follows z.past w.past → Began t x w
began_within t x y z w a b c =
    let (before, p) = recent_of a in
    let (after, q) = recent_of c in
    record {
      number = b.number;
      named = b.named;
      recent = after ++ (b.recent ++ before);
      parts =
          q
          ∙ ap (λ xs. after ++ xs) (b.parts ∙ ap (λ xs. b.recent ++ xs) p ∙ sym (append_assoc b.recent before x.past))
          ∙ sym (append_assoc after (b.recent ++ before) x.past);
      begun = begun_stays t (followed after (b.recent ++ before)) (begun_front t b.recent before b.begun);
    }

pub all_within : (tops : List Name) (x y z w : OwnRun) → Follows x.past y.past → AllBegan tops y z → Follows z.past w.past → AllBegan tops x w
all_within tops x y z w a all c t i = began_within t x y z w a (all t i) c

pub none_of : (old new : OwnRun) → AllBegan [] old new
none_of old new t i = absurd (false≢true i)

pub both_began : (us vs : List Name) (old new : OwnRun) → AllBegan us old new → AllBegan vs old new → AllBegan (us ++ vs) old new
both_began us vs old new a b t i = by (or_cases (has_name us t) (has_name vs t) (sym (has_name_append us vs t) ∙ i))
  where
    by : (has_name us t ≡ true) ⊎ (has_name vs t ≡ true) → Began t old new
    by (inl k) = a t k
    by (inr k) = b t k

-- ---- runs that go on

-- a run by its parts
abbrev run_of : OpeningLists → List (List Event) → List Event → OwnRun
run_of lists since past = record { lists = lists; past = past; since = since }

-- the run once these events have happened
same_run : (x y : OwnRun) (recent : List Event) → y.lists ≡ x.lists → y.since ≡ x.since → y.past ≡ recent ++ x.past
    → y ≡ record x { past = recent ++ x.past }
same_run x y recent l s p =
    ap₂ (λ lists since. run_of lists since y.past) l s
    ∙ ap (run_of x.lists x.since) p

module _ (sees : Sees) where
  -- events of two parts
  own_append : (p : Step → Bool) (x : OwnRun) (first more : List Event) → AreOwn sees p x first
      → AreOwn sees p (record x { past = first ++ x.past }) more → AreOwn sees p x (more ++ first)
  own_append p x first [] a b = a
  own_append p x first (e ∷ more) a b = (
    b.0,
    b.1,
    subst (λ past. IsAnsweredTo sees (record x { past = past }) e.step e.answer) (sym (append_assoc more first x.past)) b.2,
    own_append p x first more a b.3,
  )

  pub own_wider : (p q : Step → Bool) (x : OwnRun) → ((s : Step) → p s ≡ true → q s ≡ true) → (recent : List Event) → AreOwn sees p x recent
      → AreOwn sees q x recent
  own_wider p q x f [] own = tt
  own_wider p q x f (e ∷ recent) own = (f e.step own.0, own.1, own.2, own_wider p q x f recent own.3)

  own_kept : (p mine : Step → Bool) → ((step : Step) → mine step ≡ true → p step ≡ false) → (x : OwnRun) (recent : List Event)
      → AreOwn sees mine x recent
      → list_any (λ (e : Event). p e.step) (recent ++ x.past) ≡ list_any (λ (e : Event). p e.step) x.past
  own_kept p mine f x [] own = refl
  own_kept p mine f x (e ∷ recent) own =
      ap (λ b. b || list_any (λ (e : Event). p e.step) (recent ++ x.past)) (f e.step own.0) ∙ own_kept p mine f x recent own.3

  -- what was told stays so if the guardian does not crash
  own_told : (g : ℕ) (b : Name) (mine : Step → Bool) → ((step : Step) → mine step ≡ true → step_crashes step g ≡ false) → (x : OwnRun)
      (recent : List Event) → AreOwn sees mine x recent → told_since_crash g b x.past ≡ true → told_since_crash g b (recent ++ x.past) ≡ true
  own_told g b mine f x [] own h = h
  own_told g b mine f x (e ∷ recent) own h =
      and_from _ _ (not_from_false _ (f e.step own.0)) (or_left _ _ (own_told g b mine f x recent own.3 h))

  -- what began in between was not begun before
  own_new : (mine : Step → Bool) (x : OwnRun) (recent : List Event) (t : Name) → AreOwn sees mine x recent → is_begun t recent ≡ true
      → is_begun t x.past ≡ false
  own_new mine x [] t own h = absurd (false≢true h)
  own_new mine x (e ∷ recent) t own h = elim (begun_cases e recent t h) [
    | inl k ↦
        false_from_ne_true _ (λ b.
        clash (begun_stays t (followed recent x.past) b)
        (begun_is_new (record x { past = recent ++ x.past }) e.step e.answer own.2 own.1 t k))
    | inr k ↦ own_new mine x recent t own.3 k
  ]

module _ {sees : Sees} where
  pub goes_none : (p : Step → Bool) (w : OwnRun) → Goes sees p w w
  goes_none p w = record { lists = refl; since = refl; later = []; past = refl; own = tt }

  pub goes_same : (p : Step → Bool) (old new : OwnRun) → new ≡ old → Goes sees p old new
  goes_same p old new e = subst (λ w. Goes sees p old w) (sym e) (goes_none p old)

  pub goes_one : (p : Step → Bool) (step : Step) (answer : Answer) (old new : OwnRun) → p step ≡ true → IsAnsweredTo sees old step answer
      → new ≡ own_after old step answer → Goes sees p old new
  goes_one p step answer old new is given after = subst (λ w. Goes sees p old w) (sym after) (by (is_accepted answer) refl)
    where
      by : (t : Bool) → is_accepted answer ≡ t
          → Goes sees p old (record old { past = if t then record { step = step; answer = answer } ∷ old.past else old.past })
      by true e = record { lists = refl; since = refl; later = record { step = step; answer = answer } ∷ []; past = refl; own = (is, e, given, tt) }
      by false e = goes_none p old

  pub goes_then : (p : Step → Bool) (x y z : OwnRun) → Goes sees p x y → Goes sees p y z → Goes sees p x z
  goes_then p x y z a b = record {
    lists = b.lists ∙ a.lists;
    since = b.since ∙ a.since;
    later = b.later ++ a.later;
    past = b.past ∙ ap (λ past. b.later ++ past) a.past ∙ sym (append_assoc b.later a.later x.past);
    own =
        own_append sees p x a.later b.later a.own
        (subst (λ w. AreOwn sees p w b.later) (same_run x y a.later a.lists a.since a.past) b.own);
  }

  pub goes_wider : (p q : Step → Bool) (x y : OwnRun) → ((s : Step) → p s ≡ true → q s ≡ true) → Goes sees p x y → Goes sees q x y
  goes_wider p q x y f a = record { lists = a.lists; since = a.since; later = a.later; past = a.past; own = own_wider sees p q x f a.later a.own }

  pub goes_grows : (p : Step → Bool) (x y : OwnRun) → Goes sees p x y → Follows x.past y.past
  goes_grows p x y a = subst (λ h. Follows x.past h) (sym a.past) (followed a.later x.past)

  -- a test that fails at every step of the kind
  pub kept : (p mine : Step → Bool) (x y : OwnRun) → ((step : Step) → mine step ≡ true → p step ≡ false) → Goes sees mine x y
      → list_any (λ (e : Event). p e.step) y.past ≡ list_any (λ (e : Event). p e.step) x.past
  kept p mine x y f a =
      ap (λ past. list_any (λ (e : Event). p e.step) past) a.past
      ∙ own_kept sees p mine f x a.later a.own

  pub goes_told : (g : ℕ) (b : Name) (mine : Step → Bool) (x y : OwnRun) → ((step : Step) → mine step ≡ true → step_crashes step g ≡ false)
      → Goes sees mine x y → told_since_crash g b x.past ≡ true → told_since_crash g b y.past ≡ true
  goes_told g b mine x y f a h =
      subst (λ past. told_since_crash g b past ≡ true) (sym a.past) (own_told sees g b mine f x a.later a.own h)

  pub goes_ended : (p : Step → Bool) (x y : OwnRun) (b : Name) → Goes sees p x y → is_ended b x.past ≡ true → is_ended b y.past ≡ true
  goes_ended p x y b a h = ended_stays b x.past y.past (goes_grows p x y a) h

  -- what began and was settled stays so
  pub settled_stays : (mine : Step → Bool) (x y : OwnRun) (b : Name) → ((g : ℕ) (step : Step) → mine step ≡ true → step_crashes step g ≡ false)
      → Goes sees mine x y → IsSettled b x → IsSettled b y
  settled_stays mine x y b f a h = record {
    ended = goes_ended mine x y b a h.ended;
    home = h.home;
    there = began_stays h.home b (goes_grows mine x y a) h.there;
    told = goes_told h.home b mine x y (f h.home) a h.told;
  }

  pub began_new : (mine : Step → Bool) (x y : OwnRun) (t : Name) → Goes sees mine x y → Began t x y → is_begun t x.past ≡ false
  began_new mine x y t a b =
      own_new sees mine x a.later t a.own
      (subst (λ recent. is_begun t recent ≡ true) (append_cancel_right b.recent a.later x.past (sym b.parts ∙ a.past)) b.begun)

  -- ---- what falls short

  -- so is what came to nothing of steps behind others, before others and among others
  pub short_more : {kind : Step → Bool} (p : Step → Bool) (x y z : OwnRun) (f : CallFault) → CameToNothing sees p kind x y f → Goes sees p y z → CameToNothing sees p kind x z f
  short_more p x y z f (by_itself s) a =
      by_itself (record {
        before = s.before;
        first = s.first;
        step = s.step;
        own = s.own;
        of_kind = s.of_kind;
        why = s.why;
        more = goes_then p s.before y z s.more a;
      })
  short_more p x y z f (in_arm start arm joined since first arms inside s both part more) a =
      in_arm start arm joined since first arms inside s both part (goes_then p joined y z more a)

  pub short_after : {kind : Step → Bool} (p : Step → Bool) (x y z : OwnRun) (f : CallFault) → Goes sees p x y → CameToNothing sees p kind y z f → CameToNothing sees p kind x z f
  short_after p x y z f a (by_itself s) =
      by_itself (record {
        before = s.before;
        first = goes_then p x y s.before a s.first;
        step = s.step;
        own = s.own;
        of_kind = s.of_kind;
        why = s.why;
        more = s.more;
      })
  short_after p x y z f a (in_arm start arm joined since first arms inside s both part more) =
      in_arm start arm joined since (goes_then p x y start a first) arms inside s both part more

  pub short_wider : {kind : Step → Bool} (p q : Step → Bool) (x y : OwnRun) (f : CallFault) → ((s : Step) → p s ≡ true → q s ≡ true) → CameToNothing sees p kind x y f
      → CameToNothing sees q kind x y f
  unfolding goes_wider
  short_wider p q x y f w (by_itself s) =
      by_itself (record {
        before = s.before;
        first = goes_wider p q x s.before w s.first;
        step = s.step;
        own = w s.step s.own;
        of_kind = s.of_kind;
        why = s.why;
        more = goes_wider p q s.before y w s.more;
      })
  short_wider p q x y f w (in_arm start arm joined since first arms inside s both part more) =
      in_arm start arm joined since (goes_wider p q x start w first) arms (goes_wider p q (started start since) arm w inside)
      (short_wider p q (started start since) arm f w s) (goes_wider p q start joined w both) part (goes_wider p q joined y w more)

  -- the first fault is kept through two parts
  pub short_then : (p : Step → Bool) (x y z : OwnRun) (was mid is : Option CallFault) → Goes sees p x y → Goes sees p y z
      → ((fault : CallFault) → mid ≡ Some fault → (was ≡ Some fault) ⊎ FallsShort sees p x y fault)
      → ((fault : CallFault) → is ≡ Some fault → (mid ≡ Some fault) ⊎ FallsShort sees p y z fault)
      → (fault : CallFault) → is ≡ Some fault → (was ≡ Some fault) ⊎ FallsShort sees p x z fault
  short_then p x y z was mid is a b early late fault h = by (late fault h)
    where
      first : (was ≡ Some fault) ⊎ FallsShort sees p x y fault → (was ≡ Some fault) ⊎ FallsShort sees p x z fault
      first (inl k) = inl k
      first (inr s) = inr (short_more p x y z fault s b)

      by : (mid ≡ Some fault) ⊎ FallsShort sees p y z fault → (was ≡ Some fault) ⊎ FallsShort sees p x z fault
      by (inl k) = first (early fault k)
      by (inr s) = inr (short_after p x y z fault a s)

  pub short_in : (p q : Step → Bool) (x y : OwnRun) (was : Option CallFault) (fault : CallFault) → ((s : Step) → p s ≡ true → q s ≡ true)
      → (was ≡ Some fault) ⊎ FallsShort sees p x y fault → (was ≡ Some fault) ⊎ FallsShort sees q x y fault
  short_in p q x y was fault w (inl h) = inl h
  short_in p q x y was fault w (inr s) = inr (short_wider p q x y fault w s)

  -- ---- settling

  pub settles_wider : (p q : Step → Bool) (x y : OwnRun) (was is : Option CallFault) (So : Type 0) → ((s : Step) → p s ≡ true → q s ≡ true)
      → Settles sees p x y was is So → Settles sees q x y was is So
  settles_wider p q x y was is So w h = record {
    goes = goes_wider p q x y w h.goes;
    none = h.none;
    settled = h.settled;
    short = λ fault e. short_in p q x y was fault w (h.short fault e);
  }

  -- what went before settles nothing, and nothing comes to nothing there
  pub settles_after : (p : Step → Bool) (x y z : OwnRun) (was is : Option CallFault) (So : Type 0) → Goes sees p x y → NoneBegan x y
      → Settles sees p y z was is So → Settles sees p x z was is So
  settles_after p x y z was is So g n h = record {
    goes = goes_then p x y z g h.goes;
    none = none_then x y z n h.none;
    settled = h.settled;
    short = short_then p x y z was was is g h.goes (λ fault e. inl e) h.short;
  }

  pub settles_then : (p : Step → Bool) (x y z : OwnRun) (was mid is : Option CallFault) (So Also All : Type 0) → (So → Also → All)
      → Settles sees p x y was mid So → Settles sees p y z mid is Also → Settles sees p x z was is All
  settles_then p x y z was mid is So Also All both u v = record {
    goes = goes_then p x y z u.goes v.goes;
    none = none_then x y z u.none v.none;
    settled = λ h.
        let (k, late) = v.settled h in
        let (j, early) = u.settled k in
        (j, both early late);
    short = short_then p x y z was mid is u.goes v.goes u.short v.short;
  }

  pub settles_same : (p : Step → Bool) (x y : OwnRun) (was : Option CallFault) (So : Type 0) → y ≡ x → So → Settles sees p x y was was So
  settles_same p x y was So e so = record {
    goes = goes_same p x y e;
    none = none_same x y e;
    settled = λ h. (h, so);
    short = λ fault h. inl h;
  }

  -- ---- votes

  pub voters_same : (mine : Step → Bool) (x y : OwnRun) → ((t : Name) (g : ℕ) (step : Step) → mine step ≡ true → step_votes step g t ≡ false)
      → Goes sees mine x y → AllVotersTold x y
  voters_same mine x y f a t g new old = absurd (clash new (kept (λ step. step_votes step g t) mine x y (f t g) a ∙ old))

  -- who voted in the first part stays told through the second
  pub voters_then : (mine : Step → Bool) (x y z : OwnRun) → ((g : ℕ) (step : Step) → mine step ≡ true → step_crashes step g ≡ false)
      → AllVotersTold x y → AllVotersTold y z → Goes sees mine y z → AllVotersTold x z
  voters_then mine x y z f early late a t g new old = of (has_voted g t y.past) refl
    where
      of : (b : Bool) → has_voted g t y.past ≡ b → told_since_crash g t z.past ≡ true
      of true e = goes_told g t mine y z (f g) a (early t g e old)
      of false e = late t g new e

  -- ---- work

  pub works_quiet : (a : Name) (old new : OwnRun) (left : Option CallFault) → Goes sees (works_in a) old new → NoneBegan old new → Works sees a old new left left
  works_quiet a old new left g n = record {
    tops = [];
    began = none_of old new;
    goes = goes_wider (works_in a) (works_with [] a) old new (with_work [] a) g;
    settled = λ h. (h, all_settled_if_none old new n, voters_same (works_in a) old new (work_votes_not a) g);
    short = λ fault h. inl h;
  }

  pub works_then : (a : Name) (x y z : OwnRun) (p q r : Option CallFault) → Works sees a x y p q → Works sees a y z q r → Works sees a x z p r
  works_then a x y z p q r u v = record {
    tops = u.tops ++ v.tops;
    began =
        both_began u.tops v.tops x z (all_within u.tops x x y z here u.began (goes_grows (works_with v.tops a) y z v.goes))
        (all_within v.tops x y z z (goes_grows (works_with u.tops a) x y u.goes) v.began here);
    goes = goes_then (works_with (u.tops ++ v.tops) a) x y z early late;
    settled = λ h.
        let (k, late_settled, late_told) = v.settled h in
        let (j, early_settled, early_told) = u.settled k in (
          j,
          λ b new old. of b early_settled late_settled new old (is_begun b y.past) refl,
          voters_then (works_with (u.tops ++ v.tops) a) x y z (with_crashes_not (u.tops ++ v.tops) a) early_told late_told late,
        );
    short =
        short_then (works_with (u.tops ++ v.tops) a) x y z p q r early late
        (λ fault h. short_in (works_with u.tops a) (works_with (u.tops ++ v.tops) a) x y p fault (with_front u.tops v.tops a) (u.short fault h))
        (λ fault h. short_in (works_with v.tops a) (works_with (u.tops ++ v.tops) a) y z q fault (with_back u.tops v.tops a) (v.short fault h));
  }
    where
      early : Goes sees (works_with (u.tops ++ v.tops) a) x y
      early = goes_wider (works_with u.tops a) (works_with (u.tops ++ v.tops) a) x y (with_front u.tops v.tops a) u.goes

      late : Goes sees (works_with (u.tops ++ v.tops) a) y z
      late = goes_wider (works_with v.tops a) (works_with (u.tops ++ v.tops) a) y z (with_back u.tops v.tops a) v.goes

      of : (b : Name) → AllSettled x y → AllSettled y z → is_begun b z.past ≡ true → is_begun b x.past ≡ false → (t : Bool) → is_begun b y.past ≡ t
          → IsSettled b z
      of b first last new old true e =
          settled_stays (works_with (u.tops ++ v.tops) a) y z b (with_crashes_not (u.tops ++ v.tops) a) late (first b e old)
      of b first last new old false e = last b new e

  -- a subaction is below the action that calls it
  pub called_below : (x : OwnRun) (a : Name) (g : ℕ) (s : Name) → IsAnsweredTo sees x (steps.Call a g) (answers.Began (s ∷ [])) → is_below a s ≡ true
  called_below x a g s given =
      let e = called_child (opening_in x.lists) a g given.seen s (sym given.answered) in
      subst (λ c. is_below a c ≡ true) (sym e) (child_below a (next_number (opening_in x.lists) a given.seen))

  -- work in an action below, and its end, are work in this one
  module _ (a s : Name) (g : ℕ) (y z w : OwnRun) (was mid is : Option CallFault) (below : is_below a s ≡ true)
      (inside : Works sees s y z was mid) (ends : Settles sees (finishes s) z w mid is (EndedAndTold s g w)) where
    abbrev mine : Step → Bool
    mine = works_with inside.tops a

    inner_lift : (step : Step) → works_with inside.tops s step ≡ true → mine step ≡ true
    inner_lift = with_lift inside.tops a s (and_parts _ _ below).0

    inner_goes : Goes sees mine y z
    inner_goes = goes_wider (works_with inside.tops s) mine y z inner_lift inside.goes

    lifted : Settles sees mine z w mid is (EndedAndTold s g w)
    lifted =
        settles_wider (finishes s) mine z w mid is (EndedAndTold s g w)
        (λ step h. with_work inside.tops a step (finishes_below a s below step h)) ends

    pub works_ended : Works sees a y w was is
    works_ended = record {
      tops = inside.tops;
      began = all_within inside.tops y y z w here inside.began (goes_grows mine z w lifted.goes);
      goes = goes_then mine y z w inner_goes lifted.goes;
      settled = λ h.
          let (j, all, heard) = inside.settled (ends.settled h).0 in (
            j,
            λ b new old. settled_stays mine z w b crashes_not lifted.goes (all b (sym (ends.none b) ∙ new) old),
            voters_then mine y z w crashes_not heard (voters_same (finishes s) z w (finishes_votes_not s) ends.goes) lifted.goes,
          );
      short =
          short_then mine y z w was mid is inner_goes lifted.goes
          (λ fault h. short_in (works_with inside.tops s) mine y z was fault inner_lift (inside.short fault h)) lifted.short;
    }
      where
        crashes_not : (h : ℕ) (step : Step) → works_with inside.tops a step ≡ true → step_crashes step h ≡ false
        crashes_not = with_crashes_not inside.tops a

  -- work behind a step that began actions, if these are settled too
  module _ (a : Name) (step : Step) (names : List Name) (x y w : OwnRun) (was is : Option CallFault) (own : works_in a step ≡ true)
      (answer : IsAnsweredTo sees x step (answers.Began names)) (after : y ≡ own_after x step (answers.Began names))
      (work : Works sees a y w was is) (done : is ≡ None → (b : Name) → has_name names b ≡ true → IsSettled b w) where
    abbrev working : Step → Bool
    working = works_with work.tops a

    first_goes : Goes sees (works_in a) x y
    first_goes = goes_one (works_in a) step (answers.Began names) x y own answer after

    first_wider : Goes sees working x y
    first_wider = goes_wider (works_in a) working x y (with_work work.tops a) first_goes

    begun_settled : (b : Name) → is ≡ None → AllSettled y w → is_begun b w.past ≡ true → is_begun b x.past ≡ false → (t : Bool) → is_begun b y.past ≡ t
        → IsSettled b w
    begun_settled b h all new old true e =
        elim
        (begun_cases (record { step = step; answer = answers.Began names }) x.past b (sym (ap (λ (v : OwnRun). is_begun b v.past) after) ∙ e)) [
          | inl k ↦ done h b k
          | inr k ↦ absurd (clash k old)
        ]
    begun_settled b h all new old false e = all b new e

    pub works_begun : Works sees a x w was is
    works_begun = record {
      tops = work.tops;
      began = all_within work.tops x y w w (goes_grows working x y first_wider) work.began here;
      goes = goes_then working x y w first_wider work.goes;
      settled = λ h.
          let (j, all, heard) = work.settled h in (
            j,
            λ b new old. begun_settled b h all new old (is_begun b y.past) refl,
            voters_then working x y w (with_crashes_not work.tops a) (voters_same (works_in a) x y (work_votes_not a) first_goes) heard work.goes,
          );
      short = short_then working x y w was was is first_wider work.goes (λ fault e. inl e) work.short;
    }

  -- a subaction was called, worked and ended
  module _ (a s : Name) (g : ℕ) (x y z w : OwnRun) (was mid is : Option CallFault)
      (answer : IsAnsweredTo sees x (steps.Call a g) (answers.Began (s ∷ [])))
      (after : y ≡ own_after x (steps.Call a g) (answers.Began (s ∷ [])))
      (inside : Works sees s y z was mid) (ends : Settles sees (finishes s) z w mid is (EndedAndTold s g w)) where
    ended : Works sees a y w was is
    ended = works_ended a s g y z w was mid is (called_below x a g s answer) inside ends

    called_settled : is ≡ None → (b : Name) → has_name (s ∷ []) b ≡ true → IsSettled b w
    called_settled h b i =
        let (k, told) = ends.settled h in
        elim (or_cases (same_name s b) false i) [
          | inl e ↦
              subst (λ c. IsSettled c w) (same_name_true s b e)
              (settled_where s g y w (begun_at (steps.Call a g) s x y after g (eqb_self g)) (goes_grows (works_with ended.tops a) y w ended.goes) told)
          | inr e ↦ absurd (false≢true e)
        ]

    pub works_called : Works sees a x w was is
    works_called =
        works_begun a (steps.Call a g) (s ∷ []) x y w was is (prefix_self a) answer after ended called_settled
