-- What threads make, by the receipts that they keep.
use Rattle.std.proofs.Common.{Bool, Err, IfOk, IsTrue, List, None, Ok, Result, Some, [], ap, append_assoc, append-nil, arith, false, inl, inr, length, refl, slice_get, subst, suc, sym, take, true, zero, ℕ, ◌++◌, ◌+◌, ◌∙◌, ◌∷◌, ◌≡◌, ◌⊎◌}
use Rattle.std.proofs.Math.Logic.{∥∥₁_elim, ∥∥₁_map}
use Rattle.std.proofs.lemmas.Bool.{and_parts, false≢true, or_left, or_right}
use Rattle.std.proofs.lemmas.List.{append_cancel_right, map-append, take_more}
use Rattle.std.proofs.lemmas.Option.{get_or_from_slice_get, slice_get_within}
use Rattle.std.specs.List.{list_all}
use Rattle.action_names.specs.Names.{Name, has_name, same_name}
use Rattle.run_model.specs.declared.history.Event.{Event}
use Rattle.run_model.specs.declared.step.Step.{Step}
use Rattle.run_model.specs.declared.step.Step.TheVariants.{Top, NestedTop, Call, Arms, Op, Commit, Close, Prepare, Decide, Abort, Tell, Crash, Recover}
use Rattle.run_model.specs.Actions.{is_begun, is_committed}
use Rattle.run_model.specs.Openings.{OpeningLists}
use Rattle.run_model.specs.Runs.{World}
use Rattle.run_laws.proofs.Names.{same_name_self}
use Rattle.script_model.specs.declared.checked.Checked.{Checked}
use Rattle.script_model.specs.declared.checked.Client.{Client}
use Rattle.script_model.specs.Resolved.{IsResolved, is_resolved_client}
use Rattle.activities.specs.declared.apart.BegunArm.{BegunArm}
use Rattle.activities.specs.declared.apart.EndedArm.{EndedArm}
use Rattle.activities.specs.declared.client.ClientEnd.{ClientEnd}
use Rattle.activities.specs.declared.client.ClientEnd.TheVariants.{Aborted, Committed}
use Rattle.activities.specs.Apart.{begun_name, begun_names, ended_name, ended_names}
use Rattle.activities.specs.Ends.{ClientMade}
use Rattle.activities.specs.Making.{AreOwn, CommitOnly, Makes}
use Rattle.activities.specs.OwnSteps.{IsOfAction}
use Rattle.activities.proofs.ArmsApart.{makes_within}
use Rattle.activities.proofs.Going.{alone}
use Rattle.activities.proofs.Making.{committed_parts}
use Rattle.client_threads.specs.declared.clients.DoneClient.{DoneClient}
use Rattle.client_threads.specs.Callers.{run_of}
use Rattle.client_threads.specs.Clients.{AllDid, AreDone, ClientDid, IsDone, IsDoneAt, top_event}
use Rattle.runtime.specs.Receipts.{events_of}
use Rattle.runtime.proofs.Events.{events_of-append}

-- ---- facts that crossed a channel

none_prop : IsProp ⊥
none_prop x y = absurd x

-- of two that are decided, one holds
one_of : (b c : Bool) → ∥ IsTrue b ⊎ IsTrue c ∥₁ → IsTrue b ⊎ IsTrue c
one_of true c t = inl refl
one_of false true t = inr refl
one_of false false t = absurd (∥∥₁_elim t none_prop neither)
  where
    neither : IsTrue false ⊎ IsTrue false → ⊥
    neither h = elim h [ inl e ↦ false≢true e | inr e ↦ false≢true e ]

of_action : (step : Step) → ∥ IsOfAction step ∥₁ → IsOfAction step
of_action (Top g) t = ∥∥₁_elim t none_prop (λ x. x)
of_action (NestedTop a) t = tt
of_action (Call a g) t = tt
of_action (Arms a kinds) t = tt
of_action (Op a x wanted) t = tt
of_action (Commit a) t = tt
of_action (Close a) t = tt
of_action (Prepare g a) t = tt
of_action (Decide a) t = tt
of_action (Abort a) t = tt
of_action (Tell g a) t = tt
of_action (Crash g) t = ∥∥₁_elim t none_prop (λ x. x)
of_action (Recover g) t = ∥∥₁_elim t none_prop (λ x. x)

pub own_from : (names : List Name) (events : List Event) → ∥ AreOwn names events ∥₁ → AreOwn names events
own_from names [] t = tt
own_from names (e ∷ before) t = (
  (of_action e.step (∥∥₁_map t (λ h. h.0.0)), λ a at. one_of (has_name names a) (is_begun a before) (∥∥₁_map t (λ h. h.0.1 a at))),
  own_from names before (∥∥₁_map t (λ h. h.1)),
)

pub commits_from : (names : List Name) (events : List Event) → ∥ CommitOnly names events ∥₁ → CommitOnly names events
commits_from names events t a h = one_of (has_name names a) (is_begun a events) (∥∥₁_map t (λ f. f a h))

-- what follows of two facts about what came
pub if_ok_two : {X E : Type 0} {P Q : X → Type 0} (Z : X → Type 0) (r : Result X E) → IfOk r P → IfOk r Q → ((x : X) → P x → Q x → Z x) → IfOk r Z
if_ok_two Z (Ok x) p q f = f x p q
if_ok_two Z (Err e) p q f = tt

-- ---- arms

-- what an arm made in a thread in which nothing had happened
pub made_own : (a b : Name) (old new : World) → old.past ≡ [] → b ≡ a → Makes (a ∷ []) (a ∷ []) old new → AreOwn (b ∷ []) new.past
made_own a b old new none e m =
    let is : m.later ≡ new.past = sym (m.past ∙ ap (λ l. m.later ++ l) none ∙ append-nil m.later) in
    subst (λ n. AreOwn (n ∷ []) new.past) (sym e) (subst (AreOwn (a ∷ [])) is m.own)

pub made_commits : (a b : Name) (old new : World) → old.past ≡ [] → b ≡ a → Makes (a ∷ []) (a ∷ []) old new → CommitOnly (b ∷ []) new.past
made_commits a b old new none e m =
    let is : m.later ≡ new.past = sym (m.past ∙ ap (λ l. m.later ++ l) none ∙ append-nil m.later) in
    subst (λ n. CommitOnly (n ∷ []) new.past) (sym e) (subst (CommitOnly (a ∷ [])) is m.commits)

-- the receipts of an arm were taken
pub taken_makes : (lists : OpeningLists) (names : List Name) (a : Name) (old own new : List (List Event)) → IsTrue (has_name names a)
    → new ≡ old ++ own → ∥ AreOwn (a ∷ []) (events_of own) ∥₁ → ∥ CommitOnly (a ∷ []) (events_of own) ∥₁
    → Makes names names (record { lists = lists; past = events_of old }) (record { lists = lists; past = events_of new })
taken_makes lists names a old own new among is steps commits =
    makes_within (a ∷ []) names _ _ (λ b h. subst (λ n. IsTrue (has_name names n)) (alone a b h) among) one
  where
    one : Makes (a ∷ []) (a ∷ []) (record { lists = lists; past = events_of old }) (record { lists = lists; past = events_of new })
    one = record {
      same_opening = refl;
      later = events_of own;
      past = ap events_of is ∙ events_of-append old own;
      own = own_from (a ∷ []) (events_of own) steps;
      commits = commits_from (a ∷ []) (events_of own) commits;
    }

-- so by a caller
pub learned : (lists left : OpeningLists) (names : List Name) (a : Name) (old own new : List (List Event)) → left ≡ lists → IsTrue (has_name names a)
    → new ≡ old ++ own → ∥ AreOwn (a ∷ []) (events_of own) ∥₁ → ∥ CommitOnly (a ∷ []) (events_of own) ∥₁
    → Makes names names (run_of lists old) (run_of left new)
learned lists left names a old own new calls among is steps commits =
    subst (λ l. Makes names names (run_of lists old) (run_of l new)) (sym calls) (taken_makes lists names a old own new among is steps commits)

some_same : {A : Type 0} (x y : A) → Some x ≡ Some y → x ≡ y
some_same x y e = cc

nothing_there : {A : Type 0} (x : A) → None ≡ Some x → ⊥
nothing_there x e = cc

-- a name that stands in a list is one of it
pub one_of_names : (names : List Name) (i : ℕ) (a : Name) → slice_get names i ≡ Some a → IsTrue (has_name names a)
one_of_names [] i a e = absurd (nothing_there a e)
one_of_names (b ∷ names) zero a e =
    or_left (same_name b a) (has_name names a) (subst (λ n. IsTrue (same_name b n)) (some_same b a e) (same_name_self b))
one_of_names (b ∷ names) (suc i) a e = or_right (same_name b a) (has_name names a) (one_of_names names i a e)

-- a name that is the same as one that stands in a list
pub named_there : (names : List Name) (i : ℕ) (a b : Name) → same_name a b ≡ true → slice_get names i ≡ Some b → slice_get names i ≡ Some a
named_there names i a b same at = at ∙ ap Some (sym (alone a b (or_left (same_name a b) false same)))

-- the names of one arm more
pub begun_more : (arms : List BegunArm) (i : ℕ) (arm : BegunArm) → slice_get arms i ≡ Some arm
    → begun_names (take i arms) ++ begun_name arm ∷ [] ≡ begun_names (take (i + 1) arms)
begun_more arms i arm at =
    sym (map-append begun_name (take i arms) (arm ∷ [])) ∙ ap (λ a. begun_names (take i arms ++ a ∷ [])) (sym (get_or_from_slice_get arms i arm arm at))
    ∙ ap begun_names (sym (take_more arms i arm (slice_get_within arms i arm at)))

pub ended_more : (names : List Name) (ended : List EndedArm) (i : ℕ) (arm : EndedArm) → ended_names ended ≡ take i names
    → slice_get names i ≡ Some (ended_name arm) → ended_names (ended ++ arm ∷ []) ≡ take (i + 1) names
ended_more names ended i arm so_far at =
    map-append ended_name ended (arm ∷ []) ∙ ap (λ l. l ++ ended_name arm ∷ []) so_far
    ∙ ap (λ a. take i names ++ a ∷ []) (sym (get_or_from_slice_get names i (ended_name arm) (ended_name arm) at))
    ∙ sym (take_more names i (ended_name arm) (slice_get_within names i (ended_name arm) at))

-- ---- clients

all_at : {A : Type 0} (p : A → Bool) (xs : List A) (i : ℕ) (x : A) → list_all p xs ≡ true → slice_get xs i ≡ Some x → p x ≡ true
all_at p [] i x h e = absurd (nothing_there x e)
all_at p (y ∷ xs) zero x h e = subst (λ z. p z ≡ true) (some_same y x e) (and_parts _ _ h).0
all_at p (y ∷ xs) (suc i) x h e = all_at p xs i x (and_parts _ _ h).1 e

-- the client at this place
pub client_resolved : (script : Checked) (place : ℕ) (client : Client) → IsResolved script → slice_get script.clients place ≡ Some client
    → IsTrue (is_resolved_client script client)
client_resolved script place client r = all_at (is_resolved_client script) script.clients place client r.clients

-- if it is known what the client there did, so is what whoever is found there did
pub done_there : {K : Type 0} (clients : List Client) (place : ℕ) (client : Client) (one : DoneClient K) → slice_get clients place ≡ Some client
    → IsDone client one → IsDoneAt clients place one
done_there clients place client one at is other there = subst (λ k. IsDone k one) (some_same client other (sym at ∙ there)) is

-- a client ran in a thread in which nothing had happened
pub client_did : (home : ℕ) (end : ClientEnd) (lists : OpeningLists) (new : World) → ClientMade home end (record { lists = lists; past = [] }) new
    → ClientDid home end new.past
client_did home (Committed a value) lists new made =
    let m = made.makes in
    let told : IsTrue (is_committed a m.later) =
    elim (committed_parts a m.later (top_event home a ∷ []) (subst (λ l. IsTrue (is_committed a l)) m.past made.told)) [
      | inl c ↦ c
      | inr c ↦ absurd (false≢true c)
    ] in
    record { later = m.later; events_are = m.past; own = m.own; commits = m.commits; told = told }
client_did home (Aborted (Some a)) lists new made =
    let m = made.makes in
    let n = made.told in
    let same : n.later ≡ m.later = append_cancel_right n.later m.later (top_event home a ∷ []) (sym n.past ∙ m.past) in
    record { later = m.later; events_are = m.past; own = m.own; commits = m.commits; told = subst (CommitOnly []) same n.commits }
client_did home (Aborted None) lists new made = ap (λ w. w.past) made.makes

-- one more client
pub did_more : (clients : List Client) (ends : List ClientEnd) (receipts : List (List Event)) (c : Client) (end : ClientEnd) (own : List (List Event))
    → AllDid clients ends receipts → ClientDid c.home end (events_of own) → AllDid (clients ++ c ∷ []) (ends ++ end ∷ []) (receipts ++ own)
did_more [] ends receipts c end own did d =
    subst (λ l. AllDid (c ∷ []) (l ++ end ∷ []) (receipts ++ own)) (sym did.0)
    (subst (λ l. AllDid (c ∷ []) (end ∷ []) (l ++ own)) (sym did.1) (own, [], sym (append-nil own), d, (refl, refl)))
did_more (k ∷ clients) [] receipts c end own did d = absurd did
did_more (k ∷ clients) (e ∷ ends) receipts c end own did d =
    (did.0, did.1 ++ own, ap (λ l. l ++ own) did.2 ∙ append_assoc did.0 did.1 own, did.3, did_more clients ends did.1 c end own did.4 d)

module _ {K : Type 0} where
  -- the client at this place, and the first so many with it
  pub done_at : (clients : List Client) (done : List (DoneClient K)) (i : ℕ) (one : DoneClient K) → AreDone clients done → slice_get done i ≡ Some one
      → (c : Client) × (take (suc i) clients ≡ take i clients ++ c ∷ []) × IsDone c one
  done_at [] [] i one are e = absurd (none_is e)
    where
      none_is : None ≡ Some one → ⊥
      none_is h = cc
  done_at [] (d ∷ done) i one are e = absurd are
  done_at (c ∷ clients) [] i one are e = absurd are
  done_at (c ∷ clients) (d ∷ done) zero one are e =
      let same : d ≡ one = cc in (c, refl, subst (IsDone c) same are.0)
  done_at (c ∷ clients) (d ∷ done) (suc i) one are e =
      let (k, more, is) = done_at clients done i one are.1 e in (k, ap (λ l. c ∷ l) more, is)

  -- one more, with what it did
  pub did_next : (clients : List Client) (done : List (DoneClient K)) (i : ℕ) (one : DoneClient K) (end : ClientEnd) (ends : List ClientEnd)
      (receipts : List (List Event)) → AreDone clients done → slice_get done i ≡ Some one → one.end ≡ Ok end
      → AllDid (take i clients) ends receipts → AllDid (take (i + 1) clients) (ends ++ end ∷ []) (receipts ++ one.receipts)
  did_next clients done i one end ends receipts are at ended did =
      let (c, more, is) = done_at clients done i one are at in
      let own : ClientDid c.home end (events_of one.receipts) = subst (λ r. IfOk r (λ e. ClientDid c.home e (events_of one.receipts))) ended is in
      let count : i + 1 ≡ suc i = omega arith in
      let next : take (i + 1) clients ≡ take i clients ++ c ∷ [] = ap (λ n. take n clients) count ∙ more in
      subst (λ cs. AllDid cs (ends ++ end ∷ []) (receipts ++ one.receipts)) (sym next)
      (did_more (take i clients) ends receipts c end one.receipts did own)

  pub as_many : (clients : List Client) (done : List (DoneClient K)) → AreDone clients done → length clients ≡ length done
  as_many [] [] are = refl
  as_many [] (d ∷ done) are = absurd are
  as_many (c ∷ clients) [] are = absurd are
  as_many (c ∷ clients) (d ∷ done) are = ap suc (as_many clients done are.1)

  -- each at its place
  pub all_done : (clients : List Client) (done : List (DoneClient K)) → length done ≡ length clients
      → ((i : ℕ) (one : DoneClient K) → slice_get done i ≡ Some one → IsDoneAt clients i one) → AreDone clients done
  all_done [] [] e f = tt
  all_done [] (d ∷ done) e f = absurd (none e)
    where
      none : suc (length done) ≡ 0 → ⊥
      none h = omega (arith, h)
  all_done (c ∷ clients) [] e f = absurd (none e)
    where
      none : 0 ≡ suc (length clients) → ⊥
      none h = omega (arith, h)
  all_done (c ∷ clients) (d ∷ done) e f = (f 0 d refl c refl, all_done clients done (omega (arith, e)) (λ i one h client k. f (suc i) one h client k))
