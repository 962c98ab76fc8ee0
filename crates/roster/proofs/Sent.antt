-- What an event brings under a name.
use Rattle.std.proofs.Common.{Bool, List, [], None, Option, Some, ap, arith, cond, false, get_or, inl, inr, length, map, refl, subst, suc, sym, true, zero, ℕ, ◌||◌, ◌<◌, ◌∙◌, ◌∷◌, ◌≡◌}
use Rattle.std.specs.FinMap as tree
use Rattle.std.specs.List.{AllByRecursion}
use Rattle.std.specs.Option.{option_and_then}
use Rattle.std.specs.Prelude.{MatchOption}
use Rattle.std.proofs.lemmas.Bool.{or_cases, or_left, or_right}
use Rattle.action_names.specs.Deps.{Deps}
use Rattle.action_names.specs.Names.{IsName, Name, has_name, same_name}
use Rattle.action_names.proofs.Ancestry.{same_is, same_refl}
use Rattle.run_model.specs.declared.history.Event.{Event}
use Rattle.run_model.specs.declared.step.Step.{Step}
use Rattle.run_model.specs.declared.step.Step.TheVariants.{Abort, Arms, Call, Close, Commit, Crash, Decide, NestedTop, Op, Prepare, Recover, Tell, Top}
use Rattle.run_model.specs.Actions.{begins, is_begun, names_begun}
use Rattle.run_model.specs.LocalHistories.{dependency_there, entries_of}
use Rattle.run_model.specs.LocalReadings.{LocalEvent, beside, events_here, least_of}
use Rattle.guardian_laws.specs.Actions.{AgreesOnActions, are_new, was_begun}
use Rattle.layer_contracts.specs.Forests.{ForestState}
use Rattle.layer_contracts.specs.Messages.{known_sent}
use Rattle.roster.proofs.Came.{beside_get}
use Rattle.roster.proofs.Events.{new_not_begun, one_is_new}
use Rattle.roster.proofs.Names.{clash}
use Rattle.roster.specs.Entries.{CommitsOld}
use Rattle.roster.specs.Steps.{tells_of}

-- an action depends on what its entries say
pub entries_say : {R : Type 0} (now : R → Deps) (came : Option R) (es : List (ℕ × ℕ)) (h : ℕ)
    → MatchOption came (es ≡ []) (λ d. tree.entries (now d) ≡ es) → option_and_then (λ d. tree.get (now d) h) came ≡ beside es h
entries_say now None es h none = ap (λ l. beside l h) (sym none)
entries_say now (Some d) es h is = sym (beside_get (now d) h) ∙ ap (λ l. beside l h) is

-- ---- of known actions

-- what is brought of the action that commits or prepares
pub known_says : (f : ForestState) (s : Step) (a : Name) (h : ℕ) → tells_of s a ≡ true
    → least_of (known_sent f s) a h ≡ beside (entries_of f.opening (λ k. dependency_there a k f.registry)) h
known_says f (Commit b) a h same =
    ap (λ t. cond t (beside (entries_of f.opening (λ k. dependency_there b k f.registry)) h) None) same
    ∙ ap (λ c. beside (entries_of f.opening (λ k. dependency_there c k f.registry)) h) (same_is b a same)
known_says f (Prepare g b) a h same =
    ap (λ t. cond t (beside (entries_of f.opening (λ k. dependency_there b k f.registry)) h) None) same
    ∙ ap (λ c. beside (entries_of f.opening (λ k. dependency_there c k f.registry)) h) (same_is b a same)
known_says f (Abort b) a h same = absurd (cc)
known_says f (Decide b) a h same = absurd (cc)
known_says f (Close b) a h same = absurd (cc)
known_says f (Tell g b) a h same = absurd (cc)
known_says f (Top g) a h same = absurd (cc)
known_says f (NestedTop b) a h same = absurd (cc)
known_says f (Call b g) a h same = absurd (cc)
known_says f (Arms b kinds) a h same = absurd (cc)
known_says f (Op b x wanted) a h same = absurd (cc)
known_says f (Crash g) a h same = absurd (cc)
known_says f (Recover g) a h same = absurd (cc)

-- of another nothing is
pub others_unsaid : (f : ForestState) (s : Step) (a : Name) (h : ℕ) → tells_of s a ≡ false → least_of (known_sent f s) a h ≡ None
others_unsaid f (Commit b) a h other = ap (λ t. cond t (beside (entries_of f.opening (λ k. dependency_there b k f.registry)) h) None) other
others_unsaid f (Prepare g b) a h other = ap (λ t. cond t (beside (entries_of f.opening (λ k. dependency_there b k f.registry)) h) None) other
others_unsaid f (Abort b) a h other = refl
others_unsaid f (Decide b) a h other = refl
others_unsaid f (Close b) a h other = refl
others_unsaid f (Tell g b) a h other = refl
others_unsaid f (Top g) a h other = refl
others_unsaid f (NestedTop b) a h other = refl
others_unsaid f (Call b g) a h other = refl
others_unsaid f (Arms b kinds) a h other = refl
others_unsaid f (Op b x wanted) a h other = refl
others_unsaid f (Crash g) a h other = refl
others_unsaid f (Recover g) a h other = refl

-- ---- of what begins

-- the first entry of a name says what any of it says
pub first_says : (said : Name → List (ℕ × ℕ)) (names : List Name) (a : Name) (h : ℕ) → has_name names a ≡ true
    → least_of (map (λ b. (b, said b)) names) a h ≡ beside (said a) h
first_says said [] a h has = absurd (cc)
first_says said (b ∷ bs) a h has = of (same_name b a) refl (first_says said bs a h)
  where
    of : (s : Bool) → same_name b a ≡ s
        → (has_name bs a ≡ true → least_of (map (λ c. (c, said c)) bs) a h ≡ beside (said a) h)
        → least_of (map (λ c. (c, said c)) (b ∷ bs)) a h ≡ beside (said a) h
    of true same rest =
        ap (λ t. cond t (beside (said b) h) (least_of (map (λ c. (c, said c)) bs) a h)) same ∙ ap (λ c. beside (said c) h) (same_is b a same)
    of false other rest =
        ap (λ t. cond t (beside (said b) h) (least_of (map (λ c. (c, said c)) bs) a h)) other
        ∙ rest (ap (λ t. t || has_name bs a) (sym other) ∙ has)

-- without an entry of it nothing is said
pub none_says : (said : Name → List (ℕ × ℕ)) (names : List Name) (a : Name) (h : ℕ) → has_name names a ≡ false
    → least_of (map (λ b. (b, said b)) names) a h ≡ None
none_says said [] a h none = refl
none_says said (b ∷ bs) a h none = of (same_name b a) refl (none_says said bs a h)
  where
    of : (s : Bool) → same_name b a ≡ s → (has_name bs a ≡ false → least_of (map (λ c. (c, said c)) bs) a h ≡ None)
        → least_of (map (λ c. (c, said c)) (b ∷ bs)) a h ≡ None
    of true same rest = absurd (clash (ap (λ t. t || has_name bs a) same) none)
    of false other rest =
        ap (λ t. cond t (beside (said b) h) (least_of (map (λ c. (c, said c)) bs) a h)) other
        ∙ rest (ap (λ t. t || has_name bs a) (sym other) ∙ none)

-- a name at a place is among the names
pub has_at : (names : List Name) (i : ℕ) (a : Name) → i < length names → a ≡ get_or names i a → has_name names a ≡ true
has_at [] i a less is = absurd (omega arith)
has_at (b ∷ bs) zero a less is = or_left _ _ (subst (λ c. same_name c a ≡ true) is (same_refl a))
has_at (b ∷ bs) (suc i) a less is = or_right _ _ (has_at bs i a (omega arith) is)

-- what is among names has what each of them has
pub names_have : {X : Type 0} (name : X → Name) (xs : List X) (a : Name) → AllByRecursion (λ x. IsName (name x)) xs
    → has_name (map name xs) a ≡ true → IsName a
names_have name [] a all has = absurd (cc)
names_have name (x ∷ xs) a all has = elim (or_cases (same_name (name x) a) (has_name (map name xs) a) has) [
  | inl same ↦ subst IsName (same_is (name x) a same) all.0
  | inr later ↦ names_have name xs a all.1 later
]

-- an event that agrees with a history begins no action that it commits
pub commits_old : (e : Event) (g : ℕ) (c : LocalEvent) (here : List LocalEvent) → c.event ≡ e → AgreesOnActions g c here
    → ((a : Name) → has_name (names_begun e.answer) a ≡ true → IsName a) → CommitsOld e
commits_old e g c here same agrees named a commits = of (begins e a) refl
  where
    was : is_begun a (events_here here) ≡ true
    was = subst (λ s. was_begun s (events_here here) ≡ true) (ap (λ k. k.step) same ∙ commits) agrees.known

    new : are_new (names_begun e.answer) (events_here here) ≡ true
    new = subst (λ k. are_new (names_begun k.answer) (events_here here) ≡ true) same agrees.new

    of : (b : Bool) → begins e a ≡ b → b ≡ false
    of false has = refl
    of true has =
        absurd (clash was (new_not_begun a (events_here here) (one_is_new (names_begun e.answer) (events_here here) new a has) (named a has).not_empty))
