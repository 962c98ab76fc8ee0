-- Which actions see a lost one: those below the actions where lost ones have settled.
use Rattle.std.proofs.Common.{◌≡◌, ℕ, Bool, true, false, cond, not, ◌&&◌, ◌||◌, List, [], ◌∷◌, ◌++◌, map, Some, None, is_some, unwrap_or, refl, sym, ap, subst, ◌∙◌, arith, inl, inr}
use Rattle.std.specs.List.{list_any}
use Rattle.std.specs.BTreeMap.{get}
use Rattle.std.specs.BTreeSet.{BTreeSet, contains}
use Rattle.std.specs.Borrow.{Bor}
use Rattle.std.specs.Map.Iter.{deref}
use Rattle.std.specs.Ordering.{eq_by_cmp}
use Rattle.std.proofs.lemmas.Bool.{and_parts, false≢true, or_cases, or_left, or_right}
use Rattle.action_names.specs.Comparison.{same_name-ties}
use Rattle.action_names.specs.Names.{Name, ancestors, has_name, is_ancestor, name_cmp, same_name, top_of}
use Rattle.run_model.specs.declared.history.Event.{Event}
use Rattle.run_model.specs.Actions.{begun, is_aborted, is_begun, is_committed, names_begun, step_aborts, step_commits}
use Rattle.run_model.specs.Telling.{last_passing, or_else}
use Rattle.run_model.specs.Visibility.{is_lost, is_visible}
use Rattle.run_laws.proofs.Names.{any_ancestor_from, any_ancestor_use, any_name, has_name_append, same_name_self, same_name_true}
use Rattle.picture.specs.declared.bars.Bars.{Bars}
use Rattle.picture.specs.declared.losses.Losses.{Losses}
use Rattle.picture.specs.Layouts.{AreBars}
use Rattle.picture.specs.Losses.{AreLosses, AreStranded, settled}
use Rattle.picture.proofs.Newest.{newest_is}
use Rattle.picture.proofs.Visible.{seen}

-- two tests that follow from one another say the same
same : (s t : Bool) → (s ≡ true → t ≡ true) → (t ≡ true → s ≡ true) → s ≡ t
same true t there back = sym (there refl)
same false true there back = back refl
same false false there back = refl

-- where some name passes, there it is
which : (p : Name → Bool) (names : List Name) → list_any p names ≡ true → (b : Name) × (has_name names b ≡ true) × (p b ≡ true)
which p [] h = absurd (false≢true h)
which p (b ∷ names) h = elim (or_cases _ _ h) [
  | inl k ↦ (b, or_left _ _ (same_name_self b), k)
  | inr k ↦ let (c, l, m) = which p names k in (c, or_right _ _ l, m)
]

-- a set has just the names among its keys
pub contains_is : (s : BTreeSet Name) (b : Name) → contains name_cmp s b ≡ has_name s.keys b
contains_is s b = go s.keys
  where
    swap : (a c : Name) → same_name a c ≡ same_name c a
    swap a c = same _ _ (λ h. subst (λ x. same_name x a ≡ true) (same_name_true a c h) (same_name_self a))
        (λ h. subst (λ x. same_name x c ≡ true) (same_name_true c a h) (same_name_self c))

    go : (keys : List Name) → list_any (λ k. eq_by_cmp name_cmp b k) keys ≡ has_name keys b
    go [] = refl
    go (k ∷ keys) = ap (λ t. t || list_any (λ x. eq_by_cmp name_cmp b x) keys) (sym (same_name-ties b k) ∙ swap b k) ∙ ap (λ t. same_name k b || t) (go keys)

-- what is lost was begun
pub lost_begun : (b : Name) (past : List Event) → is_lost b past ≡ true → is_begun b past ≡ true
lost_begun b [] h = absurd (false≢true h)
lost_begun b (e ∷ past) h =
    has_name_append (names_begun e.answer) (begun past) b
    ∙ or_right _ _ (elim (or_cases _ _ h) [ inl k ↦ lost_begun b past k | inr k ↦ (and_parts _ _ k).0 ])

-- tests that say the same find the same
last_same : (p r : Name → Bool) (names : List Name) → ((c : Name) → p c ≡ r c) → last_passing p names ≡ last_passing r names
last_same p r [] is = refl
last_same p r (b ∷ names) is =
    ap (λ o. or_else o (cond (p b) (Some b) None)) (last_same p r names is)
    ∙ ap (λ t. or_else (last_passing r names) (cond t (Some b) None)) (is b)

-- what is kept says who has committed
pub committed_is : (bars : Bars) (past : List Event) (c : Name) → AreBars bars past → is_some (get name_cmp bars.committed c) ≡ is_committed c past
committed_is bars past c are = ap is_some (are.committed c) ∙ newest_is (λ step. step_commits step c) past

pub aborted_is : (bars : Bars) (past : List Event) (c : Name) → AreBars bars past → is_some (get name_cmp bars.aborted c) ≡ is_aborted c past
aborted_is bars past c are = ap is_some (are.aborted c) ∙ newest_is (λ step. step_aborts step c) past

pub settled_is : (bars : Bars) (past : List Event) (b : Name) → AreBars bars past
    → settled (λ c. is_some (get name_cmp bars.committed c)) b ≡ settled (λ c. is_committed c past) b
settled_is bars past b are =
    ap (λ o. unwrap_or o (top_of b))
    (last_same (λ c. not (is_some (get name_cmp bars.committed c))) (λ c. not (is_committed c past)) (ancestors b) (λ c. ap not (committed_is bars past c are)))

-- the actions where the lost ones of a list have settled
abbrev pub settled_among : (Name → Bool) → List Name → Name → Bool
settled_among committed lost c = list_any (λ b. same_name (settled committed b) c) lost

settled_push : (committed : Name → Bool) (xs : List (Bor Name)) (x : Bor Name) (q : Name)
    → settled_among committed (map deref (xs ++ x ∷ [])) q ≡ (settled_among committed (map deref xs) q || same_name (settled committed x.now) q)
settled_push committed [] x q = step (same_name (settled committed x.now) q)
  where
    step : (t : Bool) → (t || false) ≡ t
    step true = refl
    step false = refl
settled_push committed (y ∷ xs) x q =
    ap (λ t. same_name (settled committed y.now) q || t) (settled_push committed xs x q)
    ∙ step (same_name (settled committed y.now) q) (settled_among committed (map deref xs) q) (same_name (settled committed x.now) q)
  where
    step : (r s t : Bool) → (r || (s || t)) ≡ ((r || s) || t)
    step true s t = refl
    step false s t = refl

-- one lost action more
pub one_settled : (committed : Name → Bool) (xs : List (Bor Name)) (x : Bor Name) (old new : BTreeSet Name) (k q : Name) → k ≡ settled committed x.now
    → contains name_cmp old q ≡ settled_among committed (map deref xs) q
    → contains name_cmp new q ≡ cond (eq_by_cmp name_cmp k q) true (contains name_cmp old q)
    → contains name_cmp new q ≡ settled_among committed (map deref (xs ++ x ∷ [])) q
one_settled committed xs x old new k q is was put =
    put ∙ ap (λ t. cond t true (contains name_cmp old q)) (sym (same_name-ties k q) ∙ ap (λ a. same_name a q) is)
    ∙ step (same_name (settled committed x.now) q) (contains name_cmp old q)
    ∙ ap (λ t. t || same_name (settled committed x.now) q) was
    ∙ sym (settled_push committed xs x q)
  where
    step : (t u : Bool) → cond t true u ≡ (u || t)
    step true true = refl
    step true false = refl
    step false true = refl
    step false false = refl

-- an action that is settled at an action of a name has a name
settled_named : (committed : Name → Bool) (b c a : Name) → settled committed b ≡ c → is_ancestor c a ≡ true → (m : ℕ) × (d : Name) × (b ≡ m ∷ d)
settled_named committed [] c a is up = absurd (false≢true (subst (λ x. is_ancestor x a ≡ true) (sym is) up))
settled_named committed (m ∷ d) c a is up = (m, d, refl)

-- the actions where lost ones have settled are those below which actions see a lost one
pub are_stranded : (bars : Bars) (losses : Losses) (stranded : BTreeSet Name) (past : List Event) → AreBars bars past → AreLosses losses past
    → ((q : Name) → contains name_cmp stranded q ≡ settled_among (λ c. is_some (get name_cmp bars.committed c)) losses.lost.keys q)
    → AreStranded stranded past
are_stranded bars losses stranded past bars_are losses_are settles [] named = absurd (omega arith)
are_stranded bars losses stranded past bars_are losses_are settles (n ∷ a) named = same _ _ there back
  where
    -- below where it has settled, a lost action is seen
    is_seen : (m : ℕ) (d : Name) → is_lost (m ∷ d) past ≡ true
        → (same_name (m ∷ []) (n ∷ []) && (is_lost (m ∷ d) past && is_visible (m ∷ d) (n ∷ a) past))
        ≡ is_ancestor (settled (λ c. is_some (get name_cmp bars.committed c)) (m ∷ d)) (n ∷ a)
    is_seen m d lost =
        ap (λ t. same_name (m ∷ []) (n ∷ []) && (t && is_visible (m ∷ d) (n ∷ a) past)) lost
        ∙ seen m n d a past
        ∙ ap (λ c. is_ancestor c (n ∷ a)) (sym (settled_is bars past (m ∷ d) bars_are))

    there : list_any (λ c. contains name_cmp stranded c) (ancestors (n ∷ a)) ≡ true
        → list_any (λ b. same_name (top_of b) (n ∷ []) && (is_lost b past && is_visible b (n ∷ a) past)) (begun past) ≡ true
    there h =
        let (c, up, has) = any_ancestor_use (λ c. contains name_cmp stranded c) (n ∷ a) h in
        let (b, key, at) = which (λ b. same_name (settled (λ x. is_some (get name_cmp bars.committed x)) b) c) losses.lost.keys (sym (settles c) ∙ has) in
        let is = same_name_true _ c at in
        let (m, d, shape) = settled_named (λ x. is_some (get name_cmp bars.committed x)) b c (n ∷ a) is up in
        let lost : is_lost b past ≡ true =
        subst (λ x. has_name losses.lost.keys x ≡ true → is_lost x past ≡ true) (sym shape)
        (λ k. sym (losses_are.lost (m ∷ d) (omega arith)) ∙ contains_is losses.lost (m ∷ d) ∙ k) key in
        any_name (λ x. same_name (top_of x) (n ∷ []) && (is_lost x past && is_visible x (n ∷ a) past)) (begun past) b (lost_begun b past lost)
        (subst (λ x. is_lost x past ≡ true → is_ancestor (settled (λ y. is_some (get name_cmp bars.committed y)) x) (n ∷ a) ≡ true
        → (same_name (top_of x) (n ∷ []) && (is_lost x past && is_visible x (n ∷ a) past)) ≡ true) (sym shape)
        (λ l s. is_seen m d l ∙ s) lost (ap (λ x. is_ancestor x (n ∷ a)) is ∙ up))

    named_back : (b : Name) → (same_name (top_of b) (n ∷ []) && (is_lost b past && is_visible b (n ∷ a) past)) ≡ true
        → list_any (λ c. contains name_cmp stranded c) (ancestors (n ∷ a)) ≡ true
    named_back [] at = absurd (false≢true at)
    named_back (m ∷ d) at =
        let lost = (and_parts _ _ (and_parts _ _ at).1).0 in
        let up = sym (is_seen m d lost) ∙ at in
        let key = sym (contains_is losses.lost (m ∷ d)) ∙ losses_are.lost (m ∷ d) (omega arith) ∙ lost in
        any_ancestor_from (λ c. contains name_cmp stranded c) (n ∷ a) (settled (λ x. is_some (get name_cmp bars.committed x)) (m ∷ d)) up
        (settles (settled (λ x. is_some (get name_cmp bars.committed x)) (m ∷ d))
        ∙ any_name (λ b. same_name (settled (λ x. is_some (get name_cmp bars.committed x)) b) (settled (λ x. is_some (get name_cmp bars.committed x)) (m ∷ d)))
        losses.lost.keys (m ∷ d) key (same_name_self (settled (λ x. is_some (get name_cmp bars.committed x)) (m ∷ d))))

    back : list_any (λ b. same_name (top_of b) (n ∷ []) && (is_lost b past && is_visible b (n ∷ a) past)) (begun past) ≡ true
        → list_any (λ c. contains name_cmp stranded c) (ancestors (n ∷ a)) ≡ true
    back h = let (b, old, at) = which (λ x. same_name (top_of x) (n ∷ []) && (is_lost x past && is_visible x (n ∷ a) past)) (begun past) h in named_back b at
