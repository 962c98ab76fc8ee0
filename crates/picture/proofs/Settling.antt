-- Going up from an action: where it has settled, and whether it is below a doomed one.
use Rattle.std.proofs.Common.{◌≡◌, ◌-◌, ◌<◌, ◌≤◌, Bool, true, false, cond, not, ◌||◌, List, [], ◌∷◌, ◌++◌, length, map, Option, Some, None, IsNone, IsTrue, IfSome, ◌↔◌, is_some, unwrap_or, refl, sym, ap, subst, ◌∙◌, arith}
use Rattle.std.specs.List.{list_any}
use Rattle.std.specs.BTreeMap.{get}
use Rattle.std.specs.BTreeSet.{BTreeSet, contains}
use Rattle.std.proofs.lemmas.Bool.{false≢true, true≢false}
use Rattle.std.proofs.lemmas.List.{map-append}
use Rattle.action_names.specs.Names.{Name, IsName, ancestors, is_top, name_cmp, parent_of, top_of}
use Rattle.run_model.specs.declared.history.Event.{Event}
use Rattle.run_model.specs.Actions.{is_aborted}
use Rattle.run_model.specs.Telling.{last_passing, or_else}
use Rattle.run_model.specs.Visibility.{is_orphan}
use Rattle.picture.specs.declared.bars.Bars.{Bars}
use Rattle.picture.specs.Layouts.{AreBars}
use Rattle.picture.specs.Losses.{AreStranded, is_doomed, settled}
use Rattle.picture.proofs.Stranded.{aborted_is}

-- an action is the last of its ancestors
pub ancestors_last : (b : Name) → 1 ≤ length b → ancestors b ≡ ancestors (parent_of b) ++ b ∷ []
ancestors_last [] h = absurd (omega arith)
ancestors_last (n ∷ []) h = refl
ancestors_last (m ∷ n ∷ b) h =
    ap (λ l. (m ∷ []) ∷ map (λ a. m ∷ a) l) (ancestors_last (n ∷ b) (omega arith))
    ∙ ap (λ l. (m ∷ []) ∷ l) (map-append (λ a. m ∷ a) (ancestors (parent_of (n ∷ b))) ((n ∷ b) ∷ []))

pub length_parent : (b : Name) → length (parent_of b) ≡ length b - 1
length_parent [] = refl
length_parent (n ∷ []) = refl
length_parent (m ∷ n ∷ b) = omega (arith, length_parent (n ∷ b))

-- the parent has fewer numbers
pub shorter : (b a : Name) → 1 ≤ length b → a ≡ parent_of b → length a < length b
shorter b a named is = let l = ap length is in let m = length_parent b in omega arith

-- ---- the parent, as a call gives it

pub top_here : (b : Name) (parent : Option Name) → (IsNone parent ↔ IsTrue (is_top b)) → parent ≡ None → is_top b ≡ true
top_here b parent tops none = tops.0 (subst IsNone (sym none) refl)

pub sub_here : (b : Name) (parent : Option Name) (a : Name) → (IsNone parent ↔ IsTrue (is_top b)) → parent ≡ Some a → is_top b ≡ false
sub_here b parent a tops some = of (is_top b) refl
  where
    of : (t : Bool) → is_top b ≡ t → t ≡ false
    of true top = absurd (true≢false (subst IsNone some (tops.1 top)))
    of false other = refl

pub parent_here : (b : Name) (parent : Option Name) (a : Name) → IfSome parent (λ p. IsName p × (p ≡ parent_of b)) → parent ≡ Some a
    → IsName a × (a ≡ parent_of b)
parent_here b parent a is some = subst (λ o. IfSome o (λ p. IsName p × (p ≡ parent_of b))) some is

-- ---- where an action has settled

last_push : (p : Name → Bool) (names : List Name) (b : Name) → last_passing p (names ++ b ∷ []) ≡ cond (p b) (Some b) (last_passing p names)
last_push p [] b = refl
last_push p (c ∷ names) b =
    ap (λ o. or_else o (cond (p c) (Some c) None)) (last_push p names b) ∙ step (p b) (last_passing p names) (cond (p c) (Some c) None)
  where
    step : (t : Bool) (o x : Option Name) → or_else (cond t (Some b) o) x ≡ cond t (Some b) (or_else o x)
    step true o x = refl
    step false o x = refl

-- one that has not committed is settled
pub settled_here : (p : Name → Bool) (b : Name) → 1 ≤ length b → p b ≡ false → b ≡ settled p b
settled_here p b named open_ =
    sym (ap (λ o. unwrap_or o (top_of b))
    (ap (last_passing (λ c. not (p c))) (ancestors_last b named)
    ∙ last_push (λ c. not (p c)) (ancestors (parent_of b)) b
    ∙ ap (λ t. cond (not t) (Some b) (last_passing (λ c. not (p c)) (ancestors (parent_of b)))) open_))

-- a top action that has committed is settled too
pub settled_top : (p : Name → Bool) (b : Name) → is_top b ≡ true → p b ≡ true → b ≡ settled p b
settled_top p [] top done = absurd (false≢true top)
settled_top p (n ∷ []) top done = sym (ap (λ t. unwrap_or (or_else None (cond (not t) (Some (n ∷ [])) None)) (n ∷ [])) done)
settled_top p (m ∷ n ∷ b) top done = absurd (false≢true top)

top_of_parent : (b : Name) → is_top b ≡ false → top_of (parent_of b) ≡ top_of b
top_of_parent [] h = refl
top_of_parent (n ∷ []) h = absurd (false≢true (sym h))
top_of_parent (m ∷ n ∷ b) h = refl

-- one that has committed to its parent has settled where the parent has
pub settled_up : (p : Name → Bool) (b : Name) → 1 ≤ length b → is_top b ≡ false → p b ≡ true → settled p (parent_of b) ≡ settled p b
settled_up p b named sub done =
    ap (unwrap_or (last_passing (λ c. not (p c)) (ancestors (parent_of b)))) (top_of_parent b sub)
    ∙ sym (ap (λ o. unwrap_or o (top_of b))
    (ap (last_passing (λ c. not (p c))) (ancestors_last b named)
    ∙ last_push (λ c. not (p c)) (ancestors (parent_of b)) b
    ∙ ap (λ t. cond (not t) (Some b) (last_passing (λ c. not (p c)) (ancestors (parent_of b)))) done))

-- ---- orphans

any_push : (p : Name → Bool) (names : List Name) (b : Name) → list_any p (names ++ b ∷ []) ≡ (list_any p names || p b)
any_push p [] b = step (p b)
  where
    step : (t : Bool) → (t || false) ≡ t
    step true = refl
    step false = refl
any_push p (c ∷ names) b = ap (λ t. p c || t) (any_push p names b) ∙ step (p c) (list_any p names) (p b)
  where
    step : (r s t : Bool) → (r || (s || t)) ≡ ((r || s) || t)
    step true s t = refl
    step false s t = refl

or_true : (t : Bool) → (t || true) ≡ true
or_true true = refl
or_true false = refl

or_false : (t : Bool) → (t || false) ≡ t
or_false true = refl
or_false false = refl

any_last : (p : Name → Bool) (b : Name) → 1 ≤ length b → list_any p (ancestors b) ≡ (list_any p (ancestors (parent_of b)) || p b)
any_last p b named = ap (list_any p) (ancestors_last b named) ∙ any_push p (ancestors (parent_of b)) b

-- one that passes is found
pub any_here : (p : Name → Bool) (b : Name) → 1 ≤ length b → p b ≡ true → list_any p (ancestors b) ≡ true
any_here p b named passes =
    any_last p b named ∙ ap (λ t. list_any p (ancestors (parent_of b)) || t) passes ∙ or_true (list_any p (ancestors (parent_of b)))

-- one that does not pass is left behind
pub any_up : (p : Name → Bool) (b : Name) → 1 ≤ length b → p b ≡ false → list_any p (ancestors (parent_of b)) ≡ list_any p (ancestors b)
any_up p b named fails =
    sym (any_last p b named ∙ ap (λ t. list_any p (ancestors (parent_of b)) || t) fails ∙ or_false (list_any p (ancestors (parent_of b))))

-- above a top action there is none
pub any_top : (p : Name → Bool) (b : Name) → is_top b ≡ true → p b ≡ false → list_any p (ancestors b) ≡ false
any_top p [] top fails = refl
any_top p (n ∷ []) top fails = ap (λ t. t || false) fails
any_top p (m ∷ n ∷ b) top fails = absurd (false≢true top)

any_same : (p r : Name → Bool) (names : List Name) → ((c : Name) → p c ≡ r c) → list_any p names ≡ list_any r names
any_same p r [] is = refl
any_same p r (b ∷ names) is = ap (λ t. t || list_any p names) (is b) ∙ ap (λ t. r b || t) (any_same p r names is)

any_or : (p r : Name → Bool) (names : List Name) → list_any (λ c. p c || r c) names ≡ (list_any p names || list_any r names)
any_or p r [] = refl
any_or p r (b ∷ names) = ap (λ t. (p b || r b) || t) (any_or p r names) ∙ step (p b) (r b) (list_any p names) (list_any r names)
  where
    step : (s t u v : Bool) → ((s || t) || (u || v)) ≡ ((s || u) || (t || v))
    step true t u v = refl
    step false true true v = refl
    step false true false v = refl
    step false false u v = refl

-- who is below a doomed action is an orphan
pub orphan_is : (bars : Bars) (stranded : BTreeSet Name) (past : List Event) (a : Name) → 1 ≤ length a → AreBars bars past → AreStranded stranded past
    → list_any (is_doomed bars stranded) (ancestors a) ≡ is_orphan a past
orphan_is bars stranded past a named bars_are are =
    any_or (λ c. is_some (get name_cmp bars.aborted c)) (λ c. contains name_cmp stranded c) (ancestors a)
    ∙ ap (λ t. t || list_any (λ c. contains name_cmp stranded c) (ancestors a))
    (any_same (λ c. is_some (get name_cmp bars.aborted c)) (λ c. is_aborted c past) (ancestors a) (λ c. aborted_is bars past c bars_are))
    ∙ ap (λ t. list_any (λ c. is_aborted c past) (ancestors a) || t) (are a named)
