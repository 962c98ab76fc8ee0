-- What one name more, and one event more, add to the actions that were begun.
use Rattle.std.proofs.Common.{◌≡◌, ℕ, suc, ◌+◌, ◌<◌, Bool, true, false, cond, ◌||◌, List, [], ◌∷◌, ◌++◌, length, get_or, take, Option, Some, refl, sym, ap, ◌∙◌}
use Rattle.std.specs.Ordering.{eq_by_cmp}
use Rattle.std.specs.BTreeMap.{BTreeMap, get}
use Rattle.std.proofs.lemmas.List.{take_more}
use Rattle.action_names.specs.Comparison.{same_name-ties}
use Rattle.action_names.specs.Names.{Name, has_name, name_cmp, same_name}
use Rattle.run_model.specs.declared.history.Event.{Event}
use Rattle.run_model.specs.Actions.{begins, home_in, home_of}
use Rattle.picture.specs.declared.bars.Bars.{Bars}
use Rattle.picture.specs.declared.bars.Begun.{Begun}
use Rattle.picture.specs.Layouts.{AreBars, beginning}
use Rattle.picture.specs.Losses.{kept_home}

-- in a map that gained a value, that is the value of its name, and the others stay
pub get_more : {X : Type 0} (m n : BTreeMap Name X) (k b q : Name) (x : Option X) → k ≡ b
    → get name_cmp n q ≡ cond (eq_by_cmp name_cmp k q) x (get name_cmp m q)
    → get name_cmp n q ≡ cond (same_name b q) x (get name_cmp m q)
get_more m n k b q x same now =
    now
    ∙ ap (λ t. cond t x (get name_cmp m q)) (sym (same_name-ties k q) ∙ ap (λ a. same_name a q) same)

-- so many of the names were added, each so
abbrev pub AreAdded : BTreeMap Name Begun → BTreeMap Name Begun → Begun → List Name → Type 0
AreAdded old now b names = (q : Name) → get name_cmp now q ≡ cond (has_name names q) (Some b) (get name_cmp old q)

has_name-push : (names : List Name) (a q : Name) → has_name (names ++ a ∷ []) q ≡ (has_name names q || same_name a q)
has_name-push [] a q = or_false (same_name a q)
  where
    or_false : (t : Bool) → (t || false) ≡ t
    or_false true = refl
    or_false false = refl
has_name-push (b ∷ names) a q = ap (λ t. same_name b q || t) (has_name-push names a q) ∙ or_assoc (same_name b q) (has_name names q) (same_name a q)
  where
    or_assoc : (r s t : Bool) → (r || (s || t)) ≡ ((r || s) || t)
    or_assoc true s t = refl
    or_assoc false s t = refl

pub one_added : (old now new : BTreeMap Name Begun) (b : Begun) (names : List Name) (i : ℕ) (a k : Name) → i < length names → a ≡ get_or names i a → k ≡ a
    → AreAdded old now b (take i names) → ((q : Name) → get name_cmp new q ≡ cond (eq_by_cmp name_cmp k q) (Some b) (get name_cmp now q))
    → AreAdded old new b (take (i + 1) names)
one_added old now new b names i a k lt item same so_far put =
    let more : take (i + 1) names ≡ take i names ++ a ∷ [] = take_more names i a lt ∙ ap (λ (x : Name). take i names ++ x ∷ []) (sym item) in
    λ q.
    get_more now new k a q (Some b) same (put q) ∙ ap (cond (same_name a q) (Some b)) (so_far q)
    ∙ both (same_name a q) (has_name (take i names) q) (get name_cmp old q)
    ∙ ap (λ t. cond t (Some b) (get name_cmp old q)) (sym (has_name-push (take i names) a q))
    ∙ ap (λ (ns : List Name). cond (has_name ns q) (Some b) (get name_cmp old q)) (sym more)
  where
    both : (s t : Bool) (o : Option Begun) → cond s (Some b) (cond t (Some b) o) ≡ cond (t || s) (Some b) o
    both true true o = refl
    both true false o = refl
    both false true o = refl
    both false false o = refl

home_begun : (q : Name) (past : List Event) → kept_home (beginning q past) ≡ home_of q past
home_begun q [] = refl
home_begun q (e ∷ past) = step (begins e q) (beginning q past) (home_in e.step (λ b. home_of b past)) (suc (length past)) (home_of q past) (home_begun q past)
  where
    step : (t : Bool) (rest : Option Begun) (home number other : ℕ) → kept_home rest ≡ other
        → kept_home (cond t (Some (record { home = home; number = number })) rest) ≡ cond t home other
    step true rest home number other is = refl
    step false rest home number other is = is

-- it is the home of the action
pub home_kept : (bars : Bars) (past : List Event) (q : Name) → AreBars bars past → kept_home (get name_cmp bars.begun q) ≡ home_of q past
home_kept bars past q are = ap kept_home (are.begun q) ∙ home_begun q past
