-- Keeping the homes and makers of actions: what one name more adds.
use Rattle.std.proofs.Common.{◌≡◌, ℕ, ◌+◌, ◌<◌, ◌≤◌, Bool, true, false, cond, ◌||◌, List, [], ◌∷◌, ◌++◌, length, get_or, take, Option, Some, refl, sym, ap, subst, ◌∙◌, arith}
use Rattle.std.specs.List.{AllByRecursion}
use Rattle.std.specs.Ordering.{eq_by_cmp}
use Rattle.std.specs.BTreeMap.{BTreeMap, get}
use Rattle.std.proofs.lemmas.List.{take_all, take_more}
use Rattle.action_names.specs.Names.{Name, IsName, has_name, name_cmp, same_name}
use Rattle.run_model.specs.declared.answer.Answer.{Answer}
use Rattle.run_model.specs.declared.history.Event.{Event}
use Rattle.run_model.specs.declared.step.Step.{Step}
use Rattle.run_model.specs.Actions.{home_in, home_of, maker_in, names_begun}
use Rattle.tracer.specs.declared.homes.Begun.{Begun}
use Rattle.tracer.specs.declared.homes.Homes.{Homes}
use Rattle.tracer.specs.Homes.{AreHomes, kept_home, kept_maker}
use Rattle.tracer.proofs.Ended.{get_more}

-- so many of the names were added, each with this home and this maker
pub record AreAdded (old now : BTreeMap Name Begun) (b : Begun) (names : List Name) : Type 0 where
  pub found : (q : Name) → get name_cmp now q ≡ cond (has_name names q) (Some b) (get name_cmp old q)
  pub fit : AllByRecursion IsName names

pub none_added : (old : BTreeMap Name Begun) (b : Begun) → AreAdded old old b []
none_added old b = record { found = λ q. refl; fit = tt }

has_name-push : (names : List Name) (a q : Name) → has_name (names ++ a ∷ []) q ≡ (has_name names q || same_name a q)
has_name-push [] a q = or_false (same_name a q)
  where
    or_false : (t : Bool) → (t || false) ≡ t
    or_false true = refl
    or_false false = refl
has_name-push (b ∷ names) a q = ap (λ t. same_name b q || t) (has_name-push names a q) ∙ or_assoc (same_name b q) (has_name names q) (same_name a q)
  where
    or_assoc : (r s t : Bool) → (r || (s || t)) ≡ ((r || s) || t)
    or_assoc true s t = refl
    or_assoc false s t = refl

all_push : (names : List Name) (a : Name) → AllByRecursion IsName names → IsName a → AllByRecursion IsName (names ++ a ∷ [])
all_push [] a all fits = (fits, tt)
all_push (b ∷ names) a all fits = (all.0, all_push names a all.1 fits)

pub one_added : (old now new : BTreeMap Name Begun) (b : Begun) (names : List Name) (i : ℕ) (a k : Name) → i < length names → a ≡ get_or names i a → IsName k → k ≡ a
    → AreAdded old now b (take i names) → ((q : Name) → get name_cmp new q ≡ cond (eq_by_cmp name_cmp k q) (Some b) (get name_cmp now q))
    → AreAdded old new b (take (i + 1) names)
one_added old now new b names i a k lt item fits same so_far put =
    let more : take (i + 1) names ≡ take i names ++ a ∷ [] = take_more names i a lt ∙ ap (λ (x : Name). take i names ++ x ∷ []) (sym item) in
    subst (AreAdded old new b) (sym more) (record {
      found = λ q.
          get_more now new k a q (Some b) same (put q) ∙ ap (cond (same_name a q) (Some b)) (so_far.found q)
          ∙ both (same_name a q) (has_name (take i names) q) (get name_cmp old q)
          ∙ ap (λ t. cond t (Some b) (get name_cmp old q)) (sym (has_name-push (take i names) a q));
      fit = all_push (take i names) a so_far.fit (subst IsName same fits);
    })
  where
    both : (s t : Bool) (o : Option Begun) → cond s (Some b) (cond t (Some b) o) ≡ cond (t || s) (Some b) o
    both true true o = refl
    both true false o = refl
    both false true o = refl
    both false false o = refl

-- no name is empty
no_empty : (names : List Name) → AllByRecursion IsName names → has_name names [] ≡ false
no_empty [] all = refl
no_empty ([] ∷ names) all = absurd (omega (arith, all.0.not_empty))
no_empty ((n ∷ a) ∷ names) all = no_empty names all.1

pub all_added : (old new : Homes) (step : Step) (answer : Answer) (home : ℕ) (names : List Name) (i : ℕ) (past : List Event) → names ≡ names_begun answer → length names ≤ i
    → AreAdded old.begun new.begun (record { home = home; maker = maker_in step }) (take i names) → AreHomes old past → home ≡ home_in step (λ b. home_of b past)
    → AreHomes new (record { step = step; answer = answer } ∷ past)
all_added old new step answer home names i past are whole added homes is =
    let b : Begun = record { home = home; maker = maker_in step } in
    let all : take i names ≡ names_begun answer = take_all i names whole ∙ are in
    let found : (q : Name) → get name_cmp new.begun q ≡ cond (has_name (names_begun answer) q) (Some b) (get name_cmp old.begun q) =
    λ q. added.found q ∙ ap (λ (ns : List Name). cond (has_name ns q) (Some b) (get name_cmp old.begun q)) all in
    record {
      home = λ q.
          ap kept_home (found q) ∙ home_by (has_name (names_begun answer) q) (get name_cmp old.begun q)
          ∙ ap (cond (has_name (names_begun answer) q) home) (homes.home q)
          ∙ ap (λ n. cond (has_name (names_begun answer) q) n (home_of q past)) is;
      maker = λ q.
          ap kept_maker (found q) ∙ maker_by (has_name (names_begun answer) q) (get name_cmp old.begun q)
          ∙ ap (cond (has_name (names_begun answer) q) (maker_in step)) (homes.maker q);
      nobody =
          ap (λ t. cond t (home_in step (λ c. home_of c past)) (home_of [] past)) (no_empty (names_begun answer) (subst (AllByRecursion IsName) all added.fit)) ∙ homes.nobody;
    }
  where
    home_by : (t : Bool) (o : Option Begun) → kept_home (cond t (Some (record { home = home; maker = maker_in step })) o) ≡ cond t home (kept_home o)
    home_by true o = refl
    home_by false o = refl

    maker_by : (t : Bool) (o : Option Begun) → kept_maker (cond t (Some (record { home = home; maker = maker_in step })) o) ≡ cond t (maker_in step) (kept_maker o)
    maker_by true o = refl
    maker_by false o = refl
