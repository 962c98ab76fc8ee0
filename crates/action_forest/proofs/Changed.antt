-- A forest in which one action is changed.
use Rattle.std.proofs.Common.{Bool, List, [], None, Option, Some, ap, cond, false, inl, inr, length, option_map, refl, subst, suc, sym, true, zero, ℕ, ◌∙◌, ◌∷◌, ◌≡◌, ◌≢◌, ◌⊎◌}
use Rattle.std.proofs.lemmas.Bool.{cases_eq}
use Rattle.std.specs.Prelude.{slice_get}
use Rattle.std.specs.Option.{option_and_then}
use Rattle.action_names.specs.Names.{Name, same_name}
use Rattle.action_forest.proofs.Names.{other_name, same_name_true}
use Rattle.action_forest.specs.Trees.{Action, Trees, action_of, changed, children_in, children_of, maker_at, name_at, numbered, place_below, place_of, said, updated}

pub length-updated : (f : Action → Action) (i : ℕ) (xs : List Action) → length (updated f i xs) ≡ length xs
length-updated f i [] = refl
length-updated f zero (x ∷ xs) = refl
length-updated f (suc i) (x ∷ xs) = ap suc (length-updated f i xs)

pub get_same : (f : Action → Action) (i : ℕ) (xs : List Action) → slice_get (updated f i xs) i ≡ option_map f (slice_get xs i)
get_same f i [] = refl
get_same f zero (x ∷ xs) = refl
get_same f (suc i) (x ∷ xs) = get_same f i xs

pub get_other : (f : Action → Action) (i j : ℕ) (xs : List Action) → j ≢ i → slice_get (updated f i xs) j ≡ slice_get xs j
get_other f i j [] h = refl
get_other f zero zero (x ∷ xs) h = absurd (h refl)
get_other f zero (suc j) (x ∷ xs) h = refl
get_other f (suc i) zero (x ∷ xs) h = refl
get_other f (suc i) (suc j) (x ∷ xs) h = get_other f i j xs (λ e. h (ap suc e))

-- what the change keeps of each action is kept
pub kept_at : {B : Type 0} (field : Action → B) (missing : B) (f : Action → Action) (i j : ℕ) (xs : List Action) → ((x : Action) → field (f x) ≡ field x)
    → said field missing (slice_get (updated f i xs) j) ≡ said field missing (slice_get xs j)
kept_at field missing f i j xs keeps = of (cases_eq j i)
  where
    mapped : (o : Option Action) → said field missing (option_map f o) ≡ said field missing o
    mapped None = refl
    mapped (Some x) = keeps x

    of : (j ≡ i) ⊎ (j ≢ i) → said field missing (slice_get (updated f i xs) j) ≡ said field missing (slice_get xs j)
    of (inl same) =
        subst (λ k. said field missing (slice_get (updated f i xs) k) ≡ said field missing (slice_get xs k)) (sym same)
        (ap (said field missing) (get_same f i xs) ∙ mapped (slice_get xs i))
    of (inr other) = ap (said field missing) (get_other f i j xs other)

-- the change keeps where an action stands in its tree
pub record KeepsTree (f : Action → Action) : Type 0 where
  pub name : (x : Action) → (f x).name ≡ x.name
  pub home : (x : Action) → (f x).home ≡ x.home
  pub maker : (x : Action) → (f x).maker ≡ x.maker
  pub children : (x : Action) → (f x).children ≡ x.children

below_changed : (f : Action → Action) (i : ℕ) (xs : List Action) → ((x : Action) → (f x).children ≡ x.children) → (path : Name) (at : Option ℕ)
    → place_below (updated f i xs) path at ≡ place_below xs path at
below_changed f i xs keeps [] at = refl
below_changed f i xs keeps (n ∷ path) at =
    below_changed f i xs keeps path (option_and_then (λ j. numbered (children_in (slice_get (updated f i xs) j)) 1 n) at)
    ∙ ap (place_below xs path) (step at)
  where
    step : (o : Option ℕ) → option_and_then (λ j. numbered (children_in (slice_get (updated f i xs) j)) 1 n) o
        ≡ option_and_then (λ j. numbered (children_in (slice_get xs j)) 1 n) o
    step None = refl
    step (Some j) = ap (λ places. numbered places 1 n) (kept_at (λ action. action.children) [] f i j xs keeps)

pub place_changed : (f : Action → Action) (i : ℕ) (forest : Trees) → KeepsTree f → (a : Name) → place_of (changed f i forest) a ≡ place_of forest a
place_changed f i forest keeps [] = refl
place_changed f i forest keeps (n ∷ path) = below_changed f i forest.actions keeps.children path (numbered forest.tops forest.first_top n)

pub name_changed : (f : Action → Action) (i : ℕ) (forest : Trees) → KeepsTree f → (j : ℕ) → name_at (changed f i forest) j ≡ name_at forest j
name_changed f i forest keeps j = kept_at (λ action. Some action.name) None f i j forest.actions (λ x. ap Some (keeps.name x))

-- what the change keeps of each action is said as before
pub said_kept : {B : Type 0} (field : Action → B) (missing : B) (f : Action → Action) (i : ℕ) (forest : Trees) → KeepsTree f
    → ((x : Action) → field (f x) ≡ field x) → (a : Name)
    → said field missing (action_of (changed f i forest) a) ≡ said field missing (action_of forest a)
said_kept field missing f i forest keeps same a =
    ap (λ o. said field missing (option_and_then (λ j. slice_get (updated f i forest.actions) j) o)) (place_changed f i forest keeps a)
    ∙ of (place_of forest a)
  where
    of : (o : Option ℕ) → said field missing (option_and_then (λ j. slice_get (updated f i forest.actions) j) o)
        ≡ said field missing (option_and_then (λ j. slice_get forest.actions j) o)
    of None = refl
    of (Some j) = kept_at field missing f i j forest.actions same

pub maker_changed : (f : Action → Action) (i : ℕ) (forest : Trees) → KeepsTree f → (a : Name) → maker_at (changed f i forest) a ≡ maker_at forest a
maker_changed f i forest keeps a =
    said_kept (λ action. option_and_then (λ j. name_at (changed f i forest) j) action.maker) None f i forest keeps
    (λ x. ap (option_and_then (λ j. name_at (changed f i forest) j)) (keeps.maker x)) a
    ∙ (λ k. said (λ action. option_and_then (λ j. name_changed f i forest keeps j k) action.maker) None (action_of forest a))

pub children_changed : (f : Action → Action) (i : ℕ) (forest : Trees) → KeepsTree f → (a : Name) → children_of (changed f i forest) a ≡ children_of forest a
children_changed f i forest keeps [] = refl
children_changed f i forest keeps (n ∷ a) = said_kept (λ action. action.children) [] f i forest keeps keeps.children (n ∷ a)

pub count_changed : (f : Action → Action) (i : ℕ) (forest : Trees) → length (changed f i forest).actions ≡ length forest.actions
count_changed f i forest = length-updated f i forest.actions

-- who stands elsewhere is not changed
pub elsewhere : (f : Action → Action) (i : ℕ) (forest : Trees) → KeepsTree f → (a : Name) → (place_of forest a ≡ Some i → ⊥)
    → action_of (changed f i forest) a ≡ action_of forest a
elsewhere f i forest keeps a other =
    ap (option_and_then (λ j. slice_get (updated f i forest.actions) j)) (place_changed f i forest keeps a) ∙ of (place_of forest a) other
  where
    of : (o : Option ℕ) → (o ≡ Some i → ⊥) → option_and_then (λ j. slice_get (updated f i forest.actions) j) o ≡ option_and_then (λ j. slice_get forest.actions j) o
    of None h = refl
    of (Some j) h = get_other f i j forest.actions (λ e. h (ap Some e))

-- who stands there is changed
pub here : (f : Action → Action) (i : ℕ) (forest : Trees) → KeepsTree f → (a : Name) → place_of forest a ≡ Some i
    → action_of (changed f i forest) a ≡ option_map f (slice_get forest.actions i)
here f i forest keeps a at =
    ap (option_and_then (λ j. slice_get (updated f i forest.actions) j)) (place_changed f i forest keeps a ∙ at) ∙ get_same f i forest.actions

-- what is said after a change of the action t, of it and of others
pub said_at : {B : Type 0} (field : Action → B) (missing : B) (f : Action → Action) (i : ℕ) (forest : Trees) → KeepsTree f
    → ((a : Name) (j : ℕ) → place_of forest a ≡ Some j → name_at forest j ≡ Some a)
    → (t : Name) (x : Action) → place_of forest t ≡ Some i → slice_get forest.actions i ≡ Some x → (a : Name)
    → said field missing (action_of (changed f i forest) a) ≡ cond (same_name t a) (field (f x)) (said field missing (action_of forest a))
said_at field missing f i forest keeps named t x at is a = of (same_name t a) refl
  where
    of : (b : Bool) → same_name t a ≡ b
        → said field missing (action_of (changed f i forest) a) ≡ cond b (field (f x)) (said field missing (action_of forest a))
    of true same =
        let e : t ≡ a = same_name_true t a same in
        ap (said field missing) (here f i forest keeps a (subst (λ c. place_of forest c ≡ Some i) e at) ∙ ap (option_map f) is)
    of false differ =
        ap (said field missing) (elsewhere f i forest keeps a (λ k. other_name t a differ (let u = named t i at in let v = named a i k in cc)))
