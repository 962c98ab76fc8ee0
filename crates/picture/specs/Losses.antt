-- Which actions crashes have lost, as it is kept while a history is gone through, and to whom they are visible.
use Rattle.std.specs.Prelude.{Vec, ℕ, Bool, true, false, not, ◌≡◌, ◌≤◌, ◌&&◌, ◌||◌, ◌==◌, List, [], ◌∷◌, length, Option, Some, None, is_some, unwrap_or, slice_index}
use Rattle.std.specs.List.{list_any}
use Rattle.std.specs.BTreeMap.{get}
use Rattle.std.specs.BTreeSet.{BTreeSet, contains}
use Rattle.std.specs.Ordering.{nat_cmp, ordering_then}
use Rattle.std.specs.declared.cmp.Ordering.{Ordering}
use Rattle.std.specs.declared.alloc.Global.{Global}
use Rattle.action_names.specs.Names.{Name, ancestors, has_name, name_cmp, same_name, top_of}
use Rattle.run_model.specs.declared.history.Event.{Event}
use Rattle.run_model.specs.declared.step.Step.{Step}
use Rattle.run_model.specs.declared.step.Step.TheVariants.{Crash}
use Rattle.run_model.specs.Actions.{begun, home_of, is_begun}
use Rattle.run_model.specs.Telling.{holder_by}
use Rattle.run_model.specs.Visibility.{has_prepared, is_lost, is_visible}
use Rattle.picture.specs.declared.bars.Bars.{Bars}
use Rattle.picture.specs.declared.bars.Begun.{Begun}
use Rattle.picture.specs.declared.losses.Losses.{Losses}

-- the home that is kept of an action
abbrev pub kept_home : Option Begun → ℕ
kept_home None = 0
kept_home (Some b) = b.home

abbrev pub pair_cmp : (ℕ × ℕ) → (ℕ × ℕ) → Ordering
pair_cmp x y = ordering_then (nat_cmp x.0 y.0) (nat_cmp x.1 y.1)

abbrev pub exposed_in : Option (Vec Name Global) → List Name
exposed_in None = []
exposed_in (Some names) = names.items

-- a crash of g loses b, as far as is kept: b began at g, and g has not prepared its top action
abbrev pub falls : BTreeSet (ℕ × ℕ) → Bars → ℕ → Name → Bool
falls prepared bars g b = (kept_home (get name_cmp bars.begun b) == g)
    && not (contains pair_cmp prepared (g, slice_index b 0))

-- the step is a crash that loses b
abbrev pub is_taken : Losses → Bars → Step → Name → Bool
is_taken losses bars (Crash g) b =
    has_name (exposed_in (get nat_cmp losses.exposed g)) b && falls losses.prepared bars g b
is_taken losses bars _ b = false

-- What is kept is what the history says. An action that a crash of its home would lose is exposed.
pub record AreLosses (losses : Losses) (past : List Event) : Type 0 where
  pub lost : (b : Name) → 1 ≤ length b → contains name_cmp losses.lost b ≡ is_lost b past
  pub prepared : (g n : ℕ) → contains pair_cmp losses.prepared (g, n) ≡ has_prepared g (n ∷ []) past
  pub was_begun : (g : ℕ) (b : Name) → has_name (exposed_in (get nat_cmp losses.exposed g)) b ≡ true
      → is_begun b past ≡ true
  pub exposed : (b : Name) → 1 ≤ length b → is_begun b past ≡ true → is_lost b past ≡ false
      → has_prepared (home_of b past) (top_of b) past ≡ false
      → has_name (exposed_in (get nat_cmp losses.exposed (home_of b past))) b ≡ true

-- the nearest ancestor of b that is not among the committed actions, or else its top action
abbrev pub settled : (Name → Bool) → Name → Name
settled committed b = unwrap_or (holder_by committed b) (top_of b)

-- an action that has aborted, or to whose descendants a lost one is visible, as far as is kept
abbrev pub is_doomed : Bars → BTreeSet Name → Name → Bool
is_doomed bars stranded c = is_some (get name_cmp bars.aborted c) || contains name_cmp stranded c

-- an action is below one of these, or among them, where a lost action of its own tree is visible to it
abbrev pub AreStranded : BTreeSet Name → List Event → Type 0
AreStranded stranded past = (a : Name) → 1 ≤ length a
    → list_any (λ c. contains name_cmp stranded c) (ancestors a)
    ≡ list_any (λ b. same_name (top_of b) (top_of a) && (is_lost b past && is_visible b a past))
    (begun past)
