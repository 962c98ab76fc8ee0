-- Going over rows: looking for one that passes a test.
use Rattle.std.proofs.Common.{◌≡◌, Bool, true, false, ◌&&◌, map, List, ◌∷◌, ◌++◌, refl, sym, ap, ◌∙◌}
use Rattle.std.specs.Prelude.{Option, Some, None, is_some}
use Rattle.std.specs.Option.{option_copied}
use denote.Ref.{Bor}
use Rattle.std.specs.Iterator.{Yields}
use Rattle.std.specs.List.{list_any}
use Rattle.std.specs.Map.Iter.{TakesFirst}
use Rattle.std.proofs.lemmas.Map.Iter.{rest_more, rest_so_far}
use Rattle.action_names.specs.Names.{Name}
use Rattle.holders.specs.Held.{Rows, names_of}
use Rattle.holders.proofs.Rows.{shown, any_held, any_here}

-- a row that passes is found
pub found_one : {A V : Type 0} (shows : A → Name × Option V) (s : Rows V) (rs : List (Name × Option V)) (p : Name → Bool) (xs : List A)
    (start t u : List (Name × Option V)) (r : Option A) (x : A) → shown rs ≡ s → start ≡ rs → Yields (TakesFirst shows) start xs t → r ≡ Some x
    → TakesFirst shows t r u → is_some (shows x).1 && p (shows x).0 ≡ true → true ≡ list_any p (names_of s.held)
found_one {A} {V} shows s rs p xs start t u r x e from y is step passes =
    let whole : map shows xs ++ shows x ∷ u ≡ rs = ap (λ ts. map shows xs ++ ts) (sym (rest_more shows t u r x is step)) ∙ sym (rest_so_far shows xs start t y) ∙ from in
    sym (any_here (λ (q : Name × Option V). is_some q.1 && p q.0) (map shows xs) (shows x) u passes)
    ∙ ap (list_any (λ (q : Name × Option V). is_some q.1 && p q.0)) whole ∙ sym (any_held p rs) ∙ ap (λ (v : Rows V). list_any p (names_of v.held)) e

-- no row passes
pub found_none : {A V : Type 0} (shows : A → Name × Option V) (s : Rows V) (rs : List (Name × Option V)) (p : Name → Bool) (xs : List A)
    → shown rs ≡ s → map shows xs ≡ rs → list_any (λ (q : Name × Option V). is_some q.1 && p q.0) (map shows xs) ≡ false → false ≡ list_any p (names_of s.held)
found_none {A} {V} shows s rs p xs e all none =
    sym none ∙ ap (list_any (λ (q : Name × Option V). is_some q.1 && p q.0)) all ∙ sym (any_held p rs) ∙ ap (λ (v : Rows V). list_any p (names_of v.held)) e

-- a reference to a value is there where the value is
pub some_copied : {V : Type 0} (o : Option (Bor V)) → is_some o ≡ is_some (option_copied o)
some_copied None = refl
some_copied (Some x) = refl
