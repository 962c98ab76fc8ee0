-- The entries of a map of numbers: each is found at its own number, which stands at no other.
use Rattle.std.proofs.Common.{Bool, Equal, Greater, Less, List, None, Option, Ordering, Some, T, [], ap, cond, false, is_eq, is_lt, is_some, nat_cmp, refl, sym, true, ℕ, ◌&&◌, ◌==◌, ◌∙◌, ◌∷◌, ◌≡◌, ◌||◌}
use Rattle.std.proofs.lemmas.Bool.{false≢true}
use Rattle.std.specs.Cmp.{nat_cmp_total, tied_itself, unsigned_tied}
use Rattle.std.specs.FinMap.{find, is_sorted, nat_cmp-IsAntisymmetric}
use Rattle.std.specs.FinMap.Entries.{below_all}
use Rattle.std.specs.Ordering.{eq_by_cmp}
use Rattle.action_names.specs.Names.{Name, has_name}
use Rattle.run_laws.proofs.Each.{Each, each_map}
use Rattle.recovery_laws.specs.Laws.{AreDistinct}
use Rattle.guardian_laws.proofs.Laid.{turned}

pub first : (a b : Bool) → T (a && b) → T a
first true b h = tt
first false b h = absurd h

pub second : (a b : Bool) → T (a && b) → T b
second true b h = h
second false b h = absurd h

apart : (o : Ordering) → T (is_lt o) → is_eq o ≡ false
apart Less h = refl
apart Equal h = absurd h
apart Greater h = absurd h

tied : (o : Ordering) → is_eq o ≡ true → o ≡ Equal
tied Less h = absurd (false≢true h)
tied Equal h = refl
tied Greater h = absurd (false≢true h)

module _ {X : Type 0} where
  pub none_above : (k : ℕ) (es : List (ℕ × X)) → T (below_all nat_cmp k es) → find nat_cmp k es ≡ None
  none_above k [] h = refl
  none_above k (e ∷ es) h = ap (λ b. cond b (Some e.1) (find nat_cmp k es)) (apart (nat_cmp k e.0) (first _ _ h)) ∙ none_above k es (second _ _ h)

  -- the first is found
  pub at_first : (e : ℕ × X) (es : List (ℕ × X)) → find nat_cmp e.0 (e ∷ es) ≡ Some e.1
  at_first e es = ap (λ o. cond (is_eq o) (Some e.1) (find nat_cmp e.0 es)) (tied_itself nat_cmp_total e.0)

  -- and so is each
  pub all_found : (es : List (ℕ × X)) → T (is_sorted nat_cmp es) → Each (λ e. find nat_cmp e.0 es ≡ Some e.1) es
  all_found [] h = tt
  all_found (e ∷ es) h = (at_first e es, each_map _ _ es behind (all_found es (second _ _ h)))
    where
      behind : (f : ℕ × X) → find nat_cmp f.0 es ≡ Some f.1 → find nat_cmp f.0 (e ∷ es) ≡ Some f.1
      behind f there = of (eq_by_cmp nat_cmp f.0 e.0) refl
        where
          of : (b : Bool) → eq_by_cmp nat_cmp f.0 e.0 ≡ b → cond b (Some e.1) (find nat_cmp f.0 es) ≡ Some f.1
          of true is =
              absurd (let q : ◌≡◌ {A = Option X} (Some f.1) None =
              sym there ∙ ap (λ k. find nat_cmp k es) (nat_cmp-IsAntisymmetric f.0 e.0 (tied _ is)) ∙ none_above e.0 es (first _ _ h) in cc)
          of false is = there

  -- what is left of the entries when the number of the first is taken out
  pub without_first : (e : ℕ × X) (es : List (ℕ × X)) (q : ℕ) → T (below_all nat_cmp e.0 es)
      → cond (eq_by_cmp nat_cmp q e.0) None (find nat_cmp q (e ∷ es)) ≡ find nat_cmp q es
  without_first e es q below = of (eq_by_cmp nat_cmp q e.0) refl
    where
      of : (b : Bool) → eq_by_cmp nat_cmp q e.0 ≡ b → cond b None (cond b (Some e.1) (find nat_cmp q es)) ≡ find nat_cmp q es
      of true is = sym (ap (λ k. find nat_cmp k es) (nat_cmp-IsAntisymmetric q e.0 (tied _ is)) ∙ none_above e.0 es below)
      of false is = refl

  -- ---- the top actions of entries

  abbrev pub tops_in : List (ℕ × X) → List Name
  tops_in [] = []
  tops_in (e ∷ es) = (e.0 ∷ []) ∷ tops_in es

  tied_turned : (k : ℕ) (e : ℕ × X) → (e.0 == k) ≡ eq_by_cmp nat_cmp k e.0
  tied_turned k e = turned e.0 k ∙ sym (unsigned_tied k e.0)

  absent : (k : ℕ) (es : List (ℕ × X)) → find nat_cmp k es ≡ None → has_name (tops_in es) (k ∷ []) ≡ false
  absent k [] none = refl
  absent k (e ∷ es) none = ap (λ b. (b && true) || has_name (tops_in es) (k ∷ [])) (tied_turned k e) ∙ of (eq_by_cmp nat_cmp k e.0) none (absent k es)
    where
      of : (b : Bool) → cond b (Some e.1) (find nat_cmp k es) ≡ None → (find nat_cmp k es ≡ None → has_name (tops_in es) (k ∷ []) ≡ false)
          → ((b && true) || has_name (tops_in es) (k ∷ [])) ≡ false
      of true n ih = absurd (let q : ◌≡◌ {A = Option X} (Some e.1) None = n in cc)
      of false n ih = ih n

  pub present : (k : ℕ) (es : List (ℕ × X)) → is_some (find nat_cmp k es) ≡ true → has_name (tops_in es) (k ∷ []) ≡ true
  present k [] some = absurd (false≢true some)
  present k (e ∷ es) some = ap (λ b. (b && true) || has_name (tops_in es) (k ∷ [])) (tied_turned k e) ∙ of (eq_by_cmp nat_cmp k e.0) some (present k es)
    where
      of : (b : Bool) → is_some (cond b (Some e.1) (find nat_cmp k es)) ≡ true
          → (is_some (find nat_cmp k es) ≡ true → has_name (tops_in es) (k ∷ []) ≡ true) → ((b && true) || has_name (tops_in es) (k ∷ [])) ≡ true
      of true s ih = refl
      of false s ih = ih s

  pub tops_distinct : (es : List (ℕ × X)) → T (is_sorted nat_cmp es) → AreDistinct (tops_in es)
  tops_distinct [] h = tt
  tops_distinct (e ∷ es) h = (absent e.0 es (none_above e.0 es (first _ _ h)), tops_distinct es (second _ _ h))
