-- What a store must have that opens a guardian, and what comes of it.
use Rattle.std.proofs.Common.{append-nil, append_assoc, Bool, Bor, MatchOption, Equal, Greater, Less, List, Ordering, None, Option, Some, [], ap, arith, option_map, cond, false, get_or, is_some, length, map, nat_cmp, refl, subst, suc, sym, true, true≢false, IsSome, ℕ, ◌+◌, ◌++◌, ◌<◌, ◌≤◌, ◌∙◌, ◌∷◌, ◌≡◌, take}
use Rattle.std.proofs.lemmas.Cmp.{eq_by_cmp_equiv}
use Rattle.std.proofs.lemmas.Cmp.{by_ranked, ranked}
use Rattle.std.proofs.lemmas.List.{get_or-map, get_or_append_left, get_or_push, get_or_read_under, length-take-le, take_more}
use Rattle.std.proofs.lemmas.Option.{same_Some}
use Rattle.std.specs.BTreeMap.{is_at}
use Rattle.std.specs.Cmp.{nat_cmp_total}
use Rattle.std.specs.FinMap.{FinMap, empty, from_entries, get, get-empty, nat_cmp-IsAntisymmetric}
use Rattle.std.specs.List.{AllByRecursion}
use Rattle.std.specs.Map.{lookup}
use Rattle.std.specs.Ordering.{is_eq}
use Rattle.values.specs.declared.content.Content.{Content}
use Rattle.atomic_types.specs.declared.part.Part.{Part}
use Rattle.atomic_types.specs.Parts.{laid_where}
use Rattle.stable_store.specs.Held.{records_of}
use Rattle.stable_store.specs.declared.kept.Prepared.{Prepared}
use Rattle.stable_store.proofs.Maps.{get_is}
use Rattle.stable_store.specs.Stored.{Stored}
use Rattle.limits.specs.Limits.{max_objects}
use Rattle.script_model.specs.Laws.{HasFewObjects}
use Rattle.run_model.specs.Openings.{Setup}
use Rattle.script_engine.specs.Storing.{AreOpenedBy, HasOnly, Opens, laid_over}

-- ---- the objects of a store

-- a number from 1 to this one
abbrev pub IsWithin : ℕ → ℕ → Type 0
IsWithin last n = (1 ≤ n) × (n ≤ last)

-- the entries of objects from 1 to this one
abbrev pub AllWithin : {X : Type 0} → ℕ → List (ℕ × X) → Type 0
AllWithin last = AllByRecursion (λ e. IsWithin last e.0)

tied : (o : Ordering) → is_eq o ≡ true → o ≡ Equal
tied Less h = absurd (true≢false (sym h))
tied Equal h = refl
tied Greater h = absurd (true≢false (sym h))

module _ {X : Type 0} where
  -- what stands in a list is found there
  pub stands_found : (front : List (ℕ × X)) (k : ℕ) (v : X) (rest : List (ℕ × X)) → IsSome (get (from_entries {R = nat_cmp} (front ++ (k, v) ∷ rest)) k)
  stands_found front k v rest = subst IsSome (sym (get_is (front ++ (k, v) ∷ rest) k)) (met front)
    where
      here : (t : Bool) (x : X) (o : Option X) → IsSome o → IsSome (cond t (Some x) o)
      here true x o some = refl
      here false x o some = some

      first : (t : Bool) (o : Option X) → t ≡ true → IsSome (cond t (Some v) o)
      first true o is = refl
      first false o is = absurd (true≢false (sym is))

      met : (front : List (ℕ × X)) → IsSome (lookup (is_at (nat_cmp k)) (front ++ (k, v) ∷ rest))
      met [] = first (is_at (nat_cmp k) k) (lookup (is_at (nat_cmp k)) rest) ((eq_by_cmp_equiv nat_cmp_total).refl k)
      met (e ∷ front) = here (is_at (nat_cmp k) e.0) e.1 (lookup (is_at (nat_cmp k)) (front ++ (k, v) ∷ rest)) (met front)

  -- what is found is one of those that stand there
  pub found_within : (last : ℕ) (es : List (ℕ × X)) → AllWithin last es → (n : ℕ) → IsSome (get (from_entries {R = nat_cmp} es) n) → IsWithin last n
  found_within last es all n some = met es all (subst IsSome (get_is es n) some)
    where
      by_test : (t : Bool) (e : ℕ × X) (es : List (ℕ × X)) → is_at (nat_cmp n) e.0 ≡ t → IsWithin last e.0
          → (IsSome (lookup (is_at (nat_cmp n)) es) → IsWithin last n)
          → IsSome (cond t (Some e.1) (lookup (is_at (nat_cmp n)) es)) → IsWithin last n
      by_test true e es is within later some = subst (IsWithin last) (sym (nat_cmp-IsAntisymmetric n e.0 (tied (nat_cmp n e.0) is))) within
      by_test false e es is within later some = later some

      met : (es : List (ℕ × X)) → AllWithin last es → IsSome (lookup (is_at (nat_cmp n)) es) → IsWithin last n
      met [] all some = absurd (true≢false (sym some))
      met (e ∷ es) all some = by_test (is_at (nat_cmp n) e.0) e es refl all.0 (met es all.1) some

  -- a map of no entries is empty, and no other is
  pub none_empty : (es : List (ℕ × X)) → from_entries {R = nat_cmp} es ≡ empty → es ≡ []
  none_empty [] e = refl
  none_empty (x ∷ es) e = absurd (true≢false (sym (stands_found [] x.0 x.1 es) ∙ ap (λ m. is_some (get m x.0)) e ∙ ap is_some (get-empty nat_cmp x.0)))

-- where no record is there, nothing is prepared
pub none_prepared : (records : List (ℕ × Prepared)) → from_entries {R = nat_cmp} (records_of records) ≡ empty → length records ≡ 0
none_prepared [] none = refl
none_prepared (r ∷ records) none = absurd (no_more (ap length (none_empty (records_of (r ∷ records)) none)))
  where
    no_more : {n : ℕ} → suc n ≡ 0 → ⊥
    no_more e = omega (arith, e)

-- ---- the contents

-- what an object holds under what a store has of it
pub content_read : (entries : List (ℕ × Part)) (n : ℕ) (found : Option (Bor Part)) (own given : Content)
    → given ≡ laid_where (option_map (λ x. x.now) found) own → option_map (λ x. x.now) found ≡ lookup (is_at (nat_cmp n)) entries
    → given ≡ laid_where (get (from_entries {R = nat_cmp} entries) n) own
content_read entries n found own given is finds = is ∙ ap (λ o. laid_where o own) (finds ∙ sym (get_is entries n))

-- those of one object more
laid_more : (base : FinMap nat_cmp Part) (n : ℕ) (own : List Content) (c : Content)
    → laid_over base n (own ++ c ∷ []) ≡ laid_over base n own ++ laid_where (get base (n + length own)) c ∷ []
laid_more base n [] c = let same : n ≡ n + 0 = omega arith in ap (λ k. laid_where (get base k) c ∷ []) same
laid_more base n (o ∷ own) c =
    let same : suc n + length own ≡ n + suc (length own) = omega arith in
    ap (λ l. laid_where (get base n) o ∷ l)
    (laid_more base (suc n) own c ∙ ap (λ k. laid_over base (suc n) own ++ laid_where (get base k) c ∷ []) same)

pub one_more_laid : (base : FinMap nat_cmp Part) (own : List Content) (i : ℕ) (c given : Content) (before after : List Content)
    → i < length own → c ≡ get_or own i c → given ≡ laid_where (get base (i + 1)) c
    → before ≡ laid_over base 1 (take i own) → after ≡ before ++ given ∷ [] → after ≡ laid_over base 1 (take (i + 1) own)
one_more_laid base own i c given before after lt item gives so_far push =
    let count : 1 + length (take i own) ≡ i + 1 = omega (arith, length-take-le i own (omega (arith, lt))) in
    push ∙ (λ k. so_far k ++ gives k ∷ [])
    ∙ ap (λ n. laid_over base 1 (take i own) ++ laid_where (get base n) c ∷ []) (sym count)
    ∙ sym (laid_more base 1 (take i own) c)
    ∙ ap (λ x. laid_over base 1 (take i own ++ x ∷ [])) item
    ∙ ap (laid_over base 1) (sym (take_more own i c lt))

-- ---- a walk over the entries

abbrev Entries : Type 0
Entries = List (ℕ × Part)

-- one that is not within is met
pub one_outside : (last : ℕ) (es front rest : Entries) (k : ℕ) (v : Part) (more : Entries) → front ++ rest ≡ es → rest ≡ (k, v) ∷ more
    → (IsWithin last k → ⊥) → HasOnly (from_entries {R = nat_cmp} es) last → ⊥
one_outside last es front rest k v more all next out only =
    out (only k (subst (λ es. IsSome (get (from_entries {R = nat_cmp} es) k)) (ap (λ r. front ++ r) (sym next) ∙ all) (stands_found front k v more)))

-- one more is within
pub all_within : (last : ℕ) (es front rest : Entries) (k : ℕ) (v : Part) (more : Entries) → front ++ rest ≡ es → rest ≡ (k, v) ∷ more
    → AllWithin last front → IsWithin last k → (seen : Entries) × (seen ++ more ≡ es) × AllWithin last seen
all_within last es front rest k v more all next each here = (
  front ++ (k, v) ∷ [],
  append_assoc front ((k, v) ∷ []) more ∙ ap (λ r. front ++ r) (sym next) ∙ all,
  pushed front each,
)
  where
    pushed : (front : Entries) → AllWithin last front → AllWithin last (front ++ (k, v) ∷ [])
    pushed [] each = (here, tt)
    pushed (e ∷ front) each = (each.0, pushed front each.1)

-- all are within
pub only_within : (last : ℕ) (es front rest : Entries) → front ++ rest ≡ es → rest ≡ [] → AllWithin last front
    → HasOnly (from_entries {R = nat_cmp} es) last
only_within last es front rest all none each =
    found_within last es (subst (AllWithin last) (sym (append-nil front) ∙ ap (λ r. front ++ r) (sym none) ∙ all) each)

-- ---- one guardian after another

pub none_in : {X N : Type 0} (S : X → Type 0) (o : Option X) → o ≡ None → MatchOption o N S → N
none_in S None is match = match
none_in S (Some x) is match = absurd (true≢false (ap is_some is))

pub some_in : {X : Type 0} (N : Type 0) (S : X → Type 0) (o : Option X) (x : X) → o ≡ Some x → MatchOption o N S → S x
some_in N S None x is match = absurd (true≢false (sym (ap is_some is)))
some_in N S (Some y) x is match = subst S (same_Some y x is) match

-- what was found at a store
pub found_at : {S : Type 0} (view : S → Option Stored) (stores : List S) (i : ℕ) (s : S) (o : Option Stored) → i < length stores
    → s ≡ get_or stores i s → view s ≡ o → get_or (map view stores) i None ≡ o
found_at view stores i s o lt item is = get_or-map view stores i s None lt ∙ ap view (sym item) ∙ is

at_default : {X : Type 0} (xs : List X) (i : ℕ) (x d : X) → i < length xs → x ≡ get_or xs i x → x ≡ get_or xs i d
at_default xs i x d lt item = get_or_read_under xs i (length xs) x d item lt refl

module _ (found : List (Option Stored)) (own : List (List Content)) (i : ℕ) (o : Option Stored) (objects : List Content) where
  -- what opens no guardian keeps all from being opened
  pub refused_at : i < length own → get_or found i None ≡ o → objects ≡ get_or own i objects
      → ((contents : List Content) → Opens o objects contents → ⊥) → (setup : Setup) → AreOpenedBy found own setup → ⊥
  refused_at lt here item never setup opened =
      never (get_or setup i []) (subst (λ x. Opens x objects (get_or setup i [])) here
      (subst (λ c. Opens (get_or found i None) c (get_or setup i [])) (sym (at_default own i objects [] lt item)) (opened.each i lt)))

  -- one guardian more is opened
  pub one_more_opened : (setup after : Setup) (contents : List Content) → i < length own → get_or found i None ≡ o → objects ≡ get_or own i objects
      → Opens o objects contents → length setup ≡ i
      → ((n : ℕ) → n < i → Opens (get_or found n None) (get_or own n []) (get_or setup n []))
      → after ≡ setup ++ contents ∷ []
      → (n : ℕ) → n < i + 1 → Opens (get_or found n None) (get_or own n []) (get_or after n [])
  one_more_opened setup after contents lt here item opens count before push n within =
      subst (λ (s : Setup). Opens (get_or found n None) (get_or own n []) (get_or s n [])) (sym push) (by_place (nat_cmp n i) refl)
    where
      last : Opens (get_or found i None) (get_or own i []) (get_or (setup ++ contents ∷ []) i [])
      last =
          subst (λ x. Opens x (get_or own i []) (get_or (setup ++ contents ∷ []) i [])) (sym here)
          (subst (λ c. Opens o c (get_or (setup ++ contents ∷ []) i [])) (at_default own i objects [] lt item)
          (subst (Opens o objects) (sym (get_or_push setup contents [] i count)) opens))

      earlier : n < i → Opens (get_or found n None) (get_or own n []) (get_or (setup ++ contents ∷ []) n [])
      earlier less =
          let inside : n < length setup = omega (arith, less, count) in
          subst (λ c. Opens (get_or found n None) (get_or own n []) c) (sym (get_or_append_left setup (contents ∷ []) [] n inside)) (before n less)

      by_place : (r : Ordering) → r ≡ nat_cmp n i → Opens (get_or found n None) (get_or own n []) (get_or (setup ++ contents ∷ []) n [])
      by_place r is =
          by_ranked (n < i) (n ≡ i) (i < n) r (ranked n i r is) (λ e less. earlier less)
          (λ e same. subst (λ m. Opens (get_or found m None) (get_or own m []) (get_or (setup ++ contents ∷ []) m [])) (sym same) last)
          (λ e above. absurd (not_above above))
        where
          not_above : i < n → ⊥
          not_above above = omega (arith, above, within)

-- as many contents as objects
laid_count : (base : FinMap nat_cmp Part) (n : ℕ) (own : List Content) → length (laid_over base n own) ≡ length own
laid_count base n [] = refl
laid_count base n (o ∷ own) = ap suc (laid_count base (suc n) own)

pub few_laid : (stored : Stored) (own contents : List Content) → Opens (Some stored) own contents → HasFewObjects own → HasFewObjects contents
few_laid stored own contents opens few = subst (λ n. n ≤ max_objects) (sym (ap length opens.1 ∙ laid_count stored.base 1 own)) few
