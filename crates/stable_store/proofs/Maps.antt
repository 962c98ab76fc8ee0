-- Maps and sets of numbers, as lists of entries.
use Rattle.std.proofs.Common.{◌≡◌, ℕ, zero, suc, List, [], ◌∷◌, Bool, true, false, ◌||◌, ◌==◌, cond, Option, Some, None, option_map, IsSome, is_some, refl, sym, ap, subst, ◌∙◌, nat_cmp, true≢false, Ordering, Less, Equal, Greater, arith}
use Rattle.std.specs.List.{list_any}
use Rattle.std.specs.Map.{lookup}
use Rattle.std.specs.Ordering.{eq_by_cmp, is_eq}
use Rattle.std.specs.BTreeMap.{is_at}
use Rattle.std.specs.Cmp.{nat_cmp_total, nat_cmp_is}
use Rattle.std.proofs.lemmas.Cmp.{eq_by_cmp_equiv}
use Rattle.std.specs.FinMap.{FinMap, from_entries, get, insert, remove, find, same_map, get_tied, get-from_entries, get-insert, get-remove, nat_cmp-IsAntisymmetric}
use Rattle.std.specs.FinSet as set
use Rattle.stable_store.specs.Numbers.{has_zero}
use Rattle.stable_store.proofs.Ordered.{seen}

back : (n q : ℕ) → is_at (nat_cmp n) q ≡ is_at (nat_cmp q) n
back n q = (eq_by_cmp_equiv nat_cmp_total).symm n q

tied : (o : Ordering) → is_eq o ≡ true → o ≡ Equal
tied Less h = absurd (true≢false (sym h))
tied Equal h = refl
tied Greater h = absurd (true≢false (sym h))

-- keys that tie find the same
pub found_alike : {X : Type 0} (m : FinMap nat_cmp X) (q k : ℕ) → eq_by_cmp nat_cmp q k ≡ true → get m k ≡ get m q
found_alike m q k e = get_tied nat_cmp_total m q k (tied _ e)

-- what was inserted is there
pub found_inserted : {X : Type 0} (m : FinMap nat_cmp X) (k : ℕ) (v : X) → IsSome (get (insert m k v) k)
found_inserted m k v = let here = (eq_by_cmp_equiv nat_cmp_total).refl k in
    subst IsSome (sym (get-insert nat_cmp_total m k v k ∙ ap (λ b. cond b (Some v) (get m k)) here)) refl

module _ {X : Type 0} where
  find_is : (es : List (ℕ × X)) (q : ℕ) → find nat_cmp q es ≡ lookup (is_at (nat_cmp q)) es
  find_is [] q = refl
  find_is (e ∷ es) q = ap (cond (is_at (nat_cmp q) e.0) (Some e.1)) (find_is es q)

  -- the map of the entries finds what a scan of them finds
  pub get_is : (es : List (ℕ × X)) (q : ℕ) → get (from_entries {R = nat_cmp} es) q ≡ lookup (is_at (nat_cmp q)) es
  get_is es q = get-from_entries nat_cmp_total es q ∙ find_is es q

  -- one entry was set
  pub given : (es fs : List (ℕ × X)) (k : ℕ) (v : X)
      → ((q : ℕ) → lookup (is_at (nat_cmp q)) fs ≡ cond (is_at (nat_cmp k) q) (Some v) (lookup (is_at (nat_cmp q)) es))
      → from_entries {R = nat_cmp} fs ≡ insert (from_entries es) k v
  given es fs k v h = same_map nat_cmp_total nat_cmp-IsAntisymmetric _ _ (λ q.
      get_is fs q ∙ h q ∙ ap (λ b. cond b (Some v) (lookup (is_at (nat_cmp q)) es)) (back k q)
      ∙ sym (get-insert nat_cmp_total (from_entries es) k v q ∙ ap (cond (is_at (nat_cmp q) k) (Some v)) (get_is es q)))

  -- one entry was taken out
  pub taken : (es fs : List (ℕ × X)) (k : ℕ)
      → ((q : ℕ) → lookup (is_at (nat_cmp q)) fs ≡ cond (is_at (nat_cmp k) q) None (lookup (is_at (nat_cmp q)) es))
      → from_entries {R = nat_cmp} fs ≡ remove (from_entries es) k
  taken es fs k h = same_map nat_cmp_total nat_cmp-IsAntisymmetric _ _ (λ q.
      get_is fs q ∙ h q ∙ ap (λ b. cond b None (lookup (is_at (nat_cmp q)) es)) (back k q)
      ∙ sym (get-remove nat_cmp_total (from_entries es) k q ∙ ap (cond (is_at (nat_cmp q) k) None) (get_is es q)))

module _ {X Y : Type 0} (g : X → Y) where
  pub lookup-seen : (t : ℕ → Bool) (es : List (ℕ × X)) → lookup t (seen g es) ≡ option_map g (lookup t es)
  lookup-seen t [] = refl
  lookup-seen t (e ∷ es) = ap (cond (t e.0) (Some (g e.1))) (lookup-seen t es) ∙ over (t e.0) (lookup t es)
    where
      over : (b : Bool) (o : Option X) → cond b (Some (g e.1)) (option_map g o) ≡ option_map g (cond b (Some e.1) o)
      over true o = refl
      over false o = refl

  pub given_seen : (es fs : List (ℕ × X)) (k : ℕ) (v : X)
      → ((q : ℕ) → lookup (is_at (nat_cmp q)) fs ≡ cond (is_at (nat_cmp k) q) (Some v) (lookup (is_at (nat_cmp q)) es))
      → from_entries {R = nat_cmp} (seen g fs) ≡ insert (from_entries (seen g es)) k (g v)
  given_seen es fs k v h = given (seen g es) (seen g fs) k (g v) (λ q.
      lookup-seen _ fs ∙ ap (option_map g) (h q) ∙ over (is_at (nat_cmp k) q) (lookup (is_at (nat_cmp q)) es)
      ∙ ap (cond (is_at (nat_cmp k) q) (Some (g v))) (sym (lookup-seen _ es)))
    where
      over : (b : Bool) (o : Option X) → option_map g (cond b (Some v) o) ≡ cond b (Some (g v)) (option_map g o)
      over true o = refl
      over false o = refl

  pub taken_seen : (es fs : List (ℕ × X)) (k : ℕ)
      → ((q : ℕ) → lookup (is_at (nat_cmp q)) fs ≡ cond (is_at (nat_cmp k) q) None (lookup (is_at (nat_cmp q)) es))
      → from_entries {R = nat_cmp} (seen g fs) ≡ remove (from_entries (seen g es)) k
  taken_seen es fs k h = taken (seen g es) (seen g fs) k (λ q.
      lookup-seen _ fs ∙ ap (option_map g) (h q) ∙ over (is_at (nat_cmp k) q) (lookup (is_at (nat_cmp q)) es)
      ∙ ap (cond (is_at (nat_cmp k) q) None) (sym (lookup-seen _ es)))
    where
      over : (b : Bool) (o : Option X) → option_map g (cond b None o) ≡ cond b None (option_map g o)
      over true o = refl
      over false o = refl

as_or : (a b : Bool) → cond a true b ≡ (a || b)
as_or true b = refl
as_or false b = refl

-- what an insertion says of each number
pub grown : (xs ys : List ℕ) (n : ℕ)
    → ((q : ℕ) → list_any (is_at (nat_cmp q)) ys ≡ cond (is_at (nat_cmp n) q) true (list_any (is_at (nat_cmp q)) xs))
    → set.from_list {R = nat_cmp} ys ≡ set.insert (set.from_list xs) n
grown xs ys n h = set.same_set nat_cmp_total set.nat_cmp-IsAntisymmetric _ _ (λ q.
    set.contains-from_list nat_cmp_total ys q ∙ h q
    ∙ ap (λ b. cond b true (list_any (is_at (nat_cmp q)) xs)) (back n q) ∙ as_or (is_at (nat_cmp q) n) _
    ∙ ap (λ b. eq_by_cmp nat_cmp q n || b) (sym (set.contains-from_list nat_cmp_total xs q))
    ∙ sym (set.contains-insert nat_cmp_total (set.from_list xs) n q))

never_zero : (n : ℕ) → (suc n == 0) ≡ false
never_zero n = grind arith

zero_at : {X : Type 0} (n : ℕ) (v : X) (o : Option X) → is_some (cond (is_at (nat_cmp 0) n) (Some v) o) ≡ ((n == 0) || is_some o)
zero_at zero v o = refl
zero_at (suc n) v o =
    ap (λ r. is_some (cond (is_eq r) (Some v) o)) (sym (nat_cmp_is 0 (suc n) Less (omega arith)))
    ∙ ap (λ b. b || is_some o) (sym (never_zero n))

-- what a look for the number 0 finds
pub zero_found : {X : Type 0} (es : List (ℕ × X)) → is_some (lookup (is_at (nat_cmp 0)) es) ≡ has_zero es
zero_found [] = refl
zero_found (e ∷ es) = zero_at e.0 e.1 (lookup (is_at (nat_cmp 0)) es) ∙ ap (λ b. (e.0 == 0) || b) (zero_found es)

-- where something is found, it is not so that nothing is
pub found_something : {X : Type 0} (o : Option X) → IsSome o → ¬ (o ≡ None)
found_something o some none = true≢false (sym some ∙ ap is_some none)

-- what is not there is not taken out
pub absent : {X : Type 0} (m : FinMap nat_cmp X) (k : ℕ) → get m k ≡ None → remove m k ≡ m
absent m k none = same_map nat_cmp_total nat_cmp-IsAntisymmetric _ _ (λ q.
    get-remove nat_cmp_total m k q ∙ gone (eq_by_cmp nat_cmp q k) q refl)
  where
    gone : (b : Bool) (q : ℕ) → eq_by_cmp nat_cmp q k ≡ b → cond b None (get m q) ≡ get m q
    gone false q e = refl
    gone true q e = sym none ∙ found_alike m q k e
