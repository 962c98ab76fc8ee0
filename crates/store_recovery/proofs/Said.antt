-- What lists say of what is kept, and an opening of stores.
use Rattle.std.proofs.Common.{◌≡◌, ℕ, zero, suc, ◌+◌, ◌-◌, ◌<◌, max, Bool, true, false, cond, ◌&&◌, ◌||◌, ◌==◌, List, [], ◌∷◌, ◌++◌, length, get_or, take, fold, find, Option, Some, option_map, slice_get, nat_cmp, refl, sym, ap, ap₂, subst, ◌∙◌, arith, append_assoc, append-nil, drop, drop_of_length-le, take_all}
use Rattle.std.specs.List.{AllByRecursion, AllZip, list_any}
use Rattle.std.specs.Cmp.{nat_cmp_total, unsigned_tied}
use Rattle.std.specs.Ordering.{eq_by_cmp}
use Rattle.std.specs.FinMap as map
use Rattle.std.specs.FinSet as set
use Rattle.std.proofs.lemmas.List.{map-append, take_more}
use Rattle.std.proofs.lemmas.Option.{none-some, same_Some}
use Rattle.std.proofs.lemmas.Slice.Zip.{all_zipped_more}
use Rattle.action_names.specs.Names.{same_name}
use Rattle.atomic_types.specs.declared.part.Part.{Part}
use Rattle.run_model.specs.Openings.{Setup, StoreLists, held_in, held_of, opening_in, part_at}
use Rattle.stable_store.specs.Calls.{View}
use Rattle.stable_store.specs.Held.{held}
use Rattle.stable_store.specs.Stored.{Stored}
use Rattle.stable_store.specs.declared.kept.Kept.{Kept}
use Rattle.store_recovery.specs.Opened.{IsOpenedFrom, IsOpeningOf, first_number}
use Rattle.store_recovery.specs.Saying.{Says, lists_of}
use Rattle.store_recovery.specs.Settling.{contents, store_of}
use Rattle.store_recovery.specs.Steps.{HasNoRecord}

turned : (m n : ℕ) → (m == n) ≡ (n == m)
turned m n = grind arith

tie : (n m : ℕ) → eq_by_cmp nat_cmp n m ≡ (m == n)
tie n m = unsigned_tied n m ∙ turned n m

of_pair : {A B : Type 0} (b : Bool) (e : A × B) (o : Option (A × B)) → option_map (λ p. p.1) (cond b (Some e) o) ≡ cond b (Some e.1) (option_map (λ p. p.1) o)
of_pair true e o = refl
of_pair false e o = refl

found_at : (es : List (ℕ × Part)) (n : ℕ) → map.find nat_cmp n es ≡ part_at es n
found_at [] n = refl
found_at (e ∷ es) n =
    ap₂ (λ b o. cond b (Some e.1) o) (tie n e.0) (found_at es n) ∙ sym (of_pair (e.0 == n) e (find (λ p. p.0 == n) es))

with_true : (b : Bool) → (b && true) ≡ b
with_true true = refl
with_true false = refl

named : (keys : List ℕ) (n : ℕ) → list_any (eq_by_cmp nat_cmp n) keys ≡ list_any (λ m. same_name (m ∷ []) (n ∷ [])) keys
named [] n = refl
named (m ∷ keys) n = ap₂ (λ a b. a || b) (tie n m ∙ sym (with_true (m == n))) (named keys n)

-- the lists say what is kept
pub says_kept : (kept : Kept) → Says (held kept) (lists_of kept)
says_kept kept = record {
  base = λ n. map.get-from_entries nat_cmp_total kept.base.entries n ∙ found_at kept.base.entries n;
  decided = λ n. set.contains-from_list nat_cmp_total kept.decided.keys n ∙ named kept.decided.keys n;
  count = refl;
  next_top = refl;
}

-- ---- one more

-- what was listed and what is left are all
pub listed_more : {A : Type 0} (listed now left rest all : List A) (x y : A) → now ≡ listed ++ x ∷ [] → left ≡ y ∷ rest → x ≡ y → listed ++ left ≡ all
    → now ++ rest ≡ all
listed_more listed now left rest all x y grown step same so_far =
    ap (λ l. l ++ rest) grown ∙ append_assoc listed (x ∷ []) rest ∙ ap (λ z. listed ++ z ∷ rest) same ∙ ap (λ l. listed ++ l) (sym step) ∙ so_far

fold_push : {A B : Type 0} (f : B → A → B) (a : B) (xs : List A) (x : A) → fold f a (xs ++ x ∷ []) ≡ f (fold f a xs) x
fold_push f a [] x = refl
fold_push f a (y ∷ xs) x = fold_push f (f a y) xs x

module _ {S : Type 0} (seen : S → View) (stores : List S) (i : ℕ) (s : S) (within : i < length stores) (at : s ≡ get_or stores i s) where
  pub contents_more : contents seen (take (i + 1) stores) ≡ contents seen (take i stores) ++ (seen s).content ∷ []
  contents_more =
      ap (λ ss. contents seen ss) (take_more stores i s within ∙ ap (λ x. take i stores ++ x ∷ []) (sym at)) ∙ map-append (λ t. (seen t).content) (take i stores) (s ∷ [])

  pub greater : (kept : Kept) (first : ℕ) → (seen s).content ≡ held kept → first ≡ first_number (contents seen (take i stores))
      → max first kept.next_top ≡ first_number (contents seen (take (i + 1) stores))
  greater kept first is so_far =
      ap₂ (λ a b. max a b) so_far (ap (λ c. c.next_top) (sym is))
      ∙ sym (ap first_number contents_more ∙ fold_push (λ n t. max n t.next_top) 1 (contents seen (take i stores)) (seen s).content)

  pub says_more : (kept : Kept) (said now : List StoreLists) (lists : StoreLists) → (seen s).content ≡ held kept → lists ≡ lists_of kept → now ≡ said ++ lists ∷ []
      → AllZip Says (contents seen (take i stores)) said → AllZip Says (contents seen (take (i + 1) stores)) now
  says_more kept said now lists is are grown so_far =
      let here : Says (seen s).content lists = subst (λ l. Says (seen s).content l) (sym are) (subst (λ c. Says c (lists_of kept)) (sym is) (says_kept kept)) in
      subst (λ cs. AllZip Says cs now) (sym contents_more)
      (subst (λ ls. AllZip Says (contents seen (take i stores) ++ (seen s).content ∷ []) ls) (sym grown)
      (all_zipped_more Says (contents seen (take i stores)) said (seen s).content lists so_far here))

-- what a vector holds once all of it was written
pub written_back : {A : Type 0} (xs ys : List A) (n : ℕ) → length xs ≡ n → length ys ≡ n → take n (xs ++ drop (length xs) ys) ≡ xs
written_back xs ys n long_xs long_ys =
    ap (λ l. take n (xs ++ l)) (drop_of_length-le ys (omega arith)) ∙ ap (λ l. take n l) (append-nil xs) ∙ take_all n xs (omega arith)

-- ---- an opening

pub record SaidAt (lists : List StoreLists) (n : ℕ) (s : Stored) : Type 0 where
  pub said : StoreLists
  pub at : slice_get lists n ≡ Some said
  pub says : Says s said
  pub none : HasNoRecord s

said_at : (stores : List Stored) (lists : List StoreLists) (n : ℕ) (s : Stored) → AllZip Says stores lists → AllByRecursion HasNoRecord stores
    → slice_get stores n ≡ Some s → SaidAt lists n s
said_at [] lists n s all none at = absurd (none-some s at)
said_at (t ∷ stores) [] n s all none at = absurd all
said_at (t ∷ stores) (l ∷ lists) zero s all none at =
    let is : t ≡ s = same_Some t s at in
    record { said = l; at = refl; says = subst (λ x. Says x l) is all.0; none = subst HasNoRecord is none.0 }
said_at (t ∷ stores) (l ∷ lists) (suc n) s all none at = let a = said_at stores lists n s all.1 none.1 at in record { said = a.said; at = a.at; says = a.says; none = a.none }

less_one : (n : ℕ) → suc n - 1 ≡ n
less_one n = omega arith

pub opening_of : (setup : Setup) (stores : List Stored) (lists : List StoreLists) (first : ℕ) → AllZip Says stores lists → AllByRecursion HasNoRecord stores
    → first ≡ first_number stores → IsOpeningOf setup stores (opening_in (record { setup = setup; stores = lists; first_top = first }))
opening_of setup stores lists first all none is = record { guardians = refl; says = says; first_top = is }
  where
    says : (g : ℕ) (s : Stored) → store_of stores g ≡ Some s → IsOpenedFrom (opening_in (record { setup = setup; stores = lists; first_top = first })) g s
    says zero s at = absurd (none-some s at)
    says (suc n) s at =
        let a = said_at stores lists n s all none at in
        let held_is : held_in (slice_get lists (suc n - 1)) ≡ held_of a.said = ap (λ m. held_in (slice_get lists m)) (less_one n) ∙ ap held_in a.at in record {
          base = λ k. a.says.base k ∙ sym (ap (λ h. h.base k) held_is);
          prepared = a.none;
          decided = λ k. a.says.decided k ∙ sym (ap (λ h. h.decided (k ∷ [])) held_is);
          count = a.says.count ∙ sym (ap (λ h. h.count) held_is);
          next_top = a.says.next_top ∙ sym (ap (λ h. h.next_top) held_is);
        }
