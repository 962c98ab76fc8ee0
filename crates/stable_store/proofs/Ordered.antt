-- Entries in the order of their keys.
use Rattle.std.proofs.Common.{◌≡◌, ℕ, List, [], ◌∷◌, ◌++◌, map, refl, sym, ap, subst, ◌∙◌}
use Rattle.std.proofs.lemmas.List.{map-append, append_assoc, map-id}
use Rattle.std.specs.Ordering.{nat_cmp, match_ordering, ordering_reverse}
use Rattle.std.specs.declared.cmp.Ordering.TheVariants.{Less, Greater}
use Rattle.std.specs.Cmp.{nat_cmp_total}
use Rattle.std.specs.List.{AllByRecursion}
use Rattle.std.specs.List.Sorted.{IsStrictlySortedBy}
use Rattle.std.specs.Map.{keys_of}
use Rattle.std.specs.BTreeMap.{insert_entry}
use Rattle.std.proofs.lemmas.Map.Keys.{sorted_head, sorted_tail}

-- what holds of each element holds of one in the midst
at_midst : {X : Type 0} (P : X → Type 0) (xs : List X) (x : X) (ys : List X) → AllByRecursion P (xs ++ x ∷ ys) → P x
at_midst P [] x ys h = h.0
at_midst P (y ∷ xs) x ys h = at_midst P xs x ys h.1

-- an entry whose key is above the others is put last
put_last : {X : Type 0} (es : List (ℕ × X)) (k : ℕ) (v : X) (later : List ℕ)
    → IsStrictlySortedBy nat_cmp (keys_of es ++ k ∷ later) → insert_entry nat_cmp es k v ≡ es ++ (k, v) ∷ []
put_last [] k v later sorted = refl
put_last (e ∷ es) k v later sorted =
    let below : nat_cmp e.0 k ≡ Less = at_midst (λ y. nat_cmp e.0 y ≡ Less) (keys_of es) k later (sorted_head nat_cmp e.0 _ sorted) in
    let above : nat_cmp k e.0 ≡ Greater = nat_cmp_total.antisymm k e.0 ∙ ap ordering_reverse below in
    ap (λ o. match_ordering o ((k, v) ∷ e ∷ es) ((e.0, v) ∷ es) (e ∷ insert_entry nat_cmp es k v)) above
    ∙ ap (λ fs. e ∷ fs) (put_last es k v later (sorted_tail nat_cmp e.0 _ sorted))

-- the entries, with what each value is seen as
abbrev pub seen : {X Y : Type 0} → (X → Y) → List (ℕ × X) → List (ℕ × Y)
seen g es = map (λ e. (e.0, g e.1)) es

keys_seen : {X Y : Type 0} (g : X → Y) (es : List (ℕ × X)) → keys_of (seen g es) ≡ keys_of es
keys_seen g [] = refl
keys_seen g (e ∷ es) = ap (λ ks. e.0 ∷ ks) (keys_seen g es)

-- one entry more was put into a map, of those that were left
pub put_on : {X Y Z : Type 0} (g : Y → Z) (h : X → Z) (all left rest : List (ℕ × X)) (before after : List (ℕ × Y)) (k : ℕ) (v : X) (w : Y)
    → IsStrictlySortedBy nat_cmp (keys_of all) → seen g before ++ seen h left ≡ seen h all
    → left ≡ (k, v) ∷ rest → after ≡ insert_entry nat_cmp before k w → g w ≡ h v
    → seen g after ++ seen h rest ≡ seen h all
put_on g h all left rest before after k v w sorted so_far next put same =
    let parts : seen g before ++ (k, h v) ∷ seen h rest ≡ seen h all = ap (λ l. seen g before ++ seen h l) (sym next) ∙ so_far in
    let keys : keys_of before ++ k ∷ keys_of (seen h rest) ≡ keys_of all =
    ap (λ ks. ks ++ k ∷ keys_of (seen h rest)) (sym (keys_seen g before)) ∙ sym (map-append (λ e. e.0) (seen g before) _)
    ∙ ap keys_of parts ∙ keys_seen h all in
    let last : insert_entry nat_cmp before k w ≡ before ++ (k, w) ∷ [] =
    put_last before k w _ (subst (IsStrictlySortedBy nat_cmp) (sym keys) sorted) in
    ap (λ es. seen g es ++ seen h rest) (put ∙ last)
    ∙ ap (λ es. es ++ seen h rest) (map-append _ before _)
    ∙ append_assoc (seen g before) _ (seen h rest)
    ∙ ap (λ y. seen g before ++ (k, y) ∷ seen h rest) same
    ∙ parts

pub all_copied : {X : Type 0} (all before after left rest : List (ℕ × X)) (k : ℕ) (v w : X)
    → IsStrictlySortedBy nat_cmp (keys_of all) → before ++ left ≡ all
    → left ≡ (k, v) ∷ rest → after ≡ insert_entry nat_cmp before k w → w ≡ v
    → after ++ rest ≡ all
all_copied {X = X} all before after left rest k v w sorted so_far next put same =
    let as_seen : (es : List (ℕ × X)) → seen (λ x. x) es ≡ es = λ es. map-id es in
    let parts = (λ i. as_seen before i ++ as_seen left i) ∙ so_far ∙ sym (as_seen all) in
    (λ i. sym (as_seen after) i ++ sym (as_seen rest) i)
    ∙ put_on (λ x. x) (λ x. x) all left rest before after k v w sorted parts next put same
    ∙ as_seen all

-- one more was made a part of
pub all_seen : {X Y : Type 0} (h : X → Y) (all left rest : List (ℕ × X)) (before after : List (ℕ × Y)) (k : ℕ) (v : X) (w : Y)
    → IsStrictlySortedBy nat_cmp (keys_of all) → before ++ seen h left ≡ seen h all
    → left ≡ (k, v) ∷ rest → after ≡ insert_entry nat_cmp before k w → w ≡ h v
    → after ++ seen h rest ≡ seen h all
all_seen {Y = Y} h all left rest before after k v w sorted so_far next put same =
    let as_seen : (es : List (ℕ × Y)) → seen (λ x. x) es ≡ es = λ es. map-id es in
    ap (λ es. es ++ seen h rest) (sym (as_seen after))
    ∙ put_on (λ x. x) h all left rest before after k v w sorted (ap (λ es. es ++ seen h left) (as_seen before) ∙ so_far) next put same
