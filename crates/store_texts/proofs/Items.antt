-- Lists of documents.
use Rattle.std.proofs.Common.{◌≡◌, ◌≢◌, ℕ, zero, suc, ◌+◌, ◌<◌, List, [], ◌∷◌, ◌++◌, length, get_or, map, take, refl, sym, ap, subst, ◌∙◌, append_assoc, arith}
use Rattle.std.specs.List.{AllByRecursion}
use Rattle.std.proofs.lemmas.List.{map-append, take_more}
use Rattle.json.specs.Token.{Token}
use Rattle.json.specs.Tree as tree
use Rattle.serde_json.specs.Data.{Data, array, Items, item, no_items}
use Rattle.serde_json.specs.View.{view, items_view}
use Rattle.serde_json.specs.Written.{outline, items_outline}
use Rattle.serde_json.specs.declared.value.Value.{Value as Json}
use Rattle.store_texts.specs.Texts.{items_data, list_data}

-- ---- reading

pub same_array : (ds es : Items) → array ds ≡ array es → ds ≡ es
same_array ds es e = cc

pub same_items : {X : Type 0} (f : X → Data) (one : (x y : X) → f x ≡ f y → x ≡ y) (xs ys : List X) → items_data f xs ≡ items_data f ys → xs ≡ ys
same_items f one [] [] e = refl
same_items f one [] (y ∷ ys) e = absurd cc
same_items f one (x ∷ xs) [] e = absurd cc
same_items f one (x ∷ xs) (y ∷ ys) e =
    let first : f x ≡ f y = cc in
    let others : items_data f xs ≡ items_data f ys = cc in
    let p = one x y first in
    let q = same_items f one xs ys others in
    cc

-- lists of one document are equal
pub same_list : {X : Type 0} (f : X → Data) (one : (x y : X) → f x ≡ f y → x ≡ y) (xs ys : List X) → list_data f xs ≡ list_data f ys → xs ≡ ys
same_list f one xs ys e = same_items f one xs ys (same_array (items_data f xs) (items_data f ys) e)

-- each document of a list is one of its values
pub items_at : {X : Type 0} (f : X → Data) (P : X → Type 0) (vs : List Json) (xs : List X) (i : ℕ) (v : Json) → items_view vs ≡ items_data f xs → AllByRecursion P xs → i < length vs → v ≡ get_or vs i v → (x : X) × P x × (view v ≡ f x)
items_at f P [] xs i v e all lt is = absurd (omega arith)
items_at f P (w ∷ vs) [] i v e all lt is = absurd cc
items_at f P (w ∷ vs) (x ∷ xs) zero v e all lt is = let first : view w ≡ f x = cc in (x, all.0, ap view is ∙ first)
items_at f P (w ∷ vs) (x ∷ xs) (suc i) v e all lt is = let others : items_view vs ≡ items_data f xs = cc in items_at f P vs xs i v others all.1 (omega arith) is

items_push : {X : Type 0} (f : X → Data) (vs : List Json) (xs : List X) (v : Json) (x : X) → items_view vs ≡ items_data f xs → view v ≡ f x → items_view (vs ++ v ∷ []) ≡ items_data f (xs ++ x ∷ [])
items_push f [] [] v x e is = ap (λ d. item d no_items) is
items_push f [] (y ∷ xs) v x e is = absurd cc
items_push f (w ∷ vs) [] v x e is = absurd cc
items_push f (w ∷ vs) (y ∷ xs) v x e is =
    let first : view w ≡ f y = cc in
    let others : items_view vs ≡ items_data f xs = cc in
    ap (λ d. item d (items_view (vs ++ v ∷ []))) first ∙ ap (item (f y)) (items_push f vs xs v x others is)

pub all_push : {X : Type 0} (P : X → Type 0) (xs : List X) (x : X) → AllByRecursion P xs → P x → AllByRecursion P (xs ++ x ∷ [])
all_push P [] x all h = (h, tt)
all_push P (y ∷ xs) x all h = (all.0, all_push P xs x all.1 h)

-- what was read of the first items
pub record ReadsItems {X : Type 0} (f : X → Data) (P : X → Type 0) (vs : List Json) (xs : List X) : Type 0 where
  pub each : AllByRecursion P xs
  pub read : items_view vs ≡ items_data f xs

pub nothing_yet : {X : Type 0} (f : X → Data) (P : X → Type 0) (xs : List X) → xs ≡ [] → ReadsItems f P [] xs
nothing_yet f P xs e = subst (ReadsItems f P []) (sym e) (record { each = tt; read = refl })

pub one_more : {X : Type 0} (f : X → Data) (P : X → Type 0) (vs : List Json) (xs more : List X) (i : ℕ) (v : Json) (x : X) → ReadsItems f P (take i vs) xs → i < length vs → v ≡ get_or vs i v
    → P x × (view v ≡ f x) → more ≡ xs ++ x ∷ [] → ReadsItems f P (take (i + 1) vs) more
one_more f P vs xs more i v x so_far lt item_is h pushed =
    let front : take (i + 1) vs ≡ take i vs ++ v ∷ [] = take_more vs i v lt ∙ ap (λ w. take i vs ++ w ∷ []) (sym item_is) in
    record {
      each = subst (AllByRecursion P) (sym pushed) (all_push P xs x so_far.each h.0);
      read = ap items_view front ∙ items_push f (take i vs) xs v x so_far.read h.1 ∙ ap (items_data f) (sym pushed);
    }

-- the document is that of the values that were read
pub list_read : {X : Type 0} (f : X → Data) (P : X → Type 0) (d : Data) (vs : List Json) (xs : List X) → d ≡ array (items_view vs) → ReadsItems f P vs xs → d ≡ list_data f xs
list_read f P d vs xs is r = is ∙ ap array r.read

-- where an item is none, the document is none
pub item_refused : {X : Type 0} (f : X → Data) (P : X → Type 0) (d : Data) (vs : List Json) (i : ℕ) (v : Json) → d ≡ array (items_view vs) → i < length vs → v ≡ get_or vs i v → ((x : X) → P x → view v ≢ f x)
    → (xs : List X) → AllByRecursion P xs → d ≢ list_data f xs
item_refused f P d vs i v is lt at none xs fits e =
    let x = items_at f P vs xs i v (same_array (items_view vs) (items_data f xs) (sym is ∙ e)) fits lt at in none x.0 x.1 x.2

-- ---- writing

-- the tokens of the elements of an array, and its end
abbrev pub elements : {X : Type 0} → (X → Data) → List X → List Token
elements f xs = tree.items_tokens (items_outline (items_data f xs))

-- one element more is written
pub element_more : {X : Type 0} (f : X → Data) (ts new start : List Token) (all left rest : List X) (x : X) → left ≡ x ∷ rest → ts ++ elements f left ≡ start
    → new ≡ ts ++ tree.json_tokens (outline (f x)) → new ++ elements f rest ≡ start
element_more f ts new start all left rest x next so_far wrote =
    ap (λ (t : List Token). t ++ elements f rest) wrote ∙ append_assoc ts (tree.json_tokens (outline (f x))) (elements f rest)
    ∙ ap (λ l. ts ++ elements f l) (sym next) ∙ so_far

-- all elements were written, and the end
pub elements_end : {X : Type 0} (f : X → Data) (old begun ts new : List Token) (xs left : List X) → left ≡ [] → begun ≡ old ++ Token.begin_array ∷ []
    → ts ++ elements f left ≡ begun ++ elements f xs → new ≡ ts ++ Token.end_array ∷ [] → new ≡ old ++ tree.json_tokens (outline (list_data f xs))
elements_end f old begun ts new xs left none began so_far ended =
    ended ∙ ap (λ l. ts ++ elements f l) (sym none) ∙ so_far ∙ ap (λ (t : List Token). t ++ elements f xs) began
    ∙ append_assoc old (Token.begin_array ∷ []) (elements f xs)

-- tokens behind tokens
pub behind : (a b c xs ys : List Token) → b ≡ a ++ xs → c ≡ b ++ ys → c ≡ a ++ (xs ++ ys)
behind a b c xs ys p q = q ∙ ap (λ t. t ++ ys) p ∙ append_assoc a xs ys

-- one more was pushed, and is seen so
pub map_push : {X Y : Type 0} (f : X → Y) (xs more : List X) (x : X) → more ≡ xs ++ x ∷ [] → map f more ≡ map f xs ++ f x ∷ []
map_push f xs more x e = ap (map f) e ∙ map-append f xs (x ∷ [])

-- a document whose items are no such list is none
pub list_refused : {X : Type 0} (f : X → Data) (P : X → Type 0) (d : Data) (vs : List Json) → d ≡ array (items_view vs) → ((xs : List X) → AllByRecursion P xs → items_view vs ≢ items_data f xs)
    → (xs : List X) → AllByRecursion P xs → d ≢ list_data f xs
list_refused f P d vs is none xs fits e = none xs fits (same_array (items_view vs) (items_data f xs) (sym is ∙ e))

-- a document of a list that is not so is none of a list that is
pub other_refused : {X : Type 0} (f : X → Data) (one : (x y : X) → f x ≡ f y → x ≡ y) (R : List X → Type 0) (d : Data) (xs : List X) → d ≡ list_data f xs → (R xs → ⊥) → (ys : List X) → R ys → d ≢ list_data f ys
other_refused f one R d xs is not_so ys fits e = not_so (subst R (sym (same_list f one xs ys (sym is ∙ e))) fits)
