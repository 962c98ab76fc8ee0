-- The numbers of handlers, beside maps and counts as they are kept.
use Rattle.std.proofs.Common.{◌≡◌, ◌<◌, ◌≤◌, ℕ, zero, suc, ◌+◌, ◌-◌, ◌*◌, min, List, [], ◌∷◌, ◌++◌, length, get_or, Bool, true, false, String, Global, string_bytes, cond, Option, Some, None, option_map, option_and_then, unwrap_or, refl, ap, ◌∙◌, arith}
use Rattle.std.specs.List.{slice_get}
use Rattle.std.specs.Map.{keys_of}
use Rattle.serde_json.specs.declared.value.Value.{Value}
use Rattle.serde_json.specs.View.{view, items_view, members_view}
use Rattle.serde_json.specs.Data.{Data, Items, no_items, item, Members, no_members, member}
use Rattle.serde_json.specs.Find.{get_item, get_member}
use Rattle.serde_json.specs.Events.{members_len}
use Rattle.serde_json.proofs.Views.{Entry}
use Rattle.values.specs.Words.{same_bytes}
use Rattle.script_model.specs.Signatures.{handlers_in, place_among, handlers_before, max_handlers}
use Rattle.script.specs.Found.{found_in}
use Rattle.script_parts.proofs.Looked.{get_item-found, get_item-lost}

-- ---- the place of a name

-- the place of a name among keys
abbrev pub place_in : ℕ → List ℕ → List (String Global) → ℕ
place_in zero name ks = 0
place_in (suc most) name [] = 0
place_in (suc most) name (k ∷ ks) = cond (same_bytes (string_bytes k) name) 0 (suc (place_in most name ks))

pub place_among-keys : (most : ℕ) (name : List ℕ) (es : List Entry) → place_in most name (keys_of es) ≡ place_among most name (members_view es)
place_among-keys zero name es = refl
place_among-keys (suc most) name [] = refl
place_among-keys (suc most) name (e ∷ es) = ap (λ n. cond (same_bytes (string_bytes e.0) name) 0 (suc n)) (place_among-keys most name es)

place_in-at : (most m : ℕ) (name : List ℕ) (k : String Global) (ks : List (String Global)) (b : Bool) → most ≡ suc m → same_bytes (string_bytes k) name ≡ b
    → place_in most name (k ∷ ks) ≡ cond b 0 (suc (place_in m name ks))
place_in-at most m name k ks b is same = ap (λ n. place_in n name (k ∷ ks)) is ∙ ap (λ c. cond c 0 (suc (place_in m name ks))) same

pub place_in-full : (most : ℕ) (name : List ℕ) (ks : List (String Global)) → most ≡ 0 → place_in most name ks ≡ 0
place_in-full most name ks none = ap (λ n. place_in n name ks) none

pub place_in-here : (place : ℕ) (name : List ℕ) (k : String Global) (ks : List (String Global)) → place < 64 → same_bytes (string_bytes k) name ≡ true
    → place_in (64 - place) name (k ∷ ks) ≡ 0
place_in-here place name k ks more same = place_in-at (64 - place) (63 - place) name k ks true (omega arith) same

pub place_in-later : (place : ℕ) (name : List ℕ) (k : String Global) (ks : List (String Global)) → place < 64 → same_bytes (string_bytes k) name ≡ false
    → place + place_in (64 - place) name (k ∷ ks) ≡ (place + 1) + place_in (64 - (place + 1)) name ks
place_in-later place name k ks more other =
    let at = place_in-at (64 - place) (64 - (place + 1)) name k ks false (omega arith) other in
    omega arith

pub place_in-end : (most : ℕ) (name : List ℕ) → place_in most name [] ≡ 0
place_in-end zero name = refl
place_in-end (suc most) name = refl

place_among-at : (b : Bool) (n most : ℕ) → n ≤ most → cond b 0 (suc n) ≤ suc most
place_among-at true n most h = omega arith
place_among-at false n most h = omega arith

pub place_among-most : (most : ℕ) (name : List ℕ) (ms : Members) → place_among most name ms ≤ most
place_among-most zero name ms = omega arith
place_among-most (suc most) name no_members = omega arith
place_among-most (suc most) name (member n d ms) = place_among-at (same_bytes n name) _ most (place_among-most most name ms)

-- ---- how many handlers stand before

handlers_before-more : (gs : List Value) (n : ℕ) (g : Value) → n < length gs → g ≡ get_or gs n g
    → handlers_before (suc n) (items_view gs) ≡ handlers_before n (items_view gs) + min (members_len (handlers_in (view g))) max_handlers
handlers_before-more [] n g h is = absurd (omega arith)
handlers_before-more (x ∷ gs) zero g h is = omega (arith, ap (λ v. min (members_len (handlers_in (view v))) max_handlers) is)
handlers_before-more (x ∷ gs) (suc n) g h is = omega (arith, handlers_before-more gs n g (omega arith) is)

pub handlers_before-next : (gs : List Value) (n : ℕ) (g : Value) → n < length gs → g ≡ get_or gs n g
    → handlers_before (n + 1) (items_view gs) ≡ handlers_before n (items_view gs) + min (members_len (handlers_in (view g))) max_handlers
handlers_before-next gs n g h is =
    let next : n + 1 ≡ suc n = omega arith in
    ap (λ k. handlers_before k (items_view gs)) next ∙ handlers_before-more gs n g h is

pub handlers_before-most : (n : ℕ) (ds : Items) → handlers_before n ds ≤ 64 * n
handlers_before-most zero ds = omega arith
handlers_before-most (suc n) no_items = omega arith
handlers_before-most (suc n) (item d ds) = omega (arith, handlers_before-most n ds)

-- what holds of each element of a list, and of one more
pub each-push : (xs : List ℕ) (x : ℕ) (f : ℕ → ℕ) → x ≡ f (length xs) → ((n : ℕ) → n < length xs → slice_get xs n ≡ Some (f n))
    → (n : ℕ) → n < length (xs ++ x ∷ []) → slice_get (xs ++ x ∷ []) n ≡ Some (f n)
each-push [] x f last each zero h = ap Some last
each-push [] x f last each (suc n) h = absurd (omega arith)
each-push (y ∷ xs) x f last each zero h = each zero (omega arith)
each-push (y ∷ xs) x f last each (suc n) h = each-push xs x (λ k. f (suc k)) last (λ k below. each (suc k) (omega arith)) n (omega arith)

-- ---- handlers by their names

found_in-at : (gs : List Value) (n : ℕ) (name : List ℕ) (o : Option Data) → o ≡ get_item n (items_view gs)
    → option_map (λ d. (handlers_before n (items_view gs) + place_among max_handlers name (unwrap_or (option_map handlers_in o) no_members), d))
    (option_and_then (λ d. get_member name (handlers_in d)) o) ≡ found_in (items_view gs) n name
found_in-at gs n name o e =
    ap (λ p. option_map (λ d. (handlers_before n (items_view gs) + place_among max_handlers name (unwrap_or (option_map handlers_in p) no_members), d))
    (option_and_then (λ d. get_member name (handlers_in d)) p)) e

pub found_in-no_guardian : (gs : List Value) (n : ℕ) (name : List ℕ) → slice_get gs n ≡ None → None ≡ found_in (items_view gs) n name
found_in-no_guardian gs n name lost = found_in-at gs n name None (get_item-lost gs n lost)

pub found_in-no_handler : (gs : List Value) (n : ℕ) (name : List ℕ) (g : Value) (ms : Members) → slice_get gs n ≡ Some g → ms ≡ handlers_in (view g)
    → None ≡ get_member name ms → None ≡ found_in (items_view gs) n name
found_in-no_handler gs n name g ms found are none =
    ap (λ o. option_map (λ d. (handlers_before n (items_view gs) + place_among max_handlers name (handlers_in (view g)), d)) o) (none ∙ ap (get_member name) are)
    ∙ found_in-at gs n name (Some (view g)) (get_item-found gs n g found)

pub found_in-handler : (gs : List Value) (n : ℕ) (name : List ℕ) (g : Value) (ms : Members) (d : Data) (before place : ℕ) → slice_get gs n ≡ Some g → ms ≡ handlers_in (view g)
    → Some d ≡ get_member name ms → before ≡ handlers_before n (items_view gs) → place ≡ place_among max_handlers name ms
    → Some (before + place, d) ≡ found_in (items_view gs) n name
found_in-handler gs n name g ms d before place found are some counts places =
    (λ i. Some (counts i + (places ∙ ap (place_among max_handlers name) are) i, d))
    ∙ ap (λ o. option_map (λ d. (handlers_before n (items_view gs) + place_among max_handlers name (handlers_in (view g)), d)) o) (some ∙ ap (get_member name) are)
    ∙ found_in-at gs n name (Some (view g)) (get_item-found gs n g found)
