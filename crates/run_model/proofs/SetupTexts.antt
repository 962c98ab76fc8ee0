-- Writing a setup, and reading back what was written.
use Rattle.std.proofs.Common.{◌≡◌, ℕ, suc, ◌+◌, ◌<◌, ◌≤◌, List, [], ◌∷◌, ◌++◌, length, get_or, drop, codes, Some, option_map, option_and_then, IsUtf8, refl, sym, ap, subst, ◌∙◌, append_assoc, add-one, arith}
use Rattle.std.specs.List.{AllByRecursion}
use Rattle.std.proofs.Math.Seq.{drop-cons}
use Rattle.std.proofs.lemmas.List.{length-drop}
use Rattle.json.specs.Token.{Token}
use Rattle.json.specs.Tree as tree
use Rattle.serde_json.specs.Data.{Data, array, object, Items, item, no_members, member}
use Rattle.serde_json.specs.Read.{of_items}
use Rattle.serde_json.specs.Written.{outline, items_outline}
use Rattle.values.specs.declared.content.Content.{Content}
use Rattle.values.specs.declared.content.Content.TheVariants.{Record, Array, Variant, Counter}
use Rattle.values.specs.Contents.{IsStoredContent, content_data}
use Rattle.values.proofs.Documents.{IsReadable, read-compact_text}
use Rattle.values.proofs.Members.{IsReadable-under, depth-fields}
use Rattle.values.proofs.Items.{depth-array}
use Rattle.values.proofs.Tags.{depth-variant}
use Rattle.values.proofs.Contents.{IsReadable-stored}
use Rattle.run_model.specs.Openings.{Setup}
use Rattle.run_model.specs.Texts.{AreObjectsOf, IsOpeningSetup, IsOpeningText, contents_items, guardians_items, setup_data, setup_text}
use Rattle.run_model.specs.Documents.{guardian_data}
use Rattle.run_model.proofs.Setups.{items_data, contents_are, guardians_are}

-- ---- writing

-- the tokens of the elements of an array, and its end
abbrev pub elements : {X : Type 0} → (X → Data) → List X → List Token
elements f xs = tree.items_tokens (items_outline (items_data f xs))

-- one element more is written
pub element_more : {X : Type 0} (f : X → Data) (ts new start : List Token) (xs : List X) (i : ℕ) (x : X) → i < length xs → x ≡ get_or xs i x → ts ++ elements f (drop i xs) ≡ start
    → new ≡ ts ++ tree.json_tokens (outline (f x)) → new ++ elements f (drop (i + 1) xs) ≡ start
element_more f ts new start xs i x lt item_is so_far wrote =
    let d : drop i xs ≡ x ∷ drop (i + 1) xs = drop-cons xs i x lt ∙ ap (λ y. y ∷ drop (suc i) xs) (sym item_is) ∙ ap (λ k. x ∷ drop k xs) (sym (add-one i)) in
    ap (λ (t : List Token). t ++ elements f (drop (i + 1) xs)) wrote ∙ append_assoc ts (tree.json_tokens (outline (f x))) (elements f (drop (i + 1) xs))
    ∙ ap (λ l. ts ++ elements f l) (sym d) ∙ so_far

drop_past : {X : Type 0} (xs : List X) (i : ℕ) → length xs ≤ i → drop i xs ≡ []
drop_past {X} xs i past = nothing (drop i xs) (omega (arith, length-drop i xs))
  where
    nothing : (ys : List X) → length ys ≡ 0 → ys ≡ []
    nothing [] none = refl
    nothing (y ∷ ys) none = absurd (omega arith)

-- all elements were written, and the end
pub elements_end : {X : Type 0} (f : X → Data) (old begun ts new : List Token) (xs : List X) (items : Items) (i : ℕ) → length xs ≤ i → items ≡ items_data f xs → begun ≡ old ++ Token.begin_array ∷ []
    → ts ++ elements f (drop i xs) ≡ begun ++ elements f xs → new ≡ ts ++ Token.end_array ∷ [] → new ≡ old ++ tree.json_tokens (outline (array items))
elements_end f old begun ts new xs items i past are began so_far ended =
    ended ∙ ap (λ l. ts ++ elements f l) (sym (drop_past xs i past)) ∙ so_far ∙ ap (λ (t : List Token). t ++ elements f xs) began
    ∙ append_assoc old (Token.begin_array ∷ []) (elements f xs) ∙ ap (λ k. old ++ tree.json_tokens (outline (array k))) (sym are)

-- an object with one array
pub array_under : (name : List ℕ) (items : Items) (old t1 t2 t3 t4 : List Token) → t1 ≡ old ++ Token.begin_object ∷ []
    → t2 ≡ t1 ++ Token.key name ∷ [] → t3 ≡ t2 ++ tree.json_tokens (outline (array items)) → t4 ≡ t3 ++ Token.end_object ∷ []
    → t4 ≡ old ++ tree.json_tokens (outline (object (member name (array items) no_members)))
array_under name items old t1 t2 t3 t4 a b c d =
    let inside : List Token = tree.json_tokens (outline (array items)) in
    d ∙ ap (λ t. t ++ Token.end_object ∷ []) c ∙ append_assoc t2 inside (Token.end_object ∷ [])
    ∙ ap (λ t. t ++ (inside ++ Token.end_object ∷ [])) b ∙ append_assoc t1 (Token.key name ∷ []) (inside ++ Token.end_object ∷ [])
    ∙ ap (λ t. t ++ (Token.key name ∷ (inside ++ Token.end_object ∷ []))) a
    ∙ append_assoc old (Token.begin_object ∷ []) (Token.key name ∷ (inside ++ Token.end_object ∷ []))

-- ---- reading back

-- what is read back, element by element
record ReadBack (items : Items) : Type 0 where
  numbers : tree.ItemsHaveNumbers (items_outline items)
  converts : of_items (items_outline items) ≡ Some items

read_items : {X : Type 0} (f : X → Data) (P : X → Type 0) (each : (x : X) → P x → IsReadable (f x)) (xs : List X) → AllByRecursion P xs → ReadBack (items_data f xs)
read_items f P each [] all = record { numbers = tt; converts = refl }
read_items f P each (x ∷ xs) all =
    let first = each x all.0 in
    let others = read_items f P each xs all.1 in
    record {
      numbers = (first.numbers, others.numbers);
      converts = ap (option_and_then (λ d. option_map (item d) (of_items (items_outline (items_data f xs))))) first.converts ∙ ap (option_map (item (f x))) others.converts;
    }

depth_items : {X : Type 0} (f : X → Data) (n : ℕ) (P : X → Type 0) (each : (x : X) → P x → tree.depth (outline (f x)) ≤ n) (xs : List X) → AllByRecursion P xs → tree.items_depth (items_outline (items_data f xs)) ≤ n
depth_items f n P each [] all = omega arith
depth_items f n P each (x ∷ xs) all = omega (arith, each x all.0, depth_items f n P each xs all.1)

under_array : (name : List ℕ) (items : Items) → ReadBack items → tree.items_depth (items_outline items) ≤ 100 → IsReadable (object (member name (array items) no_members))
under_array name items back shallow =
    IsReadable-under name (array items) (record { numbers = back.numbers; shallow = omega arith; converts = ap (option_map array) back.converts }) (omega arith)

depth_content : (c : Content) → IsStoredContent c → tree.depth (outline (content_data c)) ≤ 3
depth_content (Record fields) fits = omega (arith, depth-fields fields)
depth_content (Array a) fits = omega (arith, depth-array a)
depth_content (Variant v) fits = omega (arith, depth-variant v)
depth_content (Counter n) fits = omega arith

contents_depth : (contents : List Content) → AllByRecursion IsStoredContent contents → tree.items_depth (items_outline (contents_items contents)) ≤ 3
contents_depth contents all = subst (λ k. tree.items_depth (items_outline k) ≤ 3) (sym (contents_are contents)) (depth_items content_data 3 IsStoredContent depth_content contents all)

guardian_readable : (contents : List Content) → AreObjectsOf IsStoredContent contents → IsReadable (guardian_data contents)
guardian_readable contents fits =
    under_array (codes "objects") (contents_items contents)
    (subst ReadBack (sym (contents_are contents)) (read_items content_data IsStoredContent IsReadable-stored contents fits.1)) (omega (arith, contents_depth contents fits.1))

guardian_depth : (contents : List Content) → AreObjectsOf IsStoredContent contents → tree.depth (outline (guardian_data contents)) ≤ 5
guardian_depth contents fits = omega (arith, contents_depth contents fits.1)

setup_readable : (setup : Setup) → IsOpeningSetup setup → IsReadable (setup_data setup)
setup_readable setup fits =
    under_array (codes "guardians") (guardians_items setup)
    (subst ReadBack (sym (guardians_are setup)) (read_items guardian_data (AreObjectsOf IsStoredContent) guardian_readable setup fits.each))
    (let d : tree.items_depth (items_outline (guardians_items setup)) ≤ 5 =
    subst (λ k. tree.items_depth (items_outline k) ≤ 5) (sym (guardians_are setup)) (depth_items guardian_data 5 (AreObjectsOf IsStoredContent) guardian_depth setup fits.each)
    in omega (arith, d))

-- the text of a setup is read back as that setup
pub text_read_back : (bytes : List ℕ) (setup : Setup) → bytes ≡ setup_text setup → IsUtf8 bytes → IsOpeningSetup setup → IsOpeningText bytes setup
text_read_back bytes setup is utf8 fits = subst (λ (b : List ℕ). IsOpeningText b setup) (sym is) (record {
  fits = fits;
  utf8 = subst IsUtf8 is utf8;
  document = read-compact_text (setup_data setup) (setup_readable setup fits);
})
