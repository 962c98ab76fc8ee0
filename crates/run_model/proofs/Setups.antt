-- Reading a setup from its JSON document.
use Rattle.std.proofs.Common.{◌≡◌, ◌≢◌, ℕ, zero, suc, ◌+◌, ◌<◌, ◌≤◌, Bool, true, false, List, [], ◌∷◌, ◌++◌, length, get_or, take, codes, Option, Some, None, Result, Err, string_bytes, bytes_eq, refl, sym, ap, subst, ◌∙◌, arith}
use Rattle.std.specs.List.{AllByRecursion}
use Rattle.std.proofs.lemmas.List.{take_more}
use Rattle.std.proofs.lemmas.Slice.Eq.{bytes_eq-Decides}
use Rattle.serde_json.specs.Data.{Data, null, boolean, number, string, array, object, Items, no_items, item, no_members, member}
use Rattle.serde_json.specs.Find.{get, get_member, as_array, as_object}
use Rattle.serde_json.specs.View.{view, items_view, members_view}
use Rattle.serde_json.specs.declared.value.Value.{Value as Json}
use Rattle.serde_json.proofs.Views.{Entry, member_here, member_later, get_member-put}
use Rattle.values.specs.declared.words.ValueFault.{ValueFault}
use Rattle.values.specs.declared.words.ValueFault.TheVariants as faults
use Rattle.run_model.specs.declared.setup.SetupFault.{SetupFault}
use Rattle.run_model.specs.declared.setup.SetupFault.TheVariants.{Bad}
use Rattle.values.specs.declared.content.Content.{Content}
use Rattle.values.specs.Contents.{content_data}
use Rattle.values.proofs.Members.{object_from_members}
use Rattle.values.proofs.Contents.{content_from_data}
use Rattle.run_model.specs.Openings.{Setup}
use Rattle.run_model.specs.Texts.{AreObjectsOf, IsSetupOf, IsTextOf, contents_items, guardians_items, setup_data}
use Rattle.limits.specs.Limits.{max_guardians, max_objects}
use Rattle.run_model.specs.Documents.{guardian_data, setup_fault}

-- ---- the one member of an object

abbrev found : {X : Type 0} → X → Option X
found x = Some x

same_found : {X : Type 0} (x y : X) → found x ≡ found y → x ≡ y
same_found x y e = cc

-- an object of one member, in which something is found, is that member
one_member : (es : List Entry) (name : List ℕ) (v : Json) → length es ≡ 1 → Some (view v) ≡ get_member name (members_view es) → members_view es ≡ member name (view v) no_members
one_member [] name v one is = absurd (omega arith)
one_member (e ∷ f ∷ es) name v one is = absurd (omega arith)
one_member (e ∷ []) name v one is = by_test (bytes_eq name (string_bytes e.0)) refl
  where
    by_test : (b : Bool) → bytes_eq name (string_bytes e.0) ≡ b → member (string_bytes e.0) (view e.1) no_members ≡ member name (view v) no_members
    by_test true t =
        let same : name ≡ string_bytes e.0 = (bytes_eq-Decides name (string_bytes e.0)).0 t in
        let value : view v ≡ view e.1 = same_found (view v) (view e.1) (is ∙ member_here name e [] same) in
        ap (λ k. member k (view e.1) no_members) (sym same) ∙ ap (λ d. member name d no_members) (sym value)
    by_test false t =
        let later = member_later name e [] (λ same. let u = (bytes_eq-Decides name (string_bytes e.0)).1 same in absurd cc) in
        let none : found (view v) ≡ None = is ∙ later in
        absurd cc

pub only_member_is : (d : Data) (es : List Entry) (name : List ℕ) (v : Json) → Some (members_view es) ≡ as_object d → length es ≡ 1 → Some (view v) ≡ get_member name (members_view es) → d ≡ object (member name (view v) no_members)
only_member_is d es name v is one here = object_from_members d (members_view es) is ∙ ap object (one_member es name v one here)

pub none_found : (d : Data) (name : List ℕ) → None ≡ get name d → (items : Items) → d ≢ object (member name (array items) no_members)
none_found d name none items is =
    let h : None ≡ found (array items) = none ∙ ap (get name) is ∙ get_member-put name (array items) no_members in absurd cc

array_from_items : (d : Data) (items : Items) → Some items ≡ as_array d → d ≡ array items
array_from_items null items e = cc
array_from_items (boolean b) items e = cc
array_from_items (number n) items e = cc
array_from_items (string s) items e = cc
array_from_items (array ds) items e = cc
array_from_items (object ms) items e = cc

same_value : (name : List ℕ) (d e : Data) → object (member name d no_members) ≡ object (member name e no_members) → d ≡ e
same_value name d e h = cc

value_here : (d : Data) (es : List Entry) (name : List ℕ) (v : Json) → Some (members_view es) ≡ as_object d → length es ≡ 1 → Some (view v) ≡ get name d → d ≡ object (member name (view v) no_members)
value_here d es name v is one here = only_member_is d es name v is one (here ∙ ap (get name) (object_from_members d (members_view es) is))

pub no_array : (d : Data) (es : List Entry) (name : List ℕ) (v : Json) → Some (members_view es) ≡ as_object d → length es ≡ 1 → Some (view v) ≡ get name d → None ≡ as_array (view v)
    → (items : Items) → d ≢ object (member name (array items) no_members)
no_array d es name v is one here none items e =
    let value : view v ≡ array items = same_value name (view v) (array items) (sym (value_here d es name v is one here) ∙ e) in
    let h : None ≡ found items = none ∙ ap as_array value in
    absurd cc

pub an_array : (d : Data) (es : List Entry) (name : List ℕ) (v : Json) (vs slice : List Json) → Some (members_view es) ≡ as_object d → length es ≡ 1 → Some (view v) ≡ get name d
    → Some (items_view vs) ≡ as_array (view v) → slice ≡ vs → d ≡ object (member name (array (items_view slice)) no_members)
an_array d es name v vs slice is one here some same =
    value_here d es name v is one here ∙ ap (λ x. object (member name x no_members)) (array_from_items (view v) (items_view vs) some ∙ ap (λ l. array (items_view l)) (sym same))

-- ---- lists of documents

-- the documents of a list
abbrev pub items_data : {X : Type 0} → (X → Data) → List X → Items
items_data f [] = no_items
items_data f (x ∷ xs) = item (f x) (items_data f xs)

pub contents_are : (contents : List Content) → contents_items contents ≡ items_data content_data contents
contents_are [] = refl
contents_are (c ∷ contents) = ap (item (content_data c)) (contents_are contents)

pub guardians_are : (setup : Setup) → guardians_items setup ≡ items_data guardian_data setup
guardians_are [] = refl
guardians_are (contents ∷ setup) = ap (item (guardian_data contents)) (guardians_are setup)

same_items : {X : Type 0} (f : X → Data) (one : (x y : X) → f x ≡ f y → x ≡ y) (xs ys : List X) → items_data f xs ≡ items_data f ys → xs ≡ ys
same_items f one [] [] e = refl
same_items f one [] (y ∷ ys) e = absurd cc
same_items f one (x ∷ xs) [] e = absurd cc
same_items f one (x ∷ xs) (y ∷ ys) e =
    let first : f x ≡ f y = cc in
    let others : items_data f xs ≡ items_data f ys = cc in
    let p = one x y first in
    let q = same_items f one xs ys others in
    cc

items_length : {X : Type 0} (f : X → Data) (vs : List Json) (xs : List X) → items_view vs ≡ items_data f xs → length vs ≡ length xs
items_length f [] [] e = refl
items_length f [] (x ∷ xs) e = absurd cc
items_length f (v ∷ vs) [] e = absurd cc
items_length f (v ∷ vs) (x ∷ xs) e = let others : items_view vs ≡ items_data f xs = cc in ap suc (items_length f vs xs others)

-- each document of a list is one of its values
items_at : {X : Type 0} (f : X → Data) (P : X → Type 0) (vs : List Json) (xs : List X) (i : ℕ) (v : Json) → items_view vs ≡ items_data f xs → AllByRecursion P xs → i < length vs → v ≡ get_or vs i v → (x : X) × P x × (view v ≡ f x)
items_at f P [] xs i v e all lt is = absurd (omega arith)
items_at f P (w ∷ vs) [] i v e all lt is = absurd cc
items_at f P (w ∷ vs) (x ∷ xs) zero v e all lt is = let first : view w ≡ f x = cc in (x, all.0, ap view is ∙ first)
items_at f P (w ∷ vs) (x ∷ xs) (suc i) v e all lt is = let others : items_view vs ≡ items_data f xs = cc in items_at f P vs xs i v others all.1 (omega arith) is

items_push : {X : Type 0} (f : X → Data) (vs : List Json) (xs : List X) (v : Json) (x : X) → items_view vs ≡ items_data f xs → view v ≡ f x → items_view (vs ++ v ∷ []) ≡ items_data f (xs ++ x ∷ [])
items_push f [] [] v x e is = ap (λ d. item d no_items) is
items_push f [] (y ∷ xs) v x e is = absurd cc
items_push f (w ∷ vs) [] v x e is = absurd cc
items_push f (w ∷ vs) (y ∷ xs) v x e is =
    let first : view w ≡ f y = cc in
    let others : items_view vs ≡ items_data f xs = cc in
    ap (λ d. item d (items_view (vs ++ v ∷ []))) first ∙ ap (item (f y)) (items_push f vs xs v x others is)

all_push : {X : Type 0} (P : X → Type 0) (xs : List X) (x : X) → AllByRecursion P xs → P x → AllByRecursion P (xs ++ x ∷ [])
all_push P [] x all h = (h, tt)
all_push P (y ∷ xs) x all h = (all.0, all_push P xs x all.1 h)

-- what was read of the first items
pub record ReadsItems {X : Type 0} (f : X → Data) (P : X → Type 0) (vs : List Json) (xs : List X) : Type 0 where
  pub each : AllByRecursion P xs
  pub read : items_view vs ≡ items_data f xs

pub nothing_yet : {X : Type 0} (f : X → Data) (P : X → Type 0) (xs : List X) → xs ≡ [] → ReadsItems f P [] xs
nothing_yet f P xs e = subst (ReadsItems f P []) (sym e) (record { each = tt; read = refl })

pub one_more : {X : Type 0} (f : X → Data) (P : X → Type 0) (vs : List Json) (xs more : List X) (i : ℕ) (v : Json) (x : X) → ReadsItems f P (take i vs) xs → i < length vs → v ≡ get_or vs i v
    → P x × (view v ≡ f x) → more ≡ xs ++ x ∷ [] → ReadsItems f P (take (i + 1) vs) more
one_more f P vs xs more i v x so_far lt item_is h pushed =
    let front : take (i + 1) vs ≡ take i vs ++ v ∷ [] = take_more vs i v lt ∙ ap (λ w. take i vs ++ w ∷ []) (sym item_is) in
    record {
      each = subst (AllByRecursion P) (sym pushed) (all_push P xs x so_far.each h.0);
      read = ap items_view front ∙ items_push f (take i vs) xs v x so_far.read h.1 ∙ ap (items_data f) (sym pushed);
    }

-- ---- one guardian

abbrev objects_of : List Json → Data
objects_of vs = object (member (codes "objects") (array (items_view vs)) no_members)

same_objects : (vs : List Json) (contents : List Content) → objects_of vs ≡ guardian_data contents → items_view vs ≡ items_data content_data contents
same_objects vs contents e = let items : items_view vs ≡ contents_items contents = cc in items ∙ contents_are contents

pub objects_read : (P : Content → Type 0) (d : Data) (vs : List Json) (contents : List Content) → d ≡ objects_of vs → length vs ≤ max_objects → ReadsItems content_data P vs contents → AreObjectsOf P contents × (d ≡ guardian_data contents)
objects_read P d vs contents is few r =
    ((omega (arith, items_length content_data vs contents r.read), r.each), is ∙ ap (λ x. object (member (codes "objects") (array x) no_members)) (r.read ∙ sym (contents_are contents)))

pub too_many_objects : (P : Content → Type 0) (d : Data) (vs : List Json) → d ≡ objects_of vs → max_objects < length vs → (contents : List Content) → AreObjectsOf P contents → d ≢ guardian_data contents
too_many_objects P d vs is many contents fits e = omega (arith, items_length content_data vs contents (same_objects vs contents (sym is ∙ e)), fits.0)

pub object_refused : (P : Content → Type 0) (d : Data) (vs : List Json) (i : ℕ) (v : Json) → d ≡ objects_of vs → i < length vs → v ≡ get_or vs i v → ((c : Content) → P c → view v ≢ content_data c)
    → (contents : List Content) → AreObjectsOf P contents → d ≢ guardian_data contents
object_refused P d vs i v is lt at none contents fits e =
    let x = items_at content_data P vs contents i v (same_objects vs contents (sym is ∙ e)) fits.1 lt at in none x.0 x.1 x.2

value_fault : (fault : ValueFault) → setup_fault fault ≡ Bad → fault ≡ faults.Unfit
value_fault faults.Unfit e = refl
value_fault faults.Memory e = absurd cc

abbrev failed : {T E : Type 0} → E → Result T E
failed e = Err e

same_failed : {T E : Type 0} (a b : E) → failed {T = T} a ≡ failed b → a ≡ b
same_failed a b e = cc

-- the fault of a content is that of its guardian
pub content_fault : {T : Type 0} (fault : ValueFault) (r : Result T SetupFault) (e : SetupFault) → r ≡ Err e → e ≡ setup_fault fault → r ≡ Err Bad → failed {T = Content} fault ≡ Err faults.Unfit
content_fault {T} fault r e is made bad = ap failed (value_fault fault (sym made ∙ same_failed {T = T} e Bad (sym is ∙ bad)))

pub same_fault : {T S : Type 0} (fault : SetupFault) (r : Result T SetupFault) (e : SetupFault) → r ≡ Err e → e ≡ fault → r ≡ Err Bad → failed {T = S} fault ≡ Err Bad
same_fault {T} {S} fault r e is made bad = ap failed (sym made ∙ same_failed {T = T} e Bad (sym is ∙ bad))

-- ---- all guardians

abbrev guardians_of : List Json → Data
guardians_of vs = object (member (codes "guardians") (array (items_view vs)) no_members)

same_guardians : (vs : List Json) (setup : Setup) → guardians_of vs ≡ setup_data setup → items_view vs ≡ items_data guardian_data setup
same_guardians vs setup e = let items : items_view vs ≡ guardians_items setup = cc in items ∙ guardians_are setup

pub guardians_read : (P : Content → Type 0) (d : Data) (vs : List Json) (setup : Setup) → d ≡ guardians_of vs → 1 ≤ length vs → length vs ≤ max_guardians → ReadsItems guardian_data (AreObjectsOf P) vs setup → IsSetupOf P setup × (d ≡ setup_data setup)
guardians_read P d vs setup is some few r =
    let n = items_length guardian_data vs setup r.read in
    (record { not_empty = omega arith; within_limit = omega arith; each = r.each }, is ∙ ap (λ x. object (member (codes "guardians") (array x) no_members)) (r.read ∙ sym (guardians_are setup)))

pub wrong_count : (P : Content → Type 0) (d : Data) (vs : List Json) → d ≡ guardians_of vs → (1 ≤ length vs → length vs ≤ max_guardians → ⊥) → (setup : Setup) → IsSetupOf P setup → d ≢ setup_data setup
wrong_count P d vs is wrong setup fits e =
    let n = items_length guardian_data vs setup (same_guardians vs setup (sym is ∙ e)) in wrong (omega (arith, fits.not_empty)) (omega (arith, fits.within_limit))

pub guardian_refused : (P : Content → Type 0) (d : Data) (vs : List Json) (i : ℕ) (v : Json) → d ≡ guardians_of vs → i < length vs → v ≡ get_or vs i v → ((contents : List Content) → AreObjectsOf P contents → view v ≢ guardian_data contents)
    → (setup : Setup) → IsSetupOf P setup → d ≢ setup_data setup
guardian_refused P d vs i v is lt at none setup fits e =
    let x = items_at guardian_data (AreObjectsOf P) vs setup i v (same_guardians vs setup (sym is ∙ e)) fits.each lt at in none x.0 x.1 x.2

-- ---- a text is one setup at most

same_contents : (a b : List Content) → guardian_data a ≡ guardian_data b → a ≡ b
same_contents a b e =
    let items : contents_items a ≡ contents_items b = cc in same_items content_data content_from_data a b (sym (contents_are a) ∙ items ∙ contents_are b)

same_setup : (s t : Setup) → setup_data s ≡ setup_data t → s ≡ t
same_setup s t e =
    let items : guardians_items s ≡ guardians_items t = cc in same_items guardian_data same_contents s t (sym (guardians_are s) ∙ items ∙ guardians_are t)

pub one_setup : (P : Content → Type 0) (bytes : List ℕ) (s t : Setup) → IsTextOf P bytes s → IsTextOf P bytes t → s ≡ t
one_setup P bytes s t f g = same_setup s t (same_found (setup_data s) (setup_data t) (sym f.document ∙ g.document))
