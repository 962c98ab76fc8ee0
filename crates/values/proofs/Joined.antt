-- Items in chunks: how many there are, and the one at an index.
use Rattle.std.proofs.Common.{◌≡◌, ℕ, zero, suc, ◌+◌, ◌*◌, ◌-◌, ◌<◌, ◌≤◌, ℤ, List, [], ◌∷◌, ◌++◌, length, get_or, take, drop, true, false, Bor, Option, Some, None, Ok, Err, refl, sym, ap, ◌∙◌, subst, arith, append_assoc, length-append, length-drop}
use Rattle.std.proofs.lemmas.List.{append-nil, take_all, take_more, take_rest, take-append-drop, length-take-le, get_or-drop, take-take}
use Rattle.std.specs.List.{AllByRecursion}
use Rattle.std.specs.Prelude.{◌-ℤ◌, ◌≤ℤ◌, ◌<ℤ◌, int_le, unsigned_abs, slice_get, slice_set, option_copied, Result, OnErr, if◌then◌else◌}
use Rattle.std.specs.Slice.{IsItemAt}
use Rattle.std.proofs.lemmas.Int.{ints}
use Rattle.std.proofs.lemmas.Option.{slice_get_past, slice_get_read}
use Rattle.values.specs.declared.value.Value.{Value}
use Rattle.values.specs.Values.{IsValue, value_data}
use Rattle.json.specs.Token.{Token, begin_array, end_array}
use Rattle.json.specs.Tree.{json_tokens, items_tokens}
use Rattle.serde_json.specs.Written.{outline, items_outline}
use Rattle.values.specs.Items.{item_elements}
use Rattle.values.specs.Chunks.{Values, chunk_size, joined, chunked, IsFull, AreFull, item_stored, items_stored, values_tokens}
use Rattle.values.proofs.Items.{each-set}

nothing_before : (i : ℕ) → 0 + i ≡ i
nothing_before i = omega arith

one_past : (n i : ℕ) → suc n + i ≡ suc (n + i)
one_past n i = omega arith

get_left : {X : Type 0} (xs ys : List X) (i : ℕ) → i < length xs → slice_get (xs ++ ys) i ≡ slice_get xs i
get_left [] ys i lt = absurd (omega arith)
get_left (x ∷ xs) ys zero lt = refl
get_left (x ∷ xs) ys (suc i) lt = get_left xs ys i (omega arith)

get_right : {X : Type 0} (xs ys : List X) (i : ℕ) → slice_get (xs ++ ys) (length xs + i) ≡ slice_get ys i
get_right [] ys i = ap (λ j. slice_get ys j) (nothing_before i)
get_right (x ∷ xs) ys i = ap (λ j. slice_get (x ∷ (xs ++ ys)) j) (one_past (length xs) i) ∙ get_right xs ys i

set_left : {X : Type 0} (xs ys : List X) (i : ℕ) (x : X) → i < length xs → slice_set (xs ++ ys) i x ≡ slice_set xs i x ++ ys
set_left [] ys i v lt = absurd (omega arith)
set_left (x ∷ xs) ys zero v lt = refl
set_left (x ∷ xs) ys (suc i) v lt = ap (λ zs. x ∷ zs) (set_left xs ys i v (omega arith))

set_right : {X : Type 0} (xs ys : List X) (i : ℕ) (x : X) → slice_set (xs ++ ys) (length xs + i) x ≡ xs ++ slice_set ys i x
set_right [] ys i v = ap (λ j. slice_set ys j v) (nothing_before i)
set_right (x ∷ xs) ys i v = ap (λ j. slice_set (x ∷ (xs ++ ys)) j v) (one_past (length xs) i) ∙ ap (λ zs. x ∷ zs) (set_right xs ys i v)

pub many_set : {X : Type 0} (xs : List X) (i : ℕ) (x : X) → length (slice_set xs i x) ≡ length xs
many_set [] i v = refl
many_set (x ∷ xs) zero v = refl
many_set (x ∷ xs) (suc i) v = ap suc (many_set xs i v)

pub joined-append : (cs ds : List Values) → joined (cs ++ ds) ≡ joined cs ++ joined ds
joined-append [] ds = refl
joined-append (c ∷ cs) ds = ap (λ xs. c ++ xs) (joined-append cs ds) ∙ sym (append_assoc c (joined cs) (joined ds))

pub many_joined : (cs : List Values) → AreFull cs → length (joined cs) ≡ length cs * chunk_size
many_joined [] h = refl
many_joined (c ∷ cs) h = length-append c (joined cs) ∙ omega (arith, h.0.full, many_joined cs h.1)

-- ---- the item at an index

pub get_chunk : (cs : List Values) (ys : Values) (q r : ℕ) (c : Values) → AreFull cs → slice_get cs q ≡ Some c → r < chunk_size
    → slice_get (joined cs ++ ys) (q * chunk_size + r) ≡ slice_get c r
get_chunk [] ys q r c h e lt = absurd cc
get_chunk (d ∷ cs) ys zero r c h e lt =
    let same : d ≡ c = cc in
    let at : 0 * chunk_size + r ≡ r = omega arith in
    ap (λ j. slice_get ((d ++ joined cs) ++ ys) j) at ∙ ap (λ xs. slice_get xs r) (append_assoc d (joined cs) ys) ∙ get_left d (joined cs ++ ys) r (omega (arith, h.0.full)) ∙ ap (λ xs. slice_get xs r) same
get_chunk (d ∷ cs) ys (suc q) r c h e lt =
    let at : suc q * chunk_size + r ≡ length d + (q * chunk_size + r) = omega (arith, h.0.full) in
    ap (λ xs. slice_get xs (suc q * chunk_size + r)) (append_assoc d (joined cs) ys) ∙ ap (λ i. slice_get (d ++ (joined cs ++ ys)) i) at
    ∙ get_right d (joined cs ++ ys) (q * chunk_size + r) ∙ get_chunk cs ys q r c h.1 e lt

pub get_behind : (cs : List Values) (ys : Values) (i : ℕ) → AreFull cs → length cs * chunk_size ≤ i
    → slice_get (joined cs ++ ys) i ≡ slice_get ys (i - length cs * chunk_size)
get_behind cs ys i h le =
    let at : i ≡ length (joined cs) + (i - length cs * chunk_size) = omega (arith, many_joined cs h) in
    ap (λ j. slice_get (joined cs ++ ys) j) at ∙ get_right (joined cs) ys (i - length cs * chunk_size)

pub get_in_front : (xs ys : Values) (i : ℕ) → i < length xs → slice_get (xs ++ ys) i ≡ slice_get xs i
get_in_front = get_left

pub get_past_front : (xs ys : Values) (i : ℕ) → length xs ≤ i → slice_get (xs ++ ys) i ≡ slice_get ys (i - length xs)
get_past_front xs ys i le =
    let at : i ≡ length xs + (i - length xs) = omega arith in
    ap (λ j. slice_get (xs ++ ys) j) at ∙ get_right xs ys (i - length xs)

-- ---- another item at an index

pub set_chunk : (cs : List Values) (ys : Values) (q r : ℕ) (c : Values) (v : Value) → AreFull cs → slice_get cs q ≡ Some c → r < chunk_size
    → joined (slice_set cs q (slice_set c r v)) ++ ys ≡ slice_set (joined cs ++ ys) (q * chunk_size + r) v
set_chunk [] ys q r c v h e lt = absurd cc
set_chunk (d ∷ cs) ys zero r c v h e lt =
    let same : d ≡ c = cc in
    let at : r ≡ 0 * chunk_size + r = omega arith in
    append_assoc (slice_set c r v) (joined cs) ys ∙ ap (λ xs. slice_set xs r v ++ (joined cs ++ ys)) (sym same)
    ∙ sym (set_left d (joined cs ++ ys) r v (omega (arith, h.0.full))) ∙ ap (λ xs. slice_set xs r v) (sym (append_assoc d (joined cs) ys))
    ∙ ap (λ j. slice_set ((d ++ joined cs) ++ ys) j v) at
set_chunk (d ∷ cs) ys (suc q) r c v h e lt =
    let at : length d + (q * chunk_size + r) ≡ suc q * chunk_size + r = omega (arith, h.0.full) in
    append_assoc d (joined (slice_set cs q (slice_set c r v))) ys ∙ ap (λ xs. d ++ xs) (set_chunk cs ys q r c v h.1 e lt)
    ∙ sym (set_right d (joined cs ++ ys) (q * chunk_size + r) v) ∙ ap (λ i. slice_set (d ++ (joined cs ++ ys)) i v) at
    ∙ ap (λ xs. slice_set xs (suc q * chunk_size + r) v) (sym (append_assoc d (joined cs) ys))

pub set_behind : (cs : List Values) (ys : Values) (i : ℕ) (v : Value) → AreFull cs → length cs * chunk_size ≤ i
    → joined cs ++ slice_set ys (i - length cs * chunk_size) v ≡ slice_set (joined cs ++ ys) i v
set_behind cs ys i v h le =
    let at : length (joined cs) + (i - length cs * chunk_size) ≡ i = omega (arith, many_joined cs h) in
    sym (set_right (joined cs) ys (i - length cs * chunk_size) v) ∙ ap (λ j. slice_set (joined cs ++ ys) j v) at

pub set_in_front : (xs ys : Values) (i : ℕ) (v : Value) → i < length xs → slice_set xs i v ++ ys ≡ slice_set (xs ++ ys) i v
set_in_front xs ys i v lt = sym (set_left xs ys i v lt)

pub set_past_front : (xs ys : Values) (i : ℕ) (v : Value) → length xs ≤ i → xs ++ slice_set ys (i - length xs) v ≡ slice_set (xs ++ ys) i v
set_past_front xs ys i v le =
    let at : length xs + (i - length xs) ≡ i = omega arith in
    sym (set_right xs ys (i - length xs) v) ∙ ap (λ j. slice_set (xs ++ ys) j v) at

pub full_set : (cs : List Values) (q r : ℕ) (c : Values) (v : Value) → AreFull cs → slice_get cs q ≡ Some c → IsValue v → AreFull (slice_set cs q (slice_set c r v))
full_set [] q r c v h e is = tt
full_set (d ∷ cs) zero r c v h e is =
    let same : d ≡ c = cc in
    (record { full = many_set c r v ∙ ap (λ xs. length xs) (sym same) ∙ h.0.full; each = each-set IsValue c r v (subst (AllByRecursion IsValue) same h.0.each) is }, h.1)
full_set (d ∷ cs) (suc q) r c v h e is = (h.0, full_set cs q r c v h.1 e is)

-- ---- chunks at the ends

pub full_push : (cs : List Values) (c : Values) → AreFull cs → IsFull c → AreFull (cs ++ c ∷ [])
full_push [] c h is = (is, tt)
full_push (d ∷ cs) c h is = (h.0, full_push cs c h.1 is)

pub joined_push : (cs : List Values) (c ys : Values) → joined (cs ++ c ∷ []) ++ ys ≡ joined cs ++ (c ++ ys)
joined_push [] c ys = append_assoc c [] ys
joined_push (d ∷ cs) c ys = append_assoc d (joined (cs ++ c ∷ [])) ys ∙ ap (λ xs. d ++ xs) (joined_push cs c ys) ∙ sym (append_assoc d (joined cs) (c ++ ys))

pub full_before : (cs ds : List Values) → AreFull (cs ++ ds) → AreFull cs
full_before [] ds h = tt
full_before (c ∷ cs) ds h = (h.0, full_before cs ds h.1)

each-append : (xs ys : Values) → AllByRecursion IsValue xs → AllByRecursion IsValue ys → AllByRecursion IsValue (xs ++ ys)
each-append [] ys a b = b
each-append (x ∷ xs) ys a b = (a.0, each-append xs ys a.1 b)

pub each_joined : (cs : List Values) → AreFull cs → AllByRecursion IsValue (joined cs)
each_joined [] h = tt
each_joined (c ∷ cs) h = each-append c (joined cs) h.0.each (each_joined cs h.1)

pub each_chunked : (f : Values) (m : List Values) (b : Values) → AllByRecursion IsValue f → AreFull m → AllByRecursion IsValue b → AllByRecursion IsValue (chunked f m b)
each_chunked f m b front full back = each-append f (joined m ++ b) front (each-append (joined m) b (each_joined m full) back)

-- what is lent of a list
pub copied_item : (xs : Values) (i : ℕ) (r : Option (Bor Value)) → IsItemAt xs i r → option_copied r ≡ slice_get xs i
copied_item xs i None h = sym (slice_get_past xs i h.3)
copied_item xs i (Some x) h = sym (slice_get_read xs (length xs) i x.now refl h.3.0 h.1)

-- ---- all of them

pub many_chunked : (f : Values) (m : List Values) (b : Values) → AreFull m → length (chunked f m b) ≡ length f + (length m * chunk_size + length b)
many_chunked f m b h = length-append f (joined m ++ b) ∙ ap (λ n. length f + n) (length-append (joined m) b ∙ ap (λ n. n + length b) (many_joined m h))

pub get_middle : (f : Values) (m : List Values) (b : Values) (i k q r : ℕ) (c : Values) → AreFull m → k ≡ length f → k ≤ i → q * chunk_size + r ≡ i - k
    → slice_get m q ≡ Some c → r < chunk_size → slice_get (chunked f m b) i ≡ slice_get c r
get_middle f m b i k q r c full many le at e lt =
    get_past_front f (joined m ++ b) i (omega (arith, many, le)) ∙ ap (λ n. slice_get (joined m ++ b) (i - n)) (sym many)
    ∙ ap (λ j. slice_get (joined m ++ b) j) (sym at) ∙ get_chunk m b q r c full e lt

pub get_rest : (f : Values) (m : List Values) (b : Values) (i k n : ℕ) → AreFull m → k ≡ length f → k ≤ i → n ≡ length m → n * chunk_size ≤ i - k
    → slice_get (chunked f m b) i ≡ slice_get b ((i - k) - n * chunk_size)
get_rest f m b i k n full many le chunks past =
    get_past_front f (joined m ++ b) i (omega (arith, many, le)) ∙ ap (λ n. slice_get (joined m ++ b) (i - n)) (sym many)
    ∙ get_behind m b (i - k) full (subst (λ j. j * chunk_size ≤ i - k) chunks past) ∙ ap (λ j. slice_get b ((i - k) - j * chunk_size)) (sym chunks)

-- ---- the ends

pub first_popped : (f : Values) (m : List Values) (b front : Values) (middle : List Values) (x : Value) (rest all : Values) → front ++ joined middle ≡ f ++ joined m
    → front ≡ x ∷ rest → chunked f m b ≡ all → (chunked rest middle b ≡ drop 1 all) × (Some x ≡ slice_get all 0)
first_popped f m b front middle x rest all same first e =
    let whole : x ∷ chunked rest middle b ≡ all =
    sym (append_assoc (x ∷ rest) (joined middle) b) ∙ ap (λ xs. (xs ++ joined middle) ++ b) (sym first) ∙ ap (λ xs. xs ++ b) same
    ∙ append_assoc f (joined m) b ∙ e in
    (ap (drop 1) whole, ap (λ xs. slice_get xs 0) whole)

pub refilled_behind : (m middle : List Values) (b c back : Values) (n : ℕ) → n ≡ length m → 0 < n → c ≡ get_or m (n - 1) c → middle ≡ take (n - 1) m → b ≡ [] → back ≡ c
    → joined middle ++ back ≡ joined m ++ b
refilled_behind m middle b c back n many some last rest none copied =
    let split : m ≡ middle ++ c ∷ [] =
    sym (take_all n m (omega (arith, many))) ∙ ap (λ k. take k m) (omega (arith, some)) ∙ take_more m (n - 1) c (omega (arith, many, some))
    ∙ ap (λ x. take (n - 1) m ++ x ∷ []) (sym last) ∙ ap (λ cs. cs ++ c ∷ []) (sym rest) in
    ap (λ xs. joined middle ++ xs) (copied ∙ sym (append-nil c)) ∙ sym (joined_push middle c []) ∙ ap (λ cs. joined cs ++ []) (sym split) ∙ ap (λ xs. joined m ++ xs) (sym none)

pub one_more_of : {X : Type 0} (xs : List X) (p k n : ℕ) (x : X) → n ≡ length xs → p + k < n → x ≡ get_or xs (p + k) x
    → take (k + 1) (drop p xs) ≡ take k (drop p xs) ++ x ∷ []
one_more_of xs p k n x many lt is =
    take_more (drop p xs) k x (omega (arith, length-drop p xs, many, lt)) ∙ ap (λ y. take k (drop p xs) ++ y ∷ []) (get_or-drop p xs k x ∙ sym is)

pub kept_of_popped : (k : ℕ) (xs ys : Values) → ys ≡ take (length xs - 1) xs → k < length xs → take k ys ≡ take k xs
kept_of_popped k xs ys e lt = ap (take k) e ∙ take-take k (length xs - 1) xs (omega (arith, lt))

-- ---- items that are put

pub last_stored : (low : ℤ) (xs : Values) (es : List (ℤ × Value)) (i : ℤ) (v : Value) → items_stored low xs (es ++ (i, v) ∷ []) ≡ items_stored low (item_stored low xs i v) es
last_stored low xs [] i v = refl
last_stored low xs (e ∷ es) i v = ap (λ ys. item_stored low ys e.0 e.1) (last_stored low xs es i v)

pub put_step : (low : ℤ) (xs ys : Values) (ps es : List (ℤ × Value)) (i : ℤ) (v : Value) → ps ≡ es ++ (i, v) ∷ [] → ys ≡ item_stored low xs i v
    → items_stored low ys es ≡ items_stored low xs ps
put_step low xs ys ps es i v popped put =
    ap (λ zs. items_stored low zs es) put ∙ sym (last_stored low xs es i v) ∙ ap (items_stored low xs) (sym popped)

pub put_within : (l low i j k : ℤ) (xs ys : Values) (n : ℕ) (v : Value) → l ≡ low → j ≡ i → k ≡ low → low ≤ℤ i → n ≡ unsigned_abs (j -ℤ k) → ys ≡ slice_set xs n v
    → ys ≡ item_stored l xs i v
put_within l low i j k xs ys n v same index base le count put =
    let test : int_le low i ≡ true = grind (arith, ints) in
    put ∙ ap (λ m. slice_set xs m v) (count ∙ ap (λ z. unsigned_abs (z -ℤ k)) index ∙ ap (λ z. unsigned_abs (i -ℤ z)) base)
    ∙ sym (ap (λ b. if b then slice_set xs (unsigned_abs (i -ℤ low)) v else xs) test) ∙ ap (λ z. item_stored z xs i v) (sym same)

pub put_outside : (l low i : ℤ) (xs : Values) (v : Value) → l ≡ low → i <ℤ low → xs ≡ item_stored l xs i v
put_outside l low i xs v same lt =
    let test : int_le low i ≡ false = grind (arith, ints) in
    sym (ap (λ b. if b then slice_set xs (unsigned_abs (i -ℤ low)) v else xs) test) ∙ ap (λ z. item_stored z xs i v) (sym same)

pub if_refused : {T E P : Type 0} (r : Result T E) → P → OnErr r P
if_refused (Ok x) p = tt
if_refused (Err e) p = p

-- ---- their tokens

tokens_before : (xs ys : Values) → values_tokens xs ++ items_tokens (items_outline (item_elements ys)) ≡ items_tokens (items_outline (item_elements (xs ++ ys)))
tokens_before [] ys = refl
tokens_before (x ∷ xs) ys = append_assoc (json_tokens (outline (value_data x))) _ _ ∙ ap (λ ts. json_tokens (outline (value_data x)) ++ ts) (tokens_before xs ys)

pub tokens-append : (xs ys : Values) → values_tokens (xs ++ ys) ≡ values_tokens xs ++ values_tokens ys
tokens-append [] ys = refl
tokens-append (x ∷ xs) ys = ap (λ ts. json_tokens (outline (value_data x)) ++ ts) (tokens-append xs ys) ∙ sym (append_assoc (json_tokens (outline (value_data x))) _ _)

-- an array's tokens, as they are written
pub tokens_of_array : (f m b : Values) (out opened front middle back closed : List Token) → opened ≡ out ++ begin_array ∷ [] → front ≡ opened ++ values_tokens f
    → middle ≡ front ++ values_tokens m → back ≡ middle ++ values_tokens b → closed ≡ back ++ end_array ∷ []
    → closed ≡ out ++ begin_array ∷ items_tokens (items_outline (item_elements (f ++ (m ++ b))))
tokens_of_array f m b out opened front middle back closed o fs ms bs c =
    let last : values_tokens b ++ end_array ∷ [] ≡ items_tokens (items_outline (item_elements b)) = tokens_before b [] ∙ ap (λ xs. items_tokens (items_outline (item_elements xs))) (append-nil b) in
    c ∙ ap (λ ts. ts ++ end_array ∷ []) (bs ∙ ap (λ ts. ts ++ values_tokens b) (ms ∙ ap (λ ts. ts ++ values_tokens m) (fs ∙ ap (λ ts. ts ++ values_tokens f) o)))
    ∙ append_assoc (((out ++ begin_array ∷ []) ++ values_tokens f) ++ values_tokens m) (values_tokens b) (end_array ∷ [])
    ∙ ap (λ ts. (((out ++ begin_array ∷ []) ++ values_tokens f) ++ values_tokens m) ++ ts) last
    ∙ append_assoc ((out ++ begin_array ∷ []) ++ values_tokens f) (values_tokens m) _ ∙ ap (λ ts. ((out ++ begin_array ∷ []) ++ values_tokens f) ++ ts) (tokens_before m b)
    ∙ append_assoc (out ++ begin_array ∷ []) (values_tokens f) _ ∙ ap (λ ts. (out ++ begin_array ∷ []) ++ ts) (tokens_before f (m ++ b))
    ∙ append_assoc out (begin_array ∷ []) _

-- ---- other forms of the same items

pub few_are : (f : Values) (m : List Values) (b : Values) → f ≡ [] → m ≡ [] → chunked f m b ≡ b
few_are f m b front middle = ap (λ xs. xs ++ (joined m ++ b)) front ∙ ap (λ cs. joined cs ++ b) middle

pub same_before : (f : Values) (m : List Values) (front : Values) (middle : List Values) (b : Values) → front ++ joined middle ≡ f ++ joined m
    → chunked front middle b ≡ chunked f m b
same_before f m front middle b same = sym (append_assoc front (joined middle) b) ∙ ap (λ xs. xs ++ b) same ∙ append_assoc f (joined m) b

pub cut_behind : (m : List Values) (b c : Values) (middle : List Values) (back : Values) (n : ℕ) → n ≡ length b → chunk_size ≤ n → c ≡ take chunk_size (drop 0 b) → middle ≡ m ++ c ∷ []
    → back ≡ take (n - chunk_size) (drop chunk_size b) → joined middle ++ back ≡ joined m ++ b
cut_behind m b c middle back n many long first pushed rest =
    ap (λ cs. joined cs ++ back) pushed ∙ joined_push m c back ∙ ap (λ xs. joined m ++ (c ++ xs)) (rest ∙ ap (λ k. take (k - chunk_size) (drop chunk_size b)) many ∙ take_rest b chunk_size)
    ∙ ap (λ xs. joined m ++ (xs ++ drop chunk_size b)) first ∙ ap (λ xs. joined m ++ xs) (take-append-drop chunk_size b)

pub cut_before : (f : Values) (m : List Values) (c front : Values) (middle : List Values) (n kept : ℕ) → n ≡ length f → chunk_size ≤ n → kept ≡ n - chunk_size → c ≡ take chunk_size (drop kept f)
    → middle ≡ c ∷ m → front ≡ take kept f → front ++ joined middle ≡ f ++ joined m
cut_before f m c front middle n kept many long k last pushed rest =
    let all : c ≡ drop kept f = last ∙ take_all chunk_size (drop kept f) (omega (arith, length-drop kept f, many, k, long)) in
    ap (λ xs. xs ++ joined middle) rest ∙ ap (λ cs. take kept f ++ joined cs) pushed ∙ sym (append_assoc (take kept f) c (joined m))
    ∙ ap (λ xs. (take kept f ++ xs) ++ joined m) all ∙ ap (λ xs. xs ++ joined m) (take-append-drop kept f)

-- a copied part of the items is a full chunk
pub is_full : (c xs : Values) → c ≡ xs → length xs ≡ chunk_size → AllByRecursion IsValue xs → IsFull c
is_full c xs e many each = record { full = ap (λ ys. length ys) e ∙ many; each = subst (AllByRecursion IsValue) (sym e) each }

pub many_in_part : (xs : Values) (p : ℕ) → p + chunk_size ≤ length xs → length (take chunk_size (drop p xs)) ≡ chunk_size
many_in_part xs p le = length-take-le chunk_size (drop p xs) (omega (arith, length-drop p xs, le))

pub part_behind : (m : List Values) (c left first rest whole : Values) (middle : List Values) → middle ≡ m ++ c ∷ [] → c ≡ first → first ≡ take chunk_size left → rest ≡ drop chunk_size left
    → joined m ++ left ≡ whole → joined middle ++ rest ≡ whole
part_behind m c left first rest whole middle pushed copied front back same =
    ap (λ cs. joined cs ++ rest) pushed ∙ joined_push m c rest ∙ ap (λ xs. joined m ++ (xs ++ rest)) (copied ∙ front) ∙ ap (λ xs. joined m ++ (take chunk_size left ++ xs)) back
    ∙ ap (λ xs. joined m ++ xs) (take-append-drop chunk_size left) ∙ same
