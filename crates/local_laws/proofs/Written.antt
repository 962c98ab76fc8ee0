-- What operations leave of a content, and what an action holds by them, goes by its writes and adds alone.
use Rattle.std.proofs.Common.{Bool, List, None, Option, Some, [], ap, ap₂, cond, false, filter, filter_map, is_none, map, not, refl, sym, true, ℤ, ◌&&◌, ◌++◌, ◌∙◌, ◌∷◌, ◌≡◌, ◌||◌}
use Rattle.std.specs.Prelude.{pos, ◌+ℤ◌}
use Rattle.std.specs.Int.{int_wrap, w64}
use Rattle.std.proofs.Math.IntN.{+ℤ_assoc, +ℤ_idl}
use Rattle.std.proofs.lemmas.Int.{int_wrap-add_left, int_wrap-add_right}
use Rattle.std.proofs.lemmas.Bool.{and_right, false≢true, or_parts}
use Rattle.std.proofs.lemmas.List.Elements.{filter_agree}
use Rattle.std.proofs.lemmas.Map.Views.{any-filter_same}
use Rattle.std.specs.List.{cons_option, list_any}
use Rattle.action_names.specs.Names.{Name, has_name, is_top, same_name}
use Rattle.values.specs.declared.content.Content.{Content}
use Rattle.values.specs.declared.content.Content.TheVariants.{Array, Counter, Record, Variant}
use Rattle.values.specs.declared.value.Value.TheVariants.{Int, Text}
use Rattle.atomic_types.specs.declared.op.Class.{Class}
use Rattle.atomic_types.specs.declared.op.Class.TheVariants.{Read, Write}
use Rattle.atomic_types.specs.declared.op.Class.TheVariants as class
use Rattle.atomic_types.specs.Operations as op
use Rattle.atomic_types.specs.declared.operation.Operation.TheVariants.{Add, Put}
use Rattle.atomic_types.specs.declared.part.Part.{Part}
use Rattle.atomic_types.specs.declared.part.Part.TheVariants.{Delta, Value}
use Rattle.atomic_types.specs.Counters.{sum_of}
use Rattle.atomic_types.specs.Objects.{content_after, knows}
use Rattle.atomic_types.specs.Operations.{class_of, is_add, is_add_class, is_read, is_read_class, is_write, is_write_class}
use Rattle.atomic_types.specs.Parts.{laid_where}
use Rattle.atomic_types.specs.TypeLaws.{known_stay, reads_leave}
use Rattle.run_model.specs.Actions.{is_exactly}
use Rattle.run_model.specs.Keeping.{Performed, Standing}
use Rattle.run_model.specs.Replay.{left_of}
use Rattle.run_model.specs.StableContent.{installed_over}
use Rattle.run_model.specs.Telling.{holder_by}
use Rattle.run_model.specs.Versions.{adders_by, is_held_above, is_held_by, owners_by, part_held, sum_on, version_by, with_add}
use Rattle.run_laws.proofs.Apart.{Clear, others_last}
use Rattle.run_laws.proofs.Each.{Each, each_filter, each_map}
use Rattle.run_laws.proofs.Names.{clash}
use Rattle.run_laws.proofs.Sorted.{EachPair}
use Rattle.local_laws.specs.Orderly.{AreOrderly}
use Rattle.local_laws.proofs.Outcomes.{has_filter, has_rising}
use Rattle.local_laws.proofs.Prepared.{above_top}
use Rattle.local_laws.proofs.Clear.{clear_deeds}
use Rattle.local_laws.proofs.Ruled.{of_kept}

-- ---- reads

-- without reads
abbrev pub writing : List Performed → List Performed
writing os = filter (λ o. not (is_read o.operation)) os

pub left_writing : (c : Content) (os : List Performed) → left_of c (writing os) ≡ left_of c os
left_writing c [] = refl
left_writing c (o ∷ os) = of (is_read o.operation) refl (left_writing c os)
  where
    of : (t : Bool) → is_read o.operation ≡ t → left_of c (writing os) ≡ left_of c os
        → left_of c (cond (not t) (o ∷ writing os) (writing os)) ≡ content_after (left_of c os) o.operation
    of true e ih = ih ∙ sym (reads_leave (left_of c os) o.operation e)
    of false e ih = ap (λ d. content_after d o.operation) ih

-- what is held by these operations, of which v is the version
abbrev pub held_of : Content → List Performed → Option Part
held_of v os =
    cond (list_any (λ o. is_write o.operation) os) (Some (Value v))
    (cond (list_any (λ o. is_add o.operation) os) (Some (Delta (sum_on (pos 0) (λ b. true) os))) None)

write_is_no_read : (c : Class) → is_write_class c ≡ true → not (is_read_class c) ≡ true
write_is_no_read Write h = refl
write_is_no_read Read h = absurd (false≢true h)
write_is_no_read class.Add h = refl

add_is_no_read : (c : Class) → is_add_class c ≡ true → not (is_read_class c) ≡ true
add_is_no_read class.Add h = refl
add_is_no_read Read h = absurd (false≢true h)
add_is_no_read Write h = refl

read_adds_nothing : (n : ℤ) (o : op.Op) → is_read o ≡ true → with_add n o ≡ n
read_adds_nothing n (Add v) h = absurd (false≢true h)
read_adds_nothing n _ h = refl

any_writes : (os : List Performed) → list_any (λ o. is_write o.operation) (writing os) ≡ list_any (λ o. is_write o.operation) os
any_writes os = any-filter_same (λ o. is_write o.operation) (λ o. not (is_read o.operation)) true (λ o h. write_is_no_read (class_of o.operation) h) os

any_adds : (os : List Performed) → list_any (λ o. is_add o.operation) (writing os) ≡ list_any (λ o. is_add o.operation) os
any_adds os = any-filter_same (λ o. is_add o.operation) (λ o. not (is_read o.operation)) true (λ o h. add_is_no_read (class_of o.operation) h) os

sum_writing : (n : ℤ) (os : List Performed) → sum_on n (λ b. true) (writing os) ≡ sum_on n (λ b. true) os
sum_writing n [] = refl
sum_writing n (o ∷ os) = of (is_read o.operation) refl (sum_writing n os)
  where
    of : (t : Bool) → is_read o.operation ≡ t → sum_on n (λ b. true) (writing os) ≡ sum_on n (λ b. true) os
        → sum_on n (λ b. true) (cond (not t) (o ∷ writing os) (writing os)) ≡ with_add (sum_on n (λ b. true) os) o.operation
    of true e ih = ih ∙ sym (read_adds_nothing (sum_on n (λ b. true) os) o.operation e)
    of false e ih = ap (λ m. with_add m o.operation) ih

held_writing : (v : Content) (os : List Performed) → held_of v (writing os) ≡ held_of v os
held_writing v os =
    ap₂ (λ w a. cond w (Some (Value v)) (cond a (Some (Delta (sum_on (pos 0) (λ b. true) (writing os)))) None)) (any_writes os) (any_adds os)
    ∙ ap (λ n. cond (list_any (λ o. is_write o.operation) os) (Some (Value v)) (cond (list_any (λ o. is_add o.operation) os) (Some (Delta n)) None)) (sum_writing (pos 0) os)

-- the same writes and adds hold the same, where the versions are the same if a write is among them
pub same_held : (v w : Content) (os ps : List Performed) → writing os ≡ writing ps → (list_any (λ o. is_write o.operation) ps ≡ true → v ≡ w)
    → held_of v os ≡ held_of w ps
same_held v w os ps e h = sym (held_writing v os) ∙ ap (λ qs. held_of v qs) e ∙ held_writing v ps ∙ of (list_any (λ o. is_write o.operation) ps) refl
  where
    rest : Option Part
    rest = cond (list_any (λ o. is_add o.operation) ps) (Some (Delta (sum_on (pos 0) (λ b. true) ps))) None

    of : (t : Bool) → list_any (λ o. is_write o.operation) ps ≡ t → cond t (Some (Value v)) rest ≡ cond t (Some (Value w)) rest
    of true q = ap (λ c. Some (Value c)) (h q)
    of false q = refl

-- ---- what an action holds

-- how an object stands on which nothing was given back
abbrev pub standing : (Name → Bool) → List Performed → Standing
standing told os = record { told = told; kept = os; restored = [] }

-- what t holds
abbrev pub held_by : (Name → Bool) → Name → List Performed → List Performed
held_by told t os = filter (λ o. is_exactly (holder_by told o.action) t) os

named_own : (k : Class → Bool) (told : Name → Bool) (t : Name) (os : List Performed)
    → has_name (filter_map (λ o. cond (k (class_of o.operation)) (holder_by told o.action) None) os) t
    ≡ list_any (λ o. k (class_of o.operation)) (held_by told t os)
named_own k told t [] = refl
named_own k told t (o ∷ os) = of (k (class_of o.operation)) refl (holder_by told o.action) (named_own k told t os)
  where
    names : List Name
    names = filter_map (λ p. cond (k (class_of p.operation)) (holder_by told p.action) None) os

    any : List Performed → Bool
    any ps = list_any (λ p. k (class_of p.operation)) ps

    of : (u : Bool) → k (class_of o.operation) ≡ u → (h : Option Name) → has_name names t ≡ any (held_by told t os)
        → has_name (cons_option (cond u h None) names) t ≡ any (cond (is_exactly h t) (o ∷ held_by told t os) (held_by told t os))
    of true e None ih = ih
    of false e None ih = ih
    of true e (Some d) ih = mine (same_name d t)
      where
        mine : (s : Bool) → (s || has_name names t) ≡ any (cond s (o ∷ held_by told t os) (held_by told t os))
        mine true = sym (ap (λ x. x || any (held_by told t os)) e)
        mine false = ih
    of false e (Some d) ih = mine (same_name d t)
      where
        mine : (s : Bool) → has_name names t ≡ any (cond s (o ∷ held_by told t os) (held_by told t os))
        mine true = ih ∙ sym (ap (λ x. x || any (held_by told t os)) e)
        mine false = ih

sum_own : (passes : Name → Bool) (os : List Performed) → sum_on (pos 0) passes os ≡ sum_on (pos 0) (λ b. true) (filter (λ o. passes o.action) os)
sum_own passes [] = refl
sum_own passes (o ∷ os) = of (passes o.action) (sum_own passes os)
  where
    of : (t : Bool) → sum_on (pos 0) passes os ≡ sum_on (pos 0) (λ b. true) (filter (λ o. passes o.action) os)
        → cond t (with_add (sum_on (pos 0) passes os) o.operation) (sum_on (pos 0) passes os)
        ≡ sum_on (pos 0) (λ b. true) (cond t (o ∷ filter (λ o. passes o.action) os) (filter (λ o. passes o.action) os))
    of true ih = ap (λ n. with_add n o.operation) ih
    of false ih = ih

pub part_is_held : (c : Content) (told : Name → Bool) (os : List Performed) (t : Name)
    → part_held c (standing told os) t ≡ held_of (version_by c (standing told os) t) (held_by told t os)
part_is_held c told os t =
    ap₂ (λ w n. cond w (Some (Value (version_by c s t))) (cond (has_name (adders_by s) t) (Some (Delta n)) None)) owns (sum_own (is_held_by s t) os)
    ∙ ap (λ a. cond writes (Some (Value (version_by c s t))) (cond a (Some (Delta sum)) None))
    (has_rising _ t ∙ has_filter (λ a. not (has_name (owners_by s) a)) _ t ∙ ap₂ (λ a w. a && not w) (named_own is_add_class told t os) owns)
    ∙ of writes adds
  where
    s : Standing
    s = standing told os

    writes : Bool
    writes = list_any (λ o. is_write o.operation) (held_by told t os)

    adds : Bool
    adds = list_any (λ o. is_add o.operation) (held_by told t os)

    sum : ℤ
    sum = sum_on (pos 0) (λ b. true) (held_by told t os)

    owns : has_name (owners_by s) t ≡ writes
    owns = has_rising _ t ∙ named_own is_write_class told t os

    of : (w a : Bool)
        → cond w (Some (Value (version_by c s t))) (cond (a && not w) (Some (Delta sum)) None)
        ≡ cond w (Some (Value (version_by c s t))) (cond a (Some (Delta sum)) None)
    of true a = refl
    of false true = refl
    of false false = refl

-- ---- adds together are one delta

-- sums regroup
sums_regroup : (n y z : ℤ) → sum_of (sum_of n y) z ≡ sum_of n (sum_of y z)
sums_regroup n y z = int_wrap-add_left w64 (n +ℤ y) z ∙ ap (λ t. int_wrap w64 t) (+ℤ_assoc n y z) ∙ sym (int_wrap-add_right w64 n (y +ℤ z))

sum_from_none : (n z : ℤ) → sum_of n z ≡ sum_of n (sum_of (pos 0) z)
sum_from_none n z = sym (int_wrap-add_right w64 n (pos 0 +ℤ z) ∙ ap (λ t. int_wrap w64 (n +ℤ t)) (+ℤ_idl z))

abbrev Knows : Content → Performed → Type 0
Knows c o = knows c o.operation ≡ true

-- a counter after one operation more, where those before added so much, if some did
counts_one : (n : ℤ) (c : Content) (some : Bool) (sum : ℤ) (w : op.Op) → is_write w ≡ false → knows (Counter n) w ≡ true
    → (some ≡ false → sum ≡ pos 0) → c ≡ Counter (cond some (sum_of n sum) n)
    → content_after c w ≡ Counter (cond (is_add w || some) (sum_of n (with_add sum w)) n)
counts_one n c some sum (Put v) h k z e = absurd (false≢true (sym h))
counts_one n c true sum (Add (Int y)) h k z e = ap (λ d. content_after d (Add (Int y))) e ∙ ap (λ m. Counter m) (sums_regroup n sum y)
counts_one n c false sum (Add (Int y)) h k z e =
    ap (λ d. content_after d (Add (Int y))) e ∙ ap (λ m. Counter m) (sum_from_none n y ∙ ap (λ m. sum_of n (sum_of m y)) (sym (z refl)))
counts_one n c some sum (Add (Text bytes)) h k z e = absurd (false≢true k)
counts_one n c some sum w h k z e = ap (λ d. content_after d w) e

adds_nothing : (n : ℤ) (o : op.Op) → is_add o ≡ false → with_add n o ≡ n
adds_nothing n (Add v) h = absurd (false≢true (sym h))
adds_nothing n _ h = refl

none_added : (os : List Performed) → list_any (λ o. is_add o.operation) os ≡ false → sum_on (pos 0) (λ b. true) os ≡ pos 0
none_added [] h = refl
none_added (o ∷ os) h = let q = or_parts _ _ h in adds_nothing (sum_on (pos 0) (λ b. true) os) o.operation q.0 ∙ none_added os q.1

counted : (n : ℤ) (os : List Performed) → list_any (λ o. is_write o.operation) os ≡ false → Each (Knows (Counter n)) os
    → left_of (Counter n) os ≡ Counter (cond (list_any (λ o. is_add o.operation) os) (sum_of n (sum_on (pos 0) (λ b. true) os)) n)
counted n [] h k = refl
counted n (o ∷ os) h k =
    let q = or_parts _ _ h in
    counts_one n (left_of (Counter n) os) (list_any (λ p. is_add p.operation) os) (sum_on (pos 0) (λ b. true) os) o.operation q.0 k.0
    (none_added os) (counted n os q.1 k.1)

-- what neither writes nor adds reads
neither : (w : op.Op) → is_write w ≡ false → is_add w ≡ false → is_read w ≡ true
neither w h k = of (class_of w) refl
  where
    of : (c : Class) → class_of w ≡ c → is_read w ≡ true
    of Read e = ap is_read_class e
    of class.Add e = absurd (clash (ap is_add_class e) k)
    of Write e = absurd (clash (ap is_write_class e) h)

-- what is no counter they leave
abbrev IsNoCounter : Content → Type 0
IsNoCounter (Counter n) = ⊥
IsNoCounter _ = Unit {0}

leaves_one : (c : Content) (w : op.Op) → IsNoCounter c → is_write w ≡ false → content_after c w ≡ c
leaves_one (Counter n) w p h = absurd p
leaves_one (Record fields) (Add v) p h = refl
leaves_one (Array a) (Add v) p h = refl
leaves_one (Variant x) (Add v) p h = refl
leaves_one c w p h = reads_leave c w (neither w h refl)

left_alone : (c : Content) (os : List Performed) → IsNoCounter c → list_any (λ o. is_write o.operation) os ≡ false → left_of c os ≡ c
left_alone c [] p h = refl
left_alone c (o ∷ os) p h =
    let q = or_parts _ _ h in
    ap (λ d. content_after d o.operation) (left_alone c os p q.1) ∙ leaves_one c o.operation p q.0

-- the delta of what adds, if anything does
abbrev delta_of : List Performed → Option Part
delta_of os = cond (list_any (λ o. is_add o.operation) os) (Some (Delta (sum_on (pos 0) (λ b. true) os))) None

adds_laid : (c : Content) (os : List Performed) → list_any (λ o. is_write o.operation) os ≡ false → Each (Knows c) os
    → left_of c os ≡ laid_where (delta_of os) c
adds_laid (Counter n) os h k = counted n os h k ∙ of (list_any (λ o. is_add o.operation) os) (sum_on (pos 0) (λ b. true) os)
  where
    of : (a : Bool) (z : ℤ) → Counter (cond a (sum_of n z) n) ≡ laid_where (cond a (Some (Delta z)) None) (Counter n)
    of true z = refl
    of false z = refl
adds_laid (Record fields) os h k = left_alone (Record fields) os tt h ∙ of (list_any (λ o. is_add o.operation) os)
  where
    of : (a : Bool) → Record fields ≡ laid_where (cond a (Some (Delta (sum_on (pos 0) (λ b. true) os))) None) (Record fields)
    of true = refl
    of false = refl
adds_laid (Array a) os h k = left_alone (Array a) os tt h ∙ of (list_any (λ o. is_add o.operation) os)
  where
    of : (b : Bool) → Array a ≡ laid_where (cond b (Some (Delta (sum_on (pos 0) (λ b. true) os))) None) (Array a)
    of true = refl
    of false = refl
adds_laid (Variant x) os h k = left_alone (Variant x) os tt h ∙ of (list_any (λ o. is_add o.operation) os)
  where
    of : (a : Bool) → Variant x ≡ laid_where (cond a (Some (Delta (sum_on (pos 0) (λ b. true) os))) None) (Variant x)
    of true = refl
    of false = refl

-- what is installed is laid on what was installed
pub laid_over : (p old : Option Part) (c : Content) → laid_where (installed_over p old) c ≡ laid_where p (laid_where old c)
laid_over None old c = refl
laid_over (Some (Value v)) old c = refl
laid_over (Some (Delta z)) None c = refl
laid_over (Some (Delta z)) (Some (Value v)) c = refl
laid_over (Some (Delta z)) (Some (Delta y)) (Counter n) = ap (λ m. Counter m) (sym (sums_regroup n y z))
laid_over (Some (Delta z)) (Some (Delta y)) (Record fields) = refl
laid_over (Some (Delta z)) (Some (Delta y)) (Array a) = refl
laid_over (Some (Delta z)) (Some (Delta y)) (Variant x) = refl

-- ---- what an action holds, laid on the base

abbrev pub in_base : (Name → Bool) → Performed → Bool
in_base told o = is_none (holder_by told o.action)

abbrev pub is_held : (Name → Bool) → Name → Performed → Bool
is_held told t o = is_exactly (holder_by told o.action) t

-- what belongs to the base or is a top action's is its version
pub version_is : (c : Content) (told : Name → Bool) (os : List Performed) (t : Name) → is_top t ≡ true
    → version_by c (standing told os) t ≡ left_of c (filter (λ o. in_base told o || is_held told t o) os)
version_is c told os t k = ap (λ ps. left_of c ps) (filter_agree _ _ (λ o. of (holder_by told o.action)) os)
  where
    of : (h : Option Name) → is_held_above h t ≡ (is_none h || is_exactly h t)
    of None = refl
    of (Some d) = above_top d t k

above_none : (h : Option Name) → is_held_above h [] ≡ is_none h
above_none None = refl
above_none (Some []) = refl
above_none (Some (n ∷ a)) = refl

weaker_pairs : (P Q : Performed → Performed → Type 0) → ((o p : Performed) → P o p → Q o p) → (os : List Performed) → EachPair P os → EachPair Q os
weaker_pairs P Q f [] h = tt
weaker_pairs P Q f (o ∷ os) h = (each_map (P o) (Q o) os (f o) h.0, weaker_pairs P Q f os h.1)

-- the operations of the base stay known
left_known : (c : Content) (os : List Performed) (o : Performed) → Each (Knows c) os → Knows c o → Knows (left_of c os) o
left_known c [] o h k = k
left_known c (p ∷ os) o h k =
    known_stay (left_of c os) p.operation o.operation (left_known c os p h.1 h.0) ∙ left_known c os o h.1 k

-- So where Moss's rule is kept, what a top action holds, laid on the base, is its version.
pub held_laid : (c : Content) (told : Name → Bool) (os : List Performed) (t : Name) → is_top t ≡ true → AreOrderly told (map of_kept os ++ [])
    → Each (Knows c) os
    → version_by c (standing told os) t ≡ laid_where (part_held c (standing told os) t) (left_of c (filter (in_base told) os))
held_laid c told os t k orderly known =
    sym (of (list_any (λ o. is_write o.operation) (held_by told t os)) refl) ∙ sym (ap (λ p. laid_where p base) (part_is_held c told os t))
  where
    base : Content
    base = left_of c (filter (in_base told) os)

    version : Content
    version = version_by c (standing told os) t

    parted : version ≡ left_of base (held_by told t os)
    parted =
        version_is c told os t k ∙ others_last c mine (in_base told) os pairs
        ∙ ap₂ (λ ps qs. left_of (left_of c ps) qs) (filter_agree _ _ (λ o. first (holder_by told o.action)) os) (filter_agree _ _ (λ o. second (holder_by told o.action)) os)
      where
        mine : Performed → Bool
        mine o = in_base told o || is_held told t o

        pairs : EachPair (Clear mine (in_base told)) os
        pairs =
            weaker_pairs _ _
            (λ o p h ko so kp q. sym (above_none (holder_by told p.action)) ∙ h refl (above_none (holder_by told o.action) ∙ so) refl q)
            os (clear_deeds told [] os [] orderly)

        first : (h : Option Name) → ((is_none h || is_exactly h t) && is_none h) ≡ is_none h
        first None = refl
        first (Some d) = and_right (same_name d t) false refl

        second : (h : Option Name) → ((is_none h || is_exactly h t) && not (is_none h)) ≡ is_exactly h t
        second None = refl
        second (Some d) = whole (same_name d t)
          where
            whole : (u : Bool) → (u && true) ≡ u
            whole true = refl
            whole false = refl

    each_known : Each (Knows base) (held_by told t os)
    each_known =
        let based = each_filter (Knows c) (in_base told) os (each_map (Knows c) _ os (λ o q u. q) known) in
        each_filter (Knows base) (is_held told t) os (each_map (Knows c) _ os (λ o q u. left_known c (filter (in_base told) os) o based q) known)

    of : (w : Bool) → list_any (λ o. is_write o.operation) (held_by told t os) ≡ w
        → laid_where (held_of version (held_by told t os)) base ≡ version
    of true e = ap (λ w. laid_where (cond w (Some (Value version)) (delta_of (held_by told t os))) base) e
    of false e =
        ap (λ w. laid_where (cond w (Some (Value version)) (delta_of (held_by told t os))) base) e
        ∙ sym (adds_laid base (held_by told t os) e each_known) ∙ sym parted
