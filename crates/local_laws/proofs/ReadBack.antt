-- What a guardian that was opened again by itself reads of its records, and that its objects keep Moss's rule.
use Rattle.std.proofs.Common.{Bool, List, None, Option, Some, [], ap, ap₂, arith, cond, eqb-true, false, filter, filter_map, inl, inr, length, map, not, option_map, refl, subst, suc, sym, true, zero, ℕ, ◌&&◌, ◌++◌, ◌==◌, ◌∙◌, ◌∷◌, ◌≡◌, ◌≤◌, ◌||◌}
use Rattle.std.specs.Int.{int_wrap, w64}
use Rattle.std.proofs.lemmas.Int.{int_wrap_fits}
use Rattle.std.proofs.Math.IntN.{+ℤ_idl}
use Rattle.std.proofs.lemmas.Bool.{cases_eq, eq-eqb, ne_eqb, false≢true, or_left, or_parts, or_right}
use Rattle.std.specs.List.{AllByRecursion, cons_option, list_any}
use Rattle.std.proofs.lemmas.List.Elements.{All-contains, All-from_recursion, filter-append}
use Rattle.action_names.specs.Names.{Name, has_name, is_ancestor, same_name}
use Rattle.values.specs.declared.content.Content.{Content}
use Rattle.atomic_types.specs.declared.op.Class.{Class}
use Rattle.atomic_types.specs.Operations.{classes_conflict, is_add_class, is_write_class}
use Rattle.atomic_types.specs.declared.part.Part.{Part}
use Rattle.atomic_types.specs.declared.part.Part.TheVariants.{Delta, Value}
use Rattle.run_model.specs.declared.step.ObjectId.{ObjectId}
use Rattle.run_model.specs.declared.step.Step.TheVariants.{Prepare}
use Rattle.run_model.specs.Actions.{is_exactly}
use Rattle.run_model.specs.Keeping.{Standing, part_class}
use Rattle.run_model.specs.LocalReadings.{LocalEvent, given_back, prepared_here, standing_here}
use Rattle.run_model.specs.Lists.{up_to}
use Rattle.run_model.specs.Openings.{Held, Opening, Setup, first_content, objects_at, part_at}
use Rattle.run_model.specs.Reopening.{life_before, opened_alone}
use Rattle.run_model.specs.StableContent.{Prepared, parts_by}
use Rattle.run_model.specs.Telling.{holder_by, or_else}
use Rattle.run_model.specs.Versions.{adders_by, delta_by, is_held_above, is_held_by, owners_by, part_held, sum_back, under, version_by, with_part}
use Rattle.run_laws.proofs.Names.{clash, descendant_is_own, eqb_self, front_alone, has_name_append, same_name_self, same_name_true}
use Rattle.run_laws.proofs.Seen.{last_cons}
use Rattle.local_laws.specs.Orderly.{AreOrderly, IsUnder}
use Rattle.local_laws.specs.Reopened.{AreApart, AreRecords, AreRising, IsDelta, IsPart, MayStand, RecordsReadBack, ReopenedIsOrderly, ValuesAlone, is_prepared, parts_of}
use Rattle.local_laws.proofs.Numbered.{part_behind, part_here, read_again}
use Rattle.local_laws.proofs.Outcomes.{has_filter, has_rising}
use Rattle.local_laws.proofs.Reopened.{committed_before, crashed, life_before_is, none_kept, restored_before, votes}
use Rattle.local_laws.proofs.Ruled.{of_kept, of_restored}

-- ---- one object, on which nothing is kept and of which nothing was told

abbrev untold : Name → Bool
untold b = false

-- with nothing told each holds its own
holds_own : (b : Name) → 1 ≤ length b → holder_by untold b ≡ Some b
holds_own [] h = absurd (omega arith)
holds_own (n ∷ []) h = refl
holds_own (n ∷ m ∷ b) h =
    last_cons (λ c. true) n (m ∷ b) ∙ ap (λ o. or_else (option_map (λ c. n ∷ c) o) (Some (n ∷ []))) (holds_own (m ∷ b) (omega arith))

-- how an object stands on which just these parts were given back
abbrev given : List (Name × Part) → Standing
given rs = record { told = untold; kept = []; restored = rs }

abbrev AreNamed : List (Name × Part) → Type 0
AreNamed rs = AllByRecursion (λ r. 1 ≤ length r.0) rs

-- those of t
abbrev own : Name → List (Name × Part) → List (Name × Part)
own t rs = filter (λ r. same_name r.0 t) rs

-- t is among the holders of a class just where a part of its own is of the class
holders_own : (k : Class → Bool) (t : Name) (rs : List (Name × Part)) → AreNamed rs
    → has_name (filter_map (λ r. cond (k (part_class r.1)) (holder_by untold r.0) None) rs) t ≡ list_any (λ r. k (part_class r.1)) (own t rs)
holders_own k t [] h = refl
holders_own k t (r ∷ rs) h = of (k (part_class r.1)) refl (same_name r.0 t) refl (holders_own k t rs h.1)
  where
    names : List Name
    names = filter_map (λ q. cond (k (part_class q.1)) (holder_by untold q.0) None) rs

    of : (u : Bool) → k (part_class r.1) ≡ u → (s : Bool) → same_name r.0 t ≡ s → has_name names t ≡ list_any (λ q. k (part_class q.1)) (own t rs)
        → has_name (cons_option (cond u (holder_by untold r.0) None) names) t ≡ list_any (λ q. k (part_class q.1)) (cond s (r ∷ own t rs) (own t rs))
    of true e true q ih =
        ap (λ o. has_name (cons_option o names) t) (holds_own r.0 h.0) ∙ ap (λ x. x || has_name names t) q
        ∙ sym (ap (λ x. x || list_any (λ q. k (part_class q.1)) (own t rs)) e)
    of true e false q ih =
        ap (λ o. has_name (cons_option o names) t) (holds_own r.0 h.0) ∙ ap (λ x. x || has_name names t) q ∙ ih
    of false e true q ih = ih ∙ sym (ap (λ x. x || list_any (λ q. k (part_class q.1)) (own t rs)) e)
    of false e false q ih = ih

owns : (t : Name) (rs : List (Name × Part)) → AreNamed rs → has_name (owners_by (given rs)) t ≡ list_any (λ r. is_write_class (part_class r.1)) (own t rs)
owns t rs h =
    has_rising _ t ∙ has_name_append _ [] t ∙ ap (λ x. x || false) (holders_own is_write_class t rs h) ∙ or_false (list_any (λ r. is_write_class (part_class r.1)) (own t rs))
  where
    or_false : (x : Bool) → (x || false) ≡ x
    or_false true = refl
    or_false false = refl

adds : (t : Name) (rs : List (Name × Part)) → AreNamed rs
    → has_name (adders_by (given rs)) t ≡ (list_any (λ r. is_add_class (part_class r.1)) (own t rs) && not (has_name (owners_by (given rs)) t))
adds t rs h =
    has_rising _ t ∙ has_filter (λ a. not (has_name (owners_by (given rs)) a)) _ t
    ∙ ap (λ x. x && not (has_name (owners_by (given rs)) t))
    (has_name_append _ [] t ∙ ap (λ x. x || false) (holders_own is_add_class t rs h) ∙ or_false (list_any (λ r. is_add_class (part_class r.1)) (own t rs)))
  where
    or_false : (x : Bool) → (x || false) ≡ x
    or_false true = refl
    or_false false = refl

-- its sum is that of its own
sum_own : (t : Name) (rs : List (Name × Part)) → AreNamed rs → sum_back (is_held_by (given rs) t) rs ≡ sum_back (λ b. true) (own t rs)
sum_own t [] h = refl
sum_own t (r ∷ rs) h =
    ap (λ o. cond (is_exactly o t) (with_part (sum_back (is_held_by (given rs) t) rs) r.1) (sum_back (is_held_by (given rs) t) rs)) (holds_own r.0 h.0)
    ∙ of (same_name r.0 t) (sum_own t rs h.1)
  where
    of : (s : Bool) → sum_back (is_held_by (given rs) t) rs ≡ sum_back (λ b. true) (own t rs)
        → cond s (with_part (sum_back (is_held_by (given rs) t) rs) r.1) (sum_back (is_held_by (given rs) t) rs)
        ≡ sum_back (λ b. true) (cond s (r ∷ own t rs) (own t rs))
    of true ih = ap (λ n. with_part n r.1) ih
    of false ih = ih

-- What was given back last, where nothing before was t's, is what t holds: a value covers what was there before.
holds_last : (c : Content) (t : Name) (p : Part) (rs : List (Name × Part)) → 1 ≤ length t → AreNamed rs → IsPart p → own t rs ≡ []
    → part_held c (given ((t, p) ∷ rs)) t ≡ Some p
holds_last c t (Value v) rs l h i e =
    ap (λ x. cond x (Some (Value (version_by c (given all) t))) (cond (has_name (adders_by (given all)) t) (Some (Delta (delta_by (given all) t))) None))
    (owns t all (l, h) ∙ ap (λ x. list_any (λ r. is_write_class (part_class r.1)) (cond x ((t, Value v) ∷ own t rs) (own t rs))) (same_name_self t))
    ∙ ap (λ o. Some (Value (cond (is_held_above o t) v (under c (λ b. is_held_above (holder_by untold b) t) rs)))) (holds_own t l)
    ∙ ap (λ x. Some (Value (cond x v (under c (λ b. is_held_above (holder_by untold b) t) rs)))) (is_own t l)
  where
    all : List (Name × Part)
    all = (t, Value v) ∷ rs

    is_own : (t : Name) → 1 ≤ length t → is_ancestor t t ≡ true
    is_own [] l = absurd (omega arith)
    is_own (n ∷ t) l = descendant_is_own (n ∷ []) (n ∷ t) (front_alone n t)
holds_last c t (Delta z) rs l h i e =
    ap₂ (λ x y. cond x (Some (Value (version_by c (given all) t))) (cond y (Some (Delta (delta_by (given all) t))) None)) no_owner
    (adds t all (l, h) ∙ ap₂ (λ ps x. list_any (λ r. is_add_class (part_class r.1)) ps && not x) is_own no_owner)
    ∙ ap (λ n. Some (Delta n)) (sum_own t all (l, h) ∙ ap (λ ps. sum_back (λ b. true) ps) is_own ∙ ap (λ n. int_wrap w64 n) (+ℤ_idl z) ∙ int_wrap_fits w64 z i)
  where
    all : List (Name × Part)
    all = (t, Delta z) ∷ rs

    is_own : own t all ≡ (t, Delta z) ∷ []
    is_own = ap₂ (λ x ps. cond x ((t, Delta z) ∷ ps) ps) (same_name_self t) e

    no_owner : has_name (owners_by (given all)) t ≡ false
    no_owner = owns t all (l, h) ∙ ap (λ ps. list_any (λ r. is_write_class (part_class r.1)) ps) is_own

holds_none : (c : Content) (t : Name) (rs : List (Name × Part)) → AreNamed rs → own t rs ≡ [] → part_held c (given rs) t ≡ None
holds_none c t rs h e =
    ap₂ (λ x y. cond x (Some (Value (version_by c (given rs) t))) (cond y (Some (Delta (delta_by (given rs) t))) None)) no_owner
    (adds t rs h ∙ ap₂ (λ ps x. list_any (λ r. is_add_class (part_class r.1)) ps && not x) e no_owner)
  where
    no_owner : has_name (owners_by (given rs)) t ≡ false
    no_owner = owns t rs h ∙ ap (λ ps. list_any (λ r. is_write_class (part_class r.1)) ps) e

-- ---- the records of a guardian

abbrev at : ℕ → ℕ → ObjectId
at g n = record { guardian = g; number = n }

-- a part, if there is one, as t's
abbrev one : Name → Option Part → List (Name × Part)
one t None = []
one t (Some p) = (t, p) ∷ []

-- of parts that rise, one at most is of an object
filter_low : (m n : ℕ) (parts : List (ℕ × Part)) → AreRising m parts → n ≤ m → filter (λ v. v.0 == n) parts ≡ []
filter_low m n [] h l = refl
filter_low m n (p ∷ parts) h l =
    let less = h.0 in
    ap (λ t. cond t (p ∷ filter (λ v. v.0 == n) parts) (filter (λ v. v.0 == n) parts)) (ne_eqb p.0 n (λ e. omega arith))
    ∙ filter_low p.0 n parts h.1 (omega arith)

single : (t : Name) (m n : ℕ) (parts : List (ℕ × Part)) → AreRising m parts
    → map (λ v. (t, v.1)) (filter (λ v. v.0 == n) parts) ≡ one t (part_at parts n)
single t m n [] h = refl
single t m n (p ∷ parts) h = elim (cases_eq p.0 n) [
  | inl e ↦
      ap (λ x. map (λ (v : ℕ × Part). (t, v.1)) (cond x (p ∷ filter (λ v. v.0 == n) parts) (filter (λ v. v.0 == n) parts))) (eq-eqb p.0 n e)
      ∙ ap (λ vs. (t, p.1) ∷ map (λ (v : ℕ × Part). (t, v.1)) vs) (filter_low p.0 n parts h.1 (omega arith))
      ∙ sym (ap (λ o. one t o) (part_here p parts n e))
  | inr e ↦
      ap (λ x. map (λ (v : ℕ × Part). (t, v.1)) (cond x (p ∷ filter (λ v. v.0 == n) parts) (filter (λ v. v.0 == n) parts))) (ne_eqb p.0 n e)
      ∙ single t p.0 n parts h.1 ∙ sym (ap (λ o. one t o) (part_behind p parts n e))
]

-- what the store gives back of one record on an object
backs : (g n : ℕ) (t : Name) (parts : List (ℕ × Part)) → given_back (Prepare g t) parts (at g n) ≡ map (λ v. (t, v.1)) (filter (λ v. v.0 == n) parts)
backs g n t parts = ap (λ x. cond x (map (λ (v : ℕ × Part). (t, v.1)) (filter (λ v. v.0 == n) parts)) []) (eqb_self g)

own_mapped : (t u : Name) (s : Bool) → same_name u t ≡ s → (vs : List (ℕ × Part)) → own t (map (λ v. (u, v.1)) vs) ≡ cond s (map (λ v. (u, v.1)) vs) []
own_mapped t u true e [] = refl
own_mapped t u false e [] = refl
own_mapped t u true e (v ∷ vs) =
    ap₂ (λ x rs. cond x ((u, v.1) ∷ rs) rs) e (own_mapped t u true e vs)
own_mapped t u false e (v ∷ vs) =
    ap₂ (λ x rs. cond x ((u, v.1) ∷ rs) rs) e (own_mapped t u false e vs)

-- a record is of t, or has nothing of t
own_front : (g n : ℕ) (t : Name) (p : Name × Prepared) (s : Bool) → same_name p.0 t ≡ s
    → own t (given_back (Prepare g p.0) p.1.parts (at g n)) ≡ cond s (map (λ v. (p.0, v.1)) (filter (λ v. v.0 == n) p.1.parts)) []
own_front g n t p s e = ap (λ rs. own t rs) (backs g n p.0 p.1.parts) ∙ own_mapped t p.0 s e (filter (λ v. v.0 == n) p.1.parts)

own_behind : (g n : ℕ) (t : Name) (records : List (Name × Prepared)) → is_prepared records t ≡ false → own t (parts_of g records (at g n)) ≡ []
own_behind g n t [] h = refl
own_behind g n t (p ∷ records) h =
    let q = or_parts _ _ h in
    filter-append (λ r. same_name r.0 t) _ _ ∙ ap₂ ◌++◌ (own_front g n t p false q.0) (own_behind g n t records q.1)

part_is : (P : Part → Type 0) (parts : List (ℕ × Part)) (n : ℕ) (q : Part) → AllByRecursion (λ p. P p.1) parts → part_at parts n ≡ Some q → P q
part_is P [] n q h e = absurd cc
part_is P (p ∷ parts) n q h e = elim (cases_eq p.0 n) [
  | inl k ↦ let f : Some p.1 ≡ Some q = sym (part_here p parts n k) ∙ e in let is : p.1 ≡ q = cc in subst P is h.0
  | inr k ↦ part_is P parts n q h.1 (sym (part_behind p parts n k) ∙ e)
]

all_append : {X : Type 0} (P : X → Type 0) (xs ys : List X) → AllByRecursion P xs → AllByRecursion P ys → AllByRecursion P (xs ++ ys)
all_append P [] ys h k = k
all_append P (x ∷ xs) ys h k = (h.0, all_append P xs ys h.1 k)

named_parts : (g n : ℕ) (records : List (Name × Prepared)) → AllByRecursion (λ p. 1 ≤ length p.0) records → AreNamed (parts_of g records (at g n))
named_parts g n [] h = tt
named_parts g n (p ∷ records) h =
    all_append _ (given_back (Prepare g p.0) p.1.parts (at g n)) (parts_of g records (at g n))
    (subst AreNamed (sym (backs g n p.0 p.1.parts)) (all_of (filter (λ v. v.0 == n) p.1.parts))) (named_parts g n records h.1)
  where
    all_of : (vs : List (ℕ × Part)) → AreNamed (map (λ v. (p.0, v.1)) vs)
    all_of [] = tt
    all_of (v ∷ vs) = (h.0, all_of vs)

-- what the first record's action holds of each object is what the record has of it
first_holds : (setup : Setup) (g n : ℕ) (c : Content) (p : Name × Prepared) (records : List (Name × Prepared)) → AreRecords setup g (p ∷ records)
    → part_held c (given (parts_of g (p ∷ records) (at g n))) p.0 ≡ part_at p.1.parts n
first_holds setup g n c p records r =
    ap (λ rs. part_held c (given (rs ++ before)) p.0) (backs g n p.0 p.1.parts ∙ single p.0 0 n p.1.parts r.each.0.rising) ∙ of (part_at p.1.parts n) refl
  where
    before : List (Name × Part)
    before = parts_of g records (at g n)

    of : (o : Option Part) → part_at p.1.parts n ≡ o → part_held c (given (one p.0 o ++ before)) p.0 ≡ o
    of None e = holds_none c p.0 before (named_parts g n records r.named.1) (own_behind g n p.0 records r.apart.0)
    of (Some q) e =
        holds_last c p.0 q before r.named.0 (named_parts g n records r.named.1) (part_is IsPart p.1.parts n q r.each.0.parts e) (own_behind g n p.0 records r.apart.0)

standing_before : (g : ℕ) (records : List (Name × Prepared)) (x : ObjectId) → standing_here (votes g records) x ≡ given (parts_of g records x)
standing_before g records x =
    λ i. record { told = λ b. committed_before g 0 records b i; kept = none_kept g 0 records x i; restored = restored_before g 0 records x i }

parts_read : (setup : Setup) (g : ℕ) (held : Held) (p : Name × Prepared) (records : List (Name × Prepared)) → AreRecords setup g (p ∷ records)
    → parts_by (opened_alone setup g held) g (λ x. standing_here (votes g (p ∷ records)) x) p.0 ≡ p.1.parts
parts_read setup g held p records r =
    let c = λ (n : ℕ). first_content (opened_alone setup g held) (at g n) in
    let holds = λ (n : ℕ). ap (λ s. part_held (c n) s p.0) (standing_before g (p ∷ records) (at g n)) ∙ first_holds setup g n (c n) p records r in
    let all : filter_map (λ n. option_map (λ q. (n, q)) (part_held (c n) (standing_here (votes g (p ∷ records)) (at g n)) p.0)) (up_to (length (objects_at setup g)))
    ≡ filter_map (λ n. option_map (λ q. (n, q)) (part_at p.1.parts n)) (up_to (length (objects_at setup g)))
    = λ i. filter_map (λ n. option_map (λ q. (n, q)) (holds n i)) (up_to (length (objects_at setup g))) in
    all ∙ read_again (length (objects_at setup g)) p.1.parts r.each.0.rising r.each.0.within

-- fewer records
fewer_records : (setup : Setup) (g : ℕ) (p : Name × Prepared) (records : List (Name × Prepared)) → AreRecords setup g (p ∷ records) → AreRecords setup g records
fewer_records setup g p records r = record {
  named = r.named.1;
  apart = r.apart.1;
  each = r.each.1;
}

-- the record of t
abbrev among : List (Name × Prepared) → Name → Option Prepared
among [] t = None
among (p ∷ records) t = cond (same_name p.0 t) (Some p.1) (among records t)

read_votes : (setup : Setup) (g : ℕ) (held : Held) (records : List (Name × Prepared)) (t : Name) → AreRecords setup g records
    → prepared_here (opened_alone setup g held) g t (votes g records) ≡ among records t
read_votes setup g held [] t r = refl
read_votes setup g held (p ∷ records) t r =
    ap (λ x. cond (x && same_name p.0 t) read (prepared_here o g t (votes g records))) (eqb_self g)
    ∙ of (same_name p.0 t) refl (read_votes setup g held records t (fewer_records setup g p records r))
  where
    o : Opening
    o = opened_alone setup g held

    read : Option Prepared
    read = Some (record { home = p.1.home; parts = parts_by o g (λ x. standing_here (votes g (p ∷ records)) x) t })

    of : (s : Bool) → same_name p.0 t ≡ s → prepared_here o g t (votes g records) ≡ among records t
        → cond s read (prepared_here o g t (votes g records)) ≡ cond s (Some p.1) (among records t)
    of true e ih =
        let parts = ap (λ u. parts_by o g (λ x. standing_here (votes g (p ∷ records)) x) u) (sym (same_name_true p.0 t e)) ∙ parts_read setup g held p records r in
        ap (λ ps. Some (record { home = p.1.home; parts = ps })) parts
    of false e ih = ih

-- crashes leave records
read_crashed : (o : Opening) (g n : ℕ) (t : Name) (life : List LocalEvent) → prepared_here o g t (crashed g n life) ≡ prepared_here o g t life
read_crashed o g zero t life = refl
read_crashed o g (suc n) t life = read_crashed o g n t life

all_map : {X : Type 0} (P Q : X → Type 0) (xs : List X) → ((x : X) → P x → Q x) → AllByRecursion P xs → AllByRecursion Q xs
all_map P Q [] f h = tt
all_map P Q (x ∷ xs) f h = (f x h.0, all_map P Q xs f h.1)

-- each is found
abbrev IsAmong : List (Name × Prepared) → Name × Prepared → Type 0
IsAmong records q = (among records q.0 ≡ Some q.1) × (is_prepared records q.0 ≡ true)

each_among : (records : List (Name × Prepared)) → AreApart records → AllByRecursion (IsAmong records) records
each_among [] h = tt
each_among (p ∷ records) h = (
  (ap (λ s. cond s (Some p.1) (among records p.0)) (same_name_self p.0), or_left _ _ (same_name_self p.0)),
  all_map (IsAmong records) (IsAmong (p ∷ records)) records behind (each_among records h.1),
)
  where
    behind : (q : Name × Prepared) → IsAmong records q → IsAmong (p ∷ records) q
    behind q k = of (same_name p.0 q.0) refl
      where
        of : (s : Bool) → same_name p.0 q.0 ≡ s → IsAmong (p ∷ records) q
        of true e = absurd (clash (ap (λ c. is_prepared records c) (same_name_true p.0 q.0 e) ∙ k.1) h.0)
        of false e = (ap (λ s. cond s (Some p.1) (among records q.0)) e ∙ k.0, or_right _ _ k.1)

none_among : (records : List (Name × Prepared)) (t : Name) → is_prepared records t ≡ false → among records t ≡ None
none_among [] t h = refl
none_among (p ∷ records) t h =
    let q = or_parts _ _ h in
    ap (λ s. cond s (Some p.1) (among records t)) q.0 ∙ none_among records t q.1

-- the law
pub records_read_back : RecordsReadBack
records_read_back setup g held records r =
    let read = λ (t : Name). read_crashed (opened_alone setup g held) g (suc held.count) t (votes g records) ∙ read_votes setup g held records t r in
    record {
      each = λ t q c.
          read t ∙ (All-contains (IsAmong records) records (t, q) (All-from_recursion (IsAmong records) records (each_among records r.apart)) c).0;
      others = λ t h. read t ∙ none_among records t h;
    }

-- ---- Moss's rule

abbrev AreDeltas : List (Name × Part) → Type 0
AreDeltas rs = AllByRecursion (λ r. IsDelta r.1) rs

under_deltas : (told : Name → Bool) (r : Name × Part) (rs : List (Name × Part)) → IsDelta r.1 → AreDeltas rs
    → AllByRecursion (λ e. IsUnder told (of_restored r) e) (map of_restored rs)
under_deltas told r [] d h = tt
under_deltas told r (q ∷ rs) d h = (λ k. absurd (apart q.1 r.1 h.0 d k), under_deltas told r rs d h.1)
  where
    apart : (p q : Part) → IsDelta p → IsDelta q → classes_conflict (part_class p) (part_class q) ≡ true → ⊥
    apart (Delta y) (Delta z) h k l = false≢true l
    apart (Value v) q h k l = h
    apart (Delta y) (Value v) h k l = k

orderly_parts : (told : Name → Bool) (rs : List (Name × Part)) → MayStand rs → AreOrderly told (map of_restored rs)
orderly_parts told [] h = tt
orderly_parts told (r ∷ []) h = (tt, tt)
orderly_parts told (r ∷ q ∷ rs) (inl l) = absurd (omega arith)
orderly_parts told (r ∷ q ∷ rs) (inr d) = all (r ∷ q ∷ rs) d
  where
    all : (ps : List (Name × Part)) → AreDeltas ps → AreOrderly told (map of_restored ps)
    all [] k = tt
    all (p ∷ ps) k = (under_deltas told p ps k.0 k.1, all ps k.1)

-- of another guardian's object nothing is given back
none_elsewhere : (g : ℕ) (records : List (Name × Prepared)) (x : ObjectId) → (g == x.guardian) ≡ false → parts_of g records x ≡ []
none_elsewhere g [] x e = refl
none_elsewhere g (p ∷ records) x e =
    ap₂ (λ t rs. cond t (map (λ (v : ℕ × Part). (p.0, v.1)) (filter (λ v. v.0 == x.number) p.1.parts)) [] ++ rs) e (none_elsewhere g records x e)

may_stand : (g : ℕ) (records : List (Name × Prepared)) (x : ObjectId) → ValuesAlone g records → MayStand (parts_of g records x)
may_stand g records x h = of (g == x.guardian) refl
  where
    of : (t : Bool) → (g == x.guardian) ≡ t → MayStand (parts_of g records x)
    of true e = subst (λ k. MayStand (parts_of g records (at k x.number))) (eqb-true g x.guardian e) (h x.number)
    of false e = subst MayStand (sym (none_elsewhere g records x e)) (inl (omega arith))

-- the law
pub reopened_is_orderly : ReopenedIsOrderly
reopened_is_orderly g held records x h =
    let before = life_before_is g held records in
    let s = standing_here (life_before g held records) x in
    subst (λ os. AreOrderly s.told (map of_kept os ++ map of_restored s.restored)) (sym (before.kept x))
    (subst (λ rs. AreOrderly s.told (map of_restored rs)) (sym (before.restored x)) (orderly_parts s.told (parts_of g records x) (may_stand g records x h)))
