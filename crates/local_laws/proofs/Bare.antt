-- What is asked of an object does not ask for the numbers of operations.
use Rattle.std.proofs.Common.{Bool, List, None, Option, [], ap, ap₂, cond, count_by, false, filter, filter_map, is_none, length, map, not, option_map, refl, sym, true, ℕ, ℤ, ◌++◌, ◌∙◌, ◌∷◌, ◌≡◌, ◌||◌, Some}
use Rattle.std.specs.List.{cons_option, list_any}
use Rattle.action_names.specs.Names.{Name, has_name, is_ancestor, rising_names}
use Rattle.values.specs.declared.content.Content.{Content}
use Rattle.atomic_types.specs.Objects.{content_after}
use Rattle.atomic_types.specs.Operations.{class_of, classes_conflict, conflicts, is_add, is_add_class, is_write, is_write_class}
use Rattle.run_model.specs.declared.step.ObjectId.{ObjectId}
use Rattle.run_model.specs.Keeping.{Performed, Standing, blockers_by, part_class, standing_of}
use Rattle.run_model.specs.Openings.{objects_at, first_content}
use Rattle.atomic_types.specs.declared.part.Part.TheVariants.{Value, Delta}
use Rattle.run_model.specs.Replay.{left_of}
use Rattle.run_model.specs.Answers.{concerns_by, granted_by, is_concerned_by, operated_by}
use Rattle.run_model.specs.Lists.{up_to}
use Rattle.run_model.specs.Telling.{holder_by}
use Rattle.run_model.specs.Versions.{adders_by, base_by, delta_by, deltas_by, holder_at, is_held_above, is_held_by, is_hidden, lock_of, locks_by, owners_by, part_held, sum_back, sum_on, under, version_by, versions_by, with_add, written_by}
use Rattle.run_model.specs.LocalReadings.{standing_here}
use Rattle.run_model.specs.LocalHistories.{events_of, local_history}
use Rattle.local_laws.specs.Standings.{bare, unnumbered}
use Rattle.local_laws.specs.Objects.{CountsSame, ObjectsAlike, PartsSame}
use Rattle.local_laws.proofs.Kept.{standing_same}
use Rattle.atomic_types.specs.Operations as op

abbrev bare_all : List Performed → List Performed
bare_all os = map (λ o. unnumbered o) os

filter_bare : (p : Performed → Bool) → ((o : Performed) → p (unnumbered o) ≡ p o) → (os : List Performed)
    → filter p (bare_all os) ≡ bare_all (filter p os)
filter_bare p h [] = refl
filter_bare p h (o ∷ os) =
    ap₂ (λ t ps. cond t (unnumbered o ∷ ps) ps) (h o) (filter_bare p h os) ∙ of (p o) (filter p os)
  where
    of : (t : Bool) (ps : List Performed) → cond t (unnumbered o ∷ bare_all ps) (bare_all ps) ≡ bare_all (cond t (o ∷ ps) ps)
    of true ps = refl
    of false ps = refl

mapped_bare : {Y : Type 0} (h : Performed → Option Y) → ((o : Performed) → h (unnumbered o) ≡ h o) → (os : List Performed)
    → filter_map h (bare_all os) ≡ filter_map h os
mapped_bare h q [] = refl
mapped_bare h q (o ∷ os) = ap₂ (λ y ys. cons_option y ys) (q o) (mapped_bare h q os)

left_bare : (c : Content) (os : List Performed) → left_of c (bare_all os) ≡ left_of c os
left_bare c [] = refl
left_bare c (o ∷ os) = ap (λ d. content_after d o.operation) (left_bare c os)

any_bare : (p : Performed → Bool) → ((o : Performed) → p (unnumbered o) ≡ p o) → (os : List Performed)
    → list_any p (bare_all os) ≡ list_any p os
any_bare p h [] = refl
any_bare p h (o ∷ os) = ap₂ (λ x y. x || y) (h o) (any_bare p h os)

blockers_bare : (s : Standing) (a : Name) (wanted : op.Op) → blockers_by (bare s) a wanted ≡ blockers_by s a wanted
blockers_bare s a wanted =
    let restored = filter_map (λ r. holder_by s.told r.0) (filter (λ r. classes_conflict (part_class r.1) (class_of wanted)) s.restored) in
    ap (λ os. rising_names (filter (λ c. not (is_ancestor c a)) (restored ++ filter_map (λ o. holder_by s.told o.action) os)))
    (filter_bare (λ o. conflicts o.operation wanted) (λ o. refl) s.kept)
    ∙ ap (λ names. rising_names (filter (λ c. not (is_ancestor c a)) (restored ++ names)))
    (mapped_bare (λ o. holder_by s.told o.action) (λ o. refl) (filter (λ o. conflicts o.operation wanted) s.kept))

owners_bare : (s : Standing) → owners_by (bare s) ≡ owners_by s
owners_bare s =
    ap (λ names. rising_names (filter_map (λ r. cond (is_write_class (part_class r.1)) (holder_by s.told r.0) None) s.restored ++ names))
    (mapped_bare (λ o. cond (is_write o.operation) (holder_at s o) None) (λ o. refl) s.kept)

locks_bare : (s : Standing) → locks_by (bare s) ≡ locks_by s
locks_bare s =
    let restored = filter_map (λ r. lock_of (holder_by s.told r.0) (part_class r.1)) s.restored in
    ap₂ (λ names ls. filter (λ l. not (is_hidden names l)) (restored ++ ls)) (owners_bare s)
    (mapped_bare (λ o. lock_of (holder_at s o) (class_of o.operation)) (λ o. refl) s.kept)

adders_bare : (s : Standing) → adders_by (bare s) ≡ adders_by s
adders_bare s =
    let restored = filter_map (λ r. cond (is_add_class (part_class r.1)) (holder_by s.told r.0) None) s.restored in
    ap₂ (λ names adders. rising_names (filter (λ a. not (has_name names a)) (restored ++ adders))) (owners_bare s)
    (mapped_bare (λ o. cond (is_add o.operation) (holder_at s o) None) (λ o. refl) s.kept)

sum_bare : (n : ℤ) (passes : Name → Bool) (os : List Performed) → sum_on n passes (bare_all os) ≡ sum_on n passes os
sum_bare n passes [] = refl
sum_bare n passes (o ∷ os) = ap (λ m. cond (passes o.action) (with_add m o.operation) m) (sum_bare n passes os)

delta_bare : (s : Standing) (a : Name) → delta_by (bare s) a ≡ delta_by s a
delta_bare s a = sum_bare (sum_back (is_held_by s a) s.restored) (is_held_by s a) s.kept

written_bare : (c : Content) (s : Standing) (passes : Name → Bool) → written_by c (bare s) passes ≡ written_by c s passes
written_bare c s passes =
    ap (λ os. left_of (under c passes s.restored) os) (filter_bare (λ o. passes o.action) (λ o. refl) s.kept)
    ∙ left_bare (under c passes s.restored) (filter (λ o. passes o.action) s.kept)

base_bare : (c : Content) (s : Standing) → base_by c (bare s) ≡ base_by c s
base_bare c s = written_bare c s (λ b. is_none (holder_by s.told b))

version_bare : (c : Content) (s : Standing) (a : Name) → version_by c (bare s) a ≡ version_by c s a
version_bare c s a = written_bare c s (λ b. is_held_above (holder_by s.told b) a)

map_same : {X Y : Type 0} (f g : X → Y) (xs : List X) → ((x : X) → f x ≡ g x) → map f xs ≡ map g xs
map_same f g [] h = refl
map_same f g (x ∷ xs) h = ap₂ (λ y ys. y ∷ ys) (h x) (map_same f g xs h)

versions_bare : (c : Content) (s : Standing) → versions_by c (bare s) ≡ versions_by c s
versions_bare c s =
    ap (λ names. map (λ a. (a, version_by c (bare s) a)) names) (owners_bare s)
    ∙ map_same _ _ (owners_by s) (λ a. ap (λ d. (a, d)) (version_bare c s a))

deltas_bare : (s : Standing) → deltas_by (bare s) ≡ deltas_by s
deltas_bare s =
    ap (λ names. map (λ a. (a, delta_by (bare s) a)) names) (adders_bare s)
    ∙ map_same _ _ (adders_by s) (λ a. ap (λ d. (a, d)) (delta_bare s a))

part_bare : (c : Content) (s : Standing) (a : Name) → part_held c (bare s) a ≡ part_held c s a
part_bare c s a =
    ap₂ (λ owns adds. cond owns (Some (Value (version_by c (bare s) a))) (cond adds (Some (Delta (delta_by (bare s) a))) None))
    (ap (λ names. has_name names a) (owners_bare s)) (ap (λ names. has_name names a) (adders_bare s))
    ∙ ap₂ (λ v d. cond (has_name (owners_by s) a) (Some (Value v)) (cond (has_name (adders_by s) a) (Some (Delta d)) None))
    (version_bare c s a) (delta_bare s a)

operated_bare : (c : Content) (s : Standing) (a : Name) (wanted : op.Op) → operated_by c (bare s) a wanted ≡ operated_by c s a wanted
operated_bare c s a wanted =
    ap (λ bs. granted_by d (bare_all s.kept) wanted bs) (blockers_bare s a wanted) ∙ of (blockers_by s a wanted)
  where
    d : Content
    d = under c (λ b. true) s.restored

    of : (bs : List Name) → granted_by d (bare_all s.kept) wanted bs ≡ granted_by d s.kept wanted bs
    of [] = ap (λ e. granted_by e [] wanted []) (left_bare d s.kept)
    of (b ∷ bs) = refl

concerned_bare : (committed : Bool) (s : Standing) (a : Name) → is_concerned_by committed (bare s) a ≡ is_concerned_by committed s a
concerned_bare committed s a =
    ap (λ t. list_any (λ r. concerns_by committed s.told a r.0) s.restored || t)
    (any_bare (λ o. concerns_by committed s.told a o.action) (λ o. refl) s.kept)

-- the law
pub objects_alike : ObjectsAlike
objects_alike opening run x r = record {
  blockers = λ a wanted. sym (blockers_bare s a wanted) ∙ ap (λ u. blockers_by u a wanted) e ∙ blockers_bare t a wanted;
  locks = sym (locks_bare s) ∙ ap (λ u. locks_by u) e ∙ locks_bare t;
  owners = sym (owners_bare s) ∙ ap (λ u. owners_by u) e ∙ owners_bare t;
  base = λ c. sym (base_bare c s) ∙ ap (λ u. base_by c u) e ∙ base_bare c t;
  version = λ c a. sym (version_bare c s a) ∙ ap (λ u. version_by c u a) e ∙ version_bare c t a;
  versions = λ c. sym (versions_bare c s) ∙ ap (λ u. versions_by c u) e ∙ versions_bare c t;
  adders = sym (adders_bare s) ∙ ap (λ u. adders_by u) e ∙ adders_bare t;
  deltas = sym (deltas_bare s) ∙ ap (λ u. deltas_by u) e ∙ deltas_bare t;
  part = λ c a. sym (part_bare c s a) ∙ ap (λ u. part_held c u a) e ∙ part_bare c t a;
  operated = λ c a wanted. sym (operated_bare c s a wanted) ∙ ap (λ u. operated_by c u a wanted) e ∙ operated_bare c t a wanted;
}
  where
    s : Standing
    s = standing_here (local_history opening run x.guardian) x

    t : Standing
    t = standing_of x (events_of run)

    e : bare s ≡ bare t
    e = standing_same opening run x r

-- counts of lists by tests that agree
count_same : (p q : ℕ → Bool) (ns : List ℕ) → ((n : ℕ) → p n ≡ q n) → count_by p ns ≡ count_by q ns
count_same p q ns h = let e : p ≡ q = λ i n. h n i in ap (λ t. count_by t ns) e

pub counts_same : CountsSame
counts_same opening run g committed a r = count_same _ _ (up_to (length (objects_at opening.setup g))) (λ n.
    let x : ObjectId = record { guardian = g; number = n } in
    let s = standing_here (local_history opening run g) x in
    let t = standing_of x (events_of run) in
    sym (concerned_bare committed s a) ∙ ap (λ u. is_concerned_by committed u a) (standing_same opening run x r) ∙ concerned_bare committed t a)

pub parts_same : PartsSame
parts_same opening run g t r =
    let at = λ (n : ℕ). (let x : ObjectId = record { guardian = g; number = n } in x) in
    let alike = λ (n : ℕ). objects_alike opening run (at n) r in
    λ i. filter_map (λ n. option_map (λ p. (n, p)) ((alike n).part (first_content opening (at n)) t i)) (up_to (length (objects_at opening.setup g)))
