-- The frames of a scope, and the places of the variables that are found in it.
use Rattle.std.proofs.Common.{Bool, List, Some, [], arith, cond, false, refl, suc, subst, true, ℕ, ◌&&◌, ◌<◌, ◌∷◌, ◌≡◌, ◌≤◌}
use Rattle.std.proofs.lemmas.Bool.{and_parts}
use Rattle.std.proofs.lemmas.Option.{none-some, same_Some}
use Rattle.values.specs.Words.{same_bytes}
use Rattle.values.specs.declared.value.Kind.{Kind}
use Rattle.values.specs.declared.value.Kind.TheVariants as kind
use Rattle.script_model.specs.declared.names.Sort.{Sort}
use Rattle.script_model.specs.declared.names.Sort.TheVariants.{Int, Text, Truth, Unknown}
use Rattle.script_model.specs.Resolved.{Frames}
use Rattle.script_model.specs.Scopes.{Bound, Scope, Variable, agree, count_bound, find, same_sort, sort_of_kind}

abbrev pub frames_of : Scope → Frames
frames_of scope = record { ints = count_bound Int scope; texts = count_bound Text scope; truths = count_bound Truth scope }

abbrev pub is_known : Sort → Bool
is_known Int = true
is_known Text = true
is_known Truth = true
is_known Unknown = false

-- no variable is of unknown sort
abbrev pub all_known : Scope → Bool
all_known [] = true
all_known (b ∷ earlier) = is_known b.sort && all_known earlier

pub same_sort_self : (s : Sort) → same_sort s s ≡ true
same_sort_self Int = refl
same_sort_self Text = refl
same_sort_self Truth = refl
same_sort_self Unknown = refl

pub known_kind : (k : Kind) → is_known (sort_of_kind k) ≡ true
known_kind kind.Int = refl
known_kind kind.Text = refl

pub agreed : (s t : Sort) → is_known s ≡ true → is_known t ≡ true → agree s t ≡ true → s ≡ t
agreed Int Int p q e = refl
agreed Text Text p q e = refl
agreed Truth Truth p q e = refl
agreed Unknown t p q e = grind arith
agreed Int Unknown p q e = grind arith
agreed Text Unknown p q e = grind arith
agreed Truth Unknown p q e = grind arith
agreed Int Text p q e = grind arith
agreed Int Truth p q e = grind arith
agreed Text Int p q e = grind arith
agreed Text Truth p q e = grind arith
agreed Truth Int p q e = grind arith
agreed Truth Text p q e = grind arith

count_step : (t : Bool) (n : ℕ) → n ≤ cond t (suc n) n
count_step true n = omega arith
count_step false n = omega arith

-- one more bound variable leaves no fewer
pub count_grows : (s : Sort) (b : Bound) (earlier : Scope) → count_bound s earlier ≤ count_bound s (b ∷ earlier)
count_grows s b earlier = count_step (same_sort b.sort s) (count_bound s earlier)

count_one : (t : Bool) (n : ℕ) → t ≡ true → n < cond t (suc n) n
count_one true n e = omega arith
count_one false n e = grind arith

-- a variable that is found lies within the frame of its sort
pub found_within : (scope : Scope) (name : List ℕ) (v : Variable) → find scope name ≡ Some v → v.place < count_bound v.sort scope
found_within [] name v e = absurd (none-some v e)
found_within (b ∷ earlier) name v e = step (same_bytes b.name name) (found_within earlier name v) e
  where
    here : Variable
    here = record { sort = b.sort; place = count_bound b.sort earlier }

    step : (t : Bool) → (find earlier name ≡ Some v → v.place < count_bound v.sort earlier)
        → cond t (Some here) (find earlier name) ≡ Some v
        → v.place < count_bound v.sort (b ∷ earlier)
    step true before h = subst (λ (w : Variable). w.place < count_bound w.sort (b ∷ earlier)) (same_Some here v h)
        (count_one (same_sort b.sort b.sort) (count_bound b.sort earlier) (same_sort_self b.sort))
    step false before h = omega (arith, before h, count_grows v.sort b earlier)

-- it is of a known sort, where all are
pub found_known : (scope : Scope) (name : List ℕ) (v : Variable) → all_known scope ≡ true → find scope name ≡ Some v
    → is_known v.sort ≡ true
found_known [] name v k e = absurd (none-some v e)
found_known (b ∷ earlier) name v k e =
    step (same_bytes b.name name) (found_known earlier name v (and_parts (is_known b.sort) (all_known earlier) k).1) e
  where
    here : Variable
    here = record { sort = b.sort; place = count_bound b.sort earlier }

    step : (t : Bool) → (find earlier name ≡ Some v → is_known v.sort ≡ true) → cond t (Some here) (find earlier name) ≡ Some v
        → is_known v.sort ≡ true
    step true before h =
        subst (λ (w : Variable). is_known w.sort ≡ true) (same_Some here v h) (and_parts (is_known b.sort) (all_known earlier) k).0
    step false before h = before h
