-- Arms that run apart: which names they have, and that they may be run.
use Rattle.std.proofs.Common.{IsTrue, None, List, Some, [], ap, arith, inl, inr, length, map, refl, reverse, slice_get, subst, suc, sym, take, zero, ℕ, ◌++◌, ◌+◌, ◌-◌, ◌<◌, ◌∙◌, ◌∷◌, ◌≡◌, ◌≤◌}
use Rattle.std.proofs.lemmas.Bool.{false≢true, or_cases, or_left, or_right}
use Rattle.std.proofs.lemmas.List.{get_or-reverse, length-map, length-reverse, length-take, map-append}
use Rattle.std.proofs.lemmas.Option.{get_or_from_slice_get, slice_get_read}
use Rattle.action_names.specs.Names.{Name, has_name, same_name}
use Rattle.run_laws.proofs.Names.{has_name_append, same_name_self}
use Rattle.run_model.specs.Runs.{World}
use Rattle.script_model.specs.declared.checked.Checked.{Checked}
use Rattle.script_model.specs.declared.statement.Arm.{Arm}
use Rattle.script_model.specs.declared.statement.Statement.{Statement}
use Rattle.activities.specs.declared.apart.BegunArm.{BegunArm}
use Rattle.activities.specs.declared.apart.EndedArm.{EndedArm}
use Rattle.activities.specs.Apart.{AllRunnable, IsRunnable, are_subs, begun_names, ended_names}
use Rattle.activities.specs.Bodies.{IsBody, body_of, is_sub, sizes}
use Rattle.activities.specs.Making.{Makes}
use Rattle.frames.specs.Bound.{Bound}
use Rattle.activities.proofs.Going.{alone}
use Rattle.activities.proofs.Making.{makes_more, makes_through}

-- the first so many of the names
pub has_fewer : (n : ℕ) (names : List Name) (a : Name) → IsTrue (has_name (take n names) a) → IsTrue (has_name names a)
has_fewer zero [] a h = h
has_fewer zero (b ∷ names) a h = absurd (false≢true h)
has_fewer (suc n) [] a h = h
has_fewer (suc n) (b ∷ names) a h = elim (or_cases (same_name b a) (has_name (take n names) a) h) [
  | inl e ↦ or_left (same_name b a) (has_name names a) e
  | inr e ↦ or_right (same_name b a) (has_name names a) (has_fewer n names a e)
]

-- actions of fewer names make no more
pub makes_within : (names all : List Name) (x y : World) → ((a : Name) → IsTrue (has_name names a) → IsTrue (has_name all a)) → Makes names names x y → Makes all all x y
makes_within names all x y f m = makes_more names all names all x y f f m

pub then_within : (names all : List Name) (x y z : World) → ((a : Name) → IsTrue (has_name names a) → IsTrue (has_name all a)) → Makes all all x y → Makes names names y z
    → Makes all all x z
then_within names all x y z f m n = makes_through all all x y z m (makes_within names all y z f n)

-- ---- arms that are begun

has_at : (names : List Name) (i : ℕ) (a : Name) → slice_get names i ≡ Some a → IsTrue (has_name names a)
has_at [] i a e = absurd (none_is e)
  where
    none_is : None ≡ Some a → ⊥
    none_is h = cc
has_at (b ∷ names) zero a e =
    let same : b ≡ a = cc in or_left (same_name b a) (has_name names a) (subst (λ n. IsTrue (same_name b n)) same (same_name_self b))
has_at (b ∷ names) (suc i) a e = or_right (same_name b a) (has_name names a) (has_at names i a e)

-- one more, whose name waits
pub one_among : (begun : List BegunArm) (arm : BegunArm) (waiting : List Name) (i : ℕ) → ((a : Name) → IsTrue (has_name (begun_names begun) a) → IsTrue (has_name waiting a))
    → slice_get waiting i ≡ Some arm.action.name → (a : Name) → IsTrue (has_name (begun_names (begun ++ arm ∷ [])) a) → IsTrue (has_name waiting a)
one_among begun arm waiting i f at a h =
    elim (or_cases (has_name (begun_names begun) a) (has_name (arm.action.name ∷ []) a)
    (sym (has_name_append (begun_names begun) (arm.action.name ∷ []) a) ∙ sym (ap (λ l. has_name l a) (map-append (λ b. b.action.name) begun (arm ∷ []))) ∙ h)) [
      | inl e ↦ f a e
      | inr e ↦ subst (λ n. IsTrue (has_name waiting n)) (alone arm.action.name a e) (has_at waiting i arm.action.name at)
    ]

-- the first so many, and one more
take_more : {A : Type 0} (xs : List A) (i : ℕ) (x : A) → slice_get xs i ≡ Some x → take (suc i) xs ≡ take i xs ++ x ∷ []
take_more [] i x e = absurd (none_is e)
  where
    none_is : None ≡ Some x → ⊥
    none_is h = cc
take_more (y ∷ xs) zero x e = let same : y ≡ x = cc in ap (λ z. z ∷ []) same
take_more (y ∷ xs) (suc i) x e = ap (λ l. y ∷ l) (take_more xs i x e)

-- the last of the names is that of the first arm
turned : {A : Type 0} (xs : List A) (k : ℕ) (x : A) → k < length xs → slice_get xs (length xs - 1 - k) ≡ Some x → slice_get (reverse xs) k ≡ Some x
turned xs k x less e =
    slice_get_read (reverse xs) (length xs) k x (sym (length-reverse xs)) less
    (sym (get_or_from_slice_get xs (length xs - 1 - k) x x e) ∙ sym (get_or-reverse xs k x less))

-- one more has begun, in the order of the arms
pub one_named : (begun : List BegunArm) (one : BegunArm) (waiting : List Name) (i n : ℕ) → begun_names begun ≡ take i (reverse waiting) → n ≡ i + 1
    → i < length waiting → slice_get waiting (length waiting - 1 - i) ≡ Some one.action.name
    → begun_names (begun ++ one ∷ []) ≡ take n (reverse waiting)
one_named begun one waiting i n h next less at =
    let more : n ≡ suc i = omega arith in
    map-append (λ b. b.action.name) begun (one ∷ []) ∙ ap (λ l. l ++ one.action.name ∷ []) h
    ∙ sym (take_more (reverse waiting) i one.action.name (turned waiting i one.action.name less at)) ∙ sym (ap (λ m. take m (reverse waiting)) more)

pub one_sub : (begun : List BegunArm) (one : BegunArm) (arms : List Arm) (arm : Arm) (i n : ℕ) → are_subs begun ≡ map is_sub (take i arms) → n ≡ i + 1
    → one.is_sub ≡ is_sub arm → slice_get arms i ≡ Some arm → are_subs (begun ++ one ∷ []) ≡ map is_sub (take n arms)
one_sub begun one arms arm i n h next same at =
    let more : n ≡ suc i = omega arith in
    map-append (λ b. b.is_sub) begun (one ∷ []) ∙ ap (λ l. l ++ one.is_sub ∷ []) h ∙ ap (λ s. map is_sub (take i arms) ++ s ∷ []) same
    ∙ sym (map-append is_sub (take i arms) (arm ∷ [])) ∙ ap (map is_sub) (sym (take_more arms i arm at) ∙ sym (ap (λ m. take m arms) more))

pub longer : (begun : List BegunArm) (arm : BegunArm) → length (begun ++ arm ∷ []) ≡ length begun + 1
longer [] arm = refl
longer (b ∷ begun) arm = let one = longer begun arm in omega (arith, one)

-- its body is the arm's, over these variables
pub runnable_as : (script : Checked) (frames : Bound) (arm : Arm) (one : BegunArm) → one.frames ≡ frames → one.body ≡ body_of arm
    → IsBody script (sizes frames) (body_of arm) → IsRunnable script one
runnable_as script frames arm one f b h =
    subst (λ (l : List Statement). IsBody script (sizes one.frames) l) (sym b) (subst (λ (v : Bound). IsBody script (sizes v) (body_of arm)) (sym f) h)

pub one_runnable : (script : Checked) (begun : List BegunArm) (arm : BegunArm) → AllRunnable script begun → IsRunnable script arm
    → AllRunnable script (begun ++ arm ∷ [])
one_runnable script [] arm f r zero b e = let same : arm ≡ b = cc in subst (IsRunnable script) same r
one_runnable script [] arm f r (suc i) b e = absurd (none_is e)
  where
    none_is : None ≡ Some b → ⊥
    none_is h = cc
one_runnable script (c ∷ begun) arm f r zero b e = f 0 b e
one_runnable script (c ∷ begun) arm f r (suc i) b e = one_runnable script begun arm (λ j d h. f (suc j) d h) r i b e

-- as many have ended as were begun, or fewer
pub ended_fewer : (ended : List EndedArm) (begun : List BegunArm) → ended_names ended ≡ take (length ended) (begun_names begun) → length ended ≤ length begun
ended_fewer ended begun e =
    let names : length (ended_names ended) ≡ length (take (length ended) (begun_names begun)) = ap length e in
    omega (arith, names, length-map ended (λ x. x.action.name), length-map begun (λ x. x.action.name), length-take (length ended) (begun_names begun))
