-- Lists from the newest entry on, and the names in them.
use Rattle.std.proofs.Common.{Bool, List, [], ap, arith, false, get_or, length, refl, reverse, take, true, ℕ, ◌+◌, ◌++◌, ◌-◌, ◌<◌, ◌∙◌, ◌∷◌, ◌≡◌, ◌||◌}
use Rattle.std.proofs.lemmas.List.{get_or-reverse, length-reverse, reverse-append, take_more}
use Rattle.action_names.specs.Names.{Name, has_name, same_name}

-- one entry more is the newest
pub turned_push : {X : Type 0} (xs : List X) (x : X) → reverse (xs ++ x ∷ []) ≡ x ∷ reverse xs
turned_push xs x = reverse-append xs (x ∷ [])

pub turned_more : {X : Type 0} (xs : List X) (i : ℕ) (d : X) → i < length xs → reverse (take (i + 1) xs) ≡ get_or xs i d ∷ reverse (take i xs)
turned_more xs i d lt = ap reverse (take_more xs i d lt) ∙ turned_push (take i xs) (get_or xs i d)

-- the newest i entries and one more
pub newest_more : {X : Type 0} (xs : List X) (i : ℕ) (d : X) → i < length xs
    → take (i + 1) (reverse xs) ≡ take i (reverse xs) ++ get_or xs (length xs - 1 - i) d ∷ []
newest_more xs i d lt =
    take_more (reverse xs) i d (omega (arith, length-reverse xs))
    ∙ ap (λ x. take i (reverse xs) ++ x ∷ []) (get_or-reverse xs i d lt)

-- ---- the names of a list
or_assoc : (a b c : Bool) → (a || (b || c)) ≡ ((a || b) || c)
or_assoc true b c = refl
or_assoc false b c = refl

pub or_turn : (a b : Bool) → (a || (b || false)) ≡ (b || a)
or_turn true true = refl
or_turn true false = refl
or_turn false true = refl
or_turn false false = refl

pub nobody_named : (xs : List Name) (a : Name) → length xs ≡ 0 → has_name xs a ≡ false
nobody_named [] a none = refl
nobody_named (x ∷ xs) a none = absurd (omega (arith, none))

pub has_name_append : (xs ys : List Name) (a : Name) → has_name (xs ++ ys) a ≡ (has_name xs a || has_name ys a)
has_name_append [] ys a = refl
has_name_append (x ∷ xs) ys a = ap (λ b. same_name x a || b) (has_name_append xs ys a) ∙ or_assoc (same_name x a) (has_name xs a) (has_name ys a)

pub has_name_turned : (xs : List Name) (a : Name) → has_name (reverse xs) a ≡ has_name xs a
has_name_turned [] a = refl
has_name_turned (x ∷ xs) a =
    ap (λ ys. has_name ys a) (reverse-append (x ∷ []) xs)
    ∙ has_name_append (reverse xs) (x ∷ []) a
    ∙ or_turn (has_name (reverse xs) a) (same_name x a)
    ∙ ap (λ b. same_name x a || b) (has_name_turned xs a)
