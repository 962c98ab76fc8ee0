-- The text of a name: its numbers, joined by dots.
use Rattle.std.proofs.Common.{◌≡◌, ℕ, ◌-◌, ◌≤◌, [], ◌∷◌, ◌++◌, length, get_or, take, drop, sym, ap, ◌∙◌, append-nil, length-take, decimal, arith}
use Rattle.std.specs.List.{flat_map}
use Rattle.std.proofs.lemmas.List.{take_all}
use Rattle.action_names.specs.Names.{Name, name_text}

-- the first number, and each other one after a dot
name_text-cons : (m : ℕ) (a : Name) → name_text (m ∷ a) ≡ decimal m ++ flat_map (λ n. 46 ∷ decimal n) a
name_text-cons m [] = sym (append-nil (decimal m))
name_text-cons m (n ∷ a) = ap (λ t. decimal m ++ 46 ∷ t) (name_text-cons n a)

-- the same of a name that is taken apart by places: k is at least as many as follow the first number
pub name_text-places : (a : Name) (k : ℕ) → 1 ≤ length a → length a - 1 ≤ k → decimal (get_or a 0 0) ++ flat_map (λ n. 46 ∷ decimal n) (take k (take (length a - 1) (drop 1 a))) ≡ name_text a
name_text-places [] k h l = absurd (omega arith)
name_text-places (m ∷ a) k h l =
    let whole : take k (take (length (m ∷ a) - 1) a) ≡ a =
    take_all k _ (omega (arith, length-take (length (m ∷ a) - 1) a)) ∙ take_all (length (m ∷ a) - 1) a (omega arith) in
    rw whole (sym (name_text-cons m a))
