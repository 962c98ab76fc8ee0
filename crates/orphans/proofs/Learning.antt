-- Names and counts that are learnt one after another.
use Rattle.std.proofs.Common.{List, [], ap, cond, false, sym, true, ℕ, refl, ◌++◌, ◌∙◌, ◌∷◌, ◌≡◌}
use Rattle.std.proofs.lemmas.List.{map-append}
use Rattle.std.specs.Prelude.{nat_lt}
use Rattle.action_names.specs.Names.{Name, has_name}
use Rattle.run_model.specs.LocalReadings.{learnt, most_of, raised}
use Rattle.orphans.specs.Logs.{name_of, names_of}
use Rattle.orphans.specs.declared.log.Abort.{Abort}

-- those behind are learnt first
pub learnt-append : (xs ys known : List Name) → learnt (xs ++ ys) known ≡ learnt xs (learnt ys known)
learnt-append [] ys known = refl
learnt-append (x ∷ xs) ys known = ap (λ (old : List Name). cond (has_name old x) old (x ∷ old)) (learnt-append xs ys known)

pub raised-append : (xs ys known : List (ℕ × ℕ)) → raised (xs ++ ys) known ≡ raised xs (raised ys known)
raised-append [] ys known = refl
raised-append (x ∷ xs) ys known = ap (λ (old : List (ℕ × ℕ)). cond (nat_lt (most_of old x.0) x.1) (x ∷ old) old) (raised-append xs ys known)

-- the last of the names, and then those in front of it
pub learnt_last : (aborts rest : List Abort) (abort : Abort) (known : List Name) → aborts ≡ rest ++ abort ∷ []
    → learnt (names_of aborts) known ≡ learnt (names_of rest) (learnt (name_of abort ∷ []) known)
learnt_last aborts rest abort known is =
    ap (λ xs. learnt xs known) (ap names_of is ∙ map-append name_of rest (abort ∷ []))
    ∙ learnt-append (names_of rest) (name_of abort ∷ []) known

pub raised_last : (counts rest : List (ℕ × ℕ)) (count : ℕ × ℕ) (known : List (ℕ × ℕ)) → counts ≡ rest ++ count ∷ []
    → raised counts known ≡ raised rest (raised (count ∷ []) known)
raised_last counts rest count known is = ap (λ xs. raised xs known) is ∙ raised-append rest (count ∷ []) known

-- a name that is new, and one that is known
pub learnt_new : (known : List Name) (name : Name) → has_name known name ≡ false → name ∷ known ≡ learnt (name ∷ []) known
learnt_new known name new = sym (ap (λ b. cond b known (name ∷ known)) new)

pub learnt_known : (known : List Name) (name : Name) → has_name known name ≡ true → known ≡ learnt (name ∷ []) known
learnt_known known name old = sym (ap (λ b. cond b known (name ∷ known)) old)
