-- Names and their last numbers.
use Rattle.std.proofs.Common.{◌≡◌, ℕ, ◌≤◌, ◌+◌, ◌-◌, List, [], ◌∷◌, ◌++◌, length, take, get_or, sym, ap, ◌∙◌, arith, true}
use Rattle.std.specs.Prelude.{nat_eq}
use Rattle.std.specs.Cmp.Lexicographic.{bytes_decides, pointwise}
use Rattle.std.proofs.lemmas.List.{take_all, take_more}

-- a name of one number more than the action's is that of a child
pub child_split : (numbers action name : List ℕ) → 1 ≤ length numbers → pointwise nat_eq (take (length numbers - 1) numbers) action ≡ true → numbers ≡ name
    → action ++ get_or numbers (length numbers - 1) 0 ∷ [] ≡ name
child_split numbers action name some same is =
    let last = get_or numbers (length numbers - 1) 0 in
    let above : take (length numbers - 1) numbers ≡ action = (bytes_decides (take (length numbers - 1) numbers) action).0 same in
    ap (λ a. a ++ last ∷ []) (sym above)
    ∙ sym (take_more numbers (length numbers - 1) 0 (omega arith))
    ∙ take_all ((length numbers - 1) + 1) numbers (omega arith)
    ∙ is
