use Rattle.std.proofs.Common.{◌≡◌, ◌∷◌, ◌++◌, get_or, take, decimal, string_bytes}
use Rattle.std.specs.List.{flat_map}
use Rattle.action_names.proofs.name.Name.append_to.Given as goal

-- the numbers so far are written
abbrev pub invariant-loop-number : goal.invariant-loop-number
invariant-loop-number l =
    string_bytes l.text ≡ string_bytes l.fn.text ++ (decimal (get_or l.self 0 0) ++ flat_map (λ n. 46 ∷ decimal n) (take l.number-index l.rest))
