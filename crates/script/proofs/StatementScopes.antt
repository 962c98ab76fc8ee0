-- Scopes that extend others, and what a body leaves of its own.
use Rattle.std.proofs.Common.{◌≡◌, ◌≤◌, List, [], ◌∷◌, ◌++◌, length, length-append, sym, ap, ◌∙◌, append_assoc, arith}
use Rattle.script_model.specs.Scopes.{Bound, Scope}
use Rattle.script.specs.Contexts.{Extends}
use Rattle.script_parts.proofs.ScopeLemmas.{same_end}

pub extends_same : (old new : Scope) → new ≡ old → Extends old new
extends_same old new same = ([], same)

pub extends_one : (old new : Scope) (b : Bound) → new ≡ b ∷ old → Extends old new
extends_one old new b bound = (b ∷ [], bound)

pub extends_more : (old mid new : Scope) → Extends old mid → Extends mid new → Extends old new
extends_more old mid new first second =
    (second.0 ++ first.0, second.1 ∙ ap (λ s. second.0 ++ s) first.1 ∙ sym (append_assoc second.0 first.0 old))

pub extends-length : (old new : Scope) → Extends old new → length old ≤ length new
extends-length old new more = omega (arith, ap length more.1, length-append more.0 old)

-- what is left after the newest are forgotten, down to as many as there were, are those that there were
pub left_again : (old mid new : Scope) → Extends old mid → (bs : List Bound) × (mid ≡ bs ++ new) → length new ≡ length old → new ≡ old
left_again old mid new more gone many = same_end gone.0 more.0 new old (sym gone.1 ∙ more.1) many
