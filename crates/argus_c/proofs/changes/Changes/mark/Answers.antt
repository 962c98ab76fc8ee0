use Rattle.std.proofs.Common.{◌≡◌, ◌+◌, ◌∙◌, ℕ, true, Some, None, ap, nat_cmp, subst, sym}
use Rattle.std.specs.BTreeSet.{contains}
use Rattle.std.proofs.lemmas.Bool.{false≢true}
use Rattle.argus_c.proofs.Marks.{now_marked, stays_marked}
use Rattle.argus_c.proofs.changes.Changes.mark.Goals as goal

same_number : (m n : ℕ) → Some m ≡ Some n → m ≡ n
same_number m n e = cc

no_number : (n : ℕ) → None ≡ Some n → ⊥
no_number n e = cc

pub returns-in_ok-insert-in-Some-clause-marked : goal.returns-in_ok-insert-in-Some-clause-marked
returns-in_ok-insert-in-Some-clause-marked c g was =
    stays_marked c.remember.new.self.changed c.insert.new.self c.in-Some.guardian c.in_ok-insert-in-Some.ensures.updates.0 g
    (ap (λ s. contains nat_cmp s g) c.in_ok-remember.ensures ∙ was)

pub returns-in_ok-insert-in-Some-clause-others : goal.returns-in_ok-insert-in-Some-clause-others
returns-in_ok-insert-in-Some-clause-others c i s unmarked at =
    let marked = now_marked c.remember.new.self.changed c.insert.new.self c.in-Some.guardian c.in_ok-insert-in-Some.ensures.updates.0 in
    c.in-Some.ensures i s
    (λ e. false≢true (sym unmarked ∙ subst (λ n. contains nat_cmp c.insert.new.self n ≡ true) (same_number c.in-Some.guardian (i + 1) e) marked)) at

pub returns-in-None-clause-others : goal.returns-in-None-clause-others
returns-in-None-clause-others c i s unmarked at = c.in-None.ensures i s (no_number (i + 1)) at
