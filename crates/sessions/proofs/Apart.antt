-- No two receipts are of one event.
use Rattle.std.proofs.Common.{Bool, List, Option, [], arith, cond, false, length, suc, sym, true, ℕ, ◌+◌, ◌++◌, ◌==◌, ◌||◌, ◌∙◌, ◌∷◌, ◌≡◌, ◌≤◌}
use Rattle.std.proofs.Math.Logic.{∥∥₁_elim}
use Rattle.std.proofs.lemmas.Bool.{false≢true}
use mathlib.Core.Bool.{Bool-set}
use Rattle.one_run.proofs.Totals.{total-append}
use Rattle.one_run.specs.Pieces.{total}
use Rattle.run_model.specs.declared.history.Event.{Event}
use Rattle.run_model.specs.Openings.{Opening}
use Rattle.locked_run.specs.Behind.{IsBehind}
use Rattle.locked_run.specs.Receipts.{StandIn}
use Rattle.sessions.specs.Sessions.{AreApart, AreInOrder, has_length, seen_in}
use Rattle.sessions.proofs.Own.{all_below, all_further, below_more, has_none}

-- the run has so many events
abbrev counted : ℕ → List Event → ℕ
counted n run = cond (length run == n) 1 0

has_one : (n : ℕ) (runs : List (List Event)) → has_length runs n ≡ true → 1 ≤ total (counted n) runs
has_one n [] h = absurd (false≢true h)
has_one n (run ∷ runs) h = go (length run == n) h (has_one n runs)
  where
    go : (b : Bool) → b || has_length runs n ≡ true → (has_length runs n ≡ true → 1 ≤ total (counted n) runs) → 1 ≤ cond b 1 0 + total (counted n) runs
    go true h more = omega arith
    go false h more = let least = more h in omega arith

too_many : (all both own one other : ℕ) → all ≤ 1 → all ≡ both + other → both ≡ own + one → 1 ≤ one → 1 ≤ other → ⊥
too_many all both own one other few e f a b = omega arith

-- none stands twice in a run
pub apart_in : (past : List Event) (own one other : List (List Event)) → StandIn past ((own ++ one) ++ other) → AreApart one other
apart_in past own one other stand n first second =
    too_many (total (counted (suc n)) ((own ++ one) ++ other)) (total (counted (suc n)) (own ++ one)) (total (counted (suc n)) own) (total (counted (suc n)) one)
    (total (counted (suc n)) other) (stand.once (suc n)) (total-append (counted (suc n)) (own ++ one) other) (total-append (counted (suc n)) own one)
    (has_one (suc n) one first) (has_one (suc n) other second)

-- who has seen nothing has no receipt of an event
pub apart_unseen : (opening : Opening) (before one other : List (List Event)) (last : Option (List Event)) → IsBehind (seen_in last) []
    → ∥ AreInOrder opening before one last ∥₁ → AreApart one other
apart_unseen opening before one other last nothing ordered n first second = false≢true (sym none ∙ first)
  where
    none : has_length one (suc n) ≡ false
    none =
        ∥∥₁_elim ordered (Bool-set (has_length one (suc n)) false) (λ o.
        has_none one (suc n) (below_more one 1 (suc n) (all_below one [] (all_further one (seen_in last) [] o.own_seen nothing)) (omega arith)))
