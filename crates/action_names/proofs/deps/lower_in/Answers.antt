use Rattle.std.proofs.Common.{◌≡◌, ℕ, List, min, ap, get_or, length, length-set, set, sym, ◌∙◌}
use Rattle.std.specs.List.{refill}
use Rattle.action_names.specs.Deps.{lowered, least_at, with_least, IsAt}
use Rattle.action_names.proofs.Entries.{least_at-found, refill_same, least_at-absent, with_least-found, with_least-absent, rising_with_least}
use Rattle.action_names.proofs.deps.lower_in.Goals as goal

-- the entry is written over
pub returns-in-Ok-clause-ok : goal.returns-in-Ok-clause-ok
returns-in-Ok-clause-ok c =
    let es = c.args.least.now.items in
    let g = c.args.guardian in
    let at = c.in-Ok.at in
    let found : IsAt es g at = rw c.as_slice.ensures at c.in-Ok.ensures.found in
    let lower = lowered (least_at es g) c.args.incarnation in
    let least : c.min-entry.result ≡ lower =
    c.min-entry.ensures ∙ ap (λ (xs : List (ℕ × ℕ)). min (get_or {A = ℕ × ℕ} xs at (0, 0)).1 c.args.incarnation) c.as_mut_slice.ensures.value
    ∙ ap (λ o. lowered o c.args.incarnation) (sym (least_at-found es g at c.requires found (0, 0))) in
    let written : set c.as_mut_slice.result.now at ((get_or {A = ℕ × ℕ} c.as_mut_slice.result.now at (0, 0)).0, c.min-entry.result) ≡ with_least es g lower =
    rw (c.as_mut_slice.ensures.value, least) (ap (λ k. set es at (k, lower)) found.same ∙ sym (with_least-found es g lower at c.requires found)) in
    ap (λ ws. refill (length es) es ws) written ∙ refill_same es (with_least es g lower) (ap length (with_least-found es g lower at c.requires found) ∙ length-set es at (g, lower))

pub returns-in-Ok-clause-rising : goal.returns-in-Ok-clause-rising
returns-in-Ok-clause-rising c =
    let es = c.args.least.now.items in
    rw (returns-in-Ok-clause-ok c) (rising_with_least es c.args.guardian (lowered (least_at es c.args.guardian) c.args.incarnation) c.requires)

-- a new entry goes into the gap
pub returns-in_ok-insert-in-Err-clause-ok : goal.returns-in_ok-insert-in-Err-clause-ok
returns-in_ok-insert-in-Err-clause-ok c =
    let es = c.args.least.now.items in
    let gap = rw c.as_slice.ensures at c.in-Err.ensures.absent in
    rw (c.in_ok-insert-in-Err.ensures.ok, least_at-absent es c.args.guardian c.in-Err.at gap) (sym (with_least-absent es c.args.guardian c.args.incarnation c.in-Err.at gap))

pub returns-in_ok-insert-in-Err-clause-rising : goal.returns-in_ok-insert-in-Err-clause-rising
returns-in_ok-insert-in-Err-clause-rising c =
    let es = c.args.least.now.items in
    rw (returns-in_ok-insert-in-Err-clause-ok c) (rising_with_least es c.args.guardian (lowered (least_at es c.args.guardian) c.args.incarnation) c.requires)

-- memory fails only for a guardian that is new
pub returns-in_err-insert-in-Err-clause-known : goal.returns-in_err-insert-in-Err-clause-known
returns-in_err-insert-in-Err-clause-known c known =
    cc (rw (least_at-absent c.args.least.now.items c.args.guardian c.in-Err.at (rw c.as_slice.ensures at c.in-Err.ensures.absent)) at known)
