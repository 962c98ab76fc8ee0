-- What came of senders, counted up to a bound.
use Rattle.std.proofs.Common.{Bool, List, Option, Some, ap, arith, cond, eqb-true, false, length, min, refl, take, true, ℕ, ◌&&◌, ◌+◌, ◌-◌, ◌==◌, ◌∙◌, ◌≡◌, ◌≤◌}
use Rattle.run_model.specs.LocalReadings.{after_first}
use Rattle.orphans.specs.Sending.{counted, most, or_nothing, same_place}
use Rattle.orphans.specs.declared.sent.Came.{Came}

-- what stands in front of the entries that came, where as many are counted as there are
pub unsent : {X : Type 0} (xs ys : List X) (n had count bound : ℕ) → xs ≡ ys → had ≡ min n bound → length xs ≤ bound → count ≡ length xs - had
    → take count xs ≡ after_first n ys
unsent xs ys n had count bound same is short counts =
    let many : count ≡ length ys - n = omega (arith, ap length same, is, short, counts) in
    λ i. take (many i) (same i)

-- more came, or not
pub more_aborts : (b : Bool) (old : Came) (n m s bound : ℕ) → old.aborts ≡ min s bound
    → (cond b (record { aborts = min (old.aborts + n) bound; counts = m }) old).aborts ≡ min (cond b n 0 + s) bound
more_aborts true old n m s bound is = omega (arith, is)
more_aborts false old n m s bound is = omega (arith, is)

pub more_counts : (b : Bool) (old : Came) (n m s bound : ℕ) → old.counts ≡ min s bound
    → (cond b (record { aborts = m; counts = min (old.counts + n) bound }) old).counts ≡ min (cond b n 0 + s) bound
more_counts true old n m s bound is = omega (arith, is)
more_counts false old n m s bound is = omega (arith, is)

-- where none came, as many are counted as were
pub none_more : (b : Bool) (old : Came) (s t bound : ℕ) → old.aborts ≡ min s bound → old.counts ≡ min t bound
    → old ≡ cond b (record { aborts = min (old.aborts + 0) bound; counts = min (old.counts + 0) bound }) old
none_more true old s t bound aborts counts =
    let same_aborts : old.aborts ≡ min (old.aborts + 0) bound = omega (arith, aborts) in
    let same_counts : old.counts ≡ min (old.counts + 0) bound = omega (arith, counts) in
    λ i. record { aborts = same_aborts i; counts = same_counts i }
none_more false old s t bound aborts counts = refl

-- more is counted at the sender's place alone
and_true : (a b : Bool) → (a && b) ≡ true → (a ≡ true) × (b ≡ true)
and_true true b h = (refl, h)
and_true false b h = absurd (cc)

pub counted_more : (came : ℕ → ℕ → Came) (k life h present : ℕ) (o : Option Came) (more : Came) (aborts counts : ℕ)
    → more ≡ record { aborts = min ((came k life).aborts + aborts) most; counts = min ((came k life).counts + counts) most }
    → or_nothing o ≡ came h present
    → or_nothing (cond (same_place (k, life) (h, present)) (Some more) o) ≡ counted (Some k) life aborts counts came h present
counted_more came k life h present o more aborts counts is rest = of ((k == h) && (life == present)) refl
  where
    of : (b : Bool) → ((k == h) && (life == present)) ≡ b
        → or_nothing (cond b (Some more) o)
        ≡ cond b (record { aborts = min ((came h present).aborts + aborts) most; counts = min ((came h present).counts + counts) most }) (came h present)
    of true same =
        let parts = and_true (k == h) (life == present) same in
        let sender : k ≡ h = eqb-true k h parts.0 in
        let alive : life ≡ present = eqb-true life present parts.1 in
        is ∙ (λ i. record { aborts = min ((came (sender i) (alive i)).aborts + aborts) most; counts = min ((came (sender i) (alive i)).counts + counts) most })
    of false other = rest
