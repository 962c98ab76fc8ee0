-- The stamps that a lock keeps rise.
use Rattle.std.proofs.Common.{Bool, List, [], arith, cond, false, get_or, inl, inr, length, map, refl, reverse, sym, subst, suc, true, zero, ℕ, ap, ◌++◌, ◌+◌, ◌<◌, ◌≤◌, ◌∙◌, ◌∷◌, ◌≡◌}
use Rattle.std.proofs.Math.ListN.{get_or-append}
use Rattle.std.proofs.Math.Seq.{get_or-append_seam}
use Rattle.std.proofs.lemmas.Bool.{cases_lt}
use Rattle.std.proofs.lemmas.List.{length-append, reverse-append}
use Rattle.std.proofs.lemmas.List.Elements.{All-append}
use Rattle.run_model.specs.declared.history.Event.{Event}
use Rattle.run_model.specs.LocalHistories.{RegistryEvent, Stamped, events_of, local_history, names_guardian, numbered, registry_history, takes_registry}
use Rattle.run_model.specs.LocalReadings.{LocalEvent}
use Rattle.run_model.specs.Openings.{Opening}
use Rattle.locked_run.specs.Stored.{RiseTo, StampsRise, guardian_events, registry_events, stamps_of}

longer : (n m : ℕ) (ks : List ℕ) → RiseTo n ks → n < m → RiseTo m (ks ++ m ∷ [])
longer n m ks r lt = record {
  rise = λ k h. step k (let all = length-append ks (m ∷ []) in omega arith);
  last = All-append (λ k. k ≤ m) ks (m ∷ []) (λ k d h. let below = r.last k d h in omega arith) (λ k d h. only k d h);
}
  where
    only : (k d : ℕ) → k < 1 → get_or (m ∷ []) k d ≤ m
    only zero d h = omega arith
    only (suc k) d h = absurd (omega arith)

    step : (k : ℕ) → k + 1 ≤ length ks → get_or (ks ++ m ∷ []) k 0 < get_or (ks ++ m ∷ []) (k + 1) 0
    step k h = elim (cases_lt (k + 1) (length ks)) [
      | inl below ↦
          let here : k < length ks = omega arith in
          let a = get_or-append ks (m ∷ []) 0 k here in
          let b = get_or-append ks (m ∷ []) 0 (k + 1) below in
          let c = r.rise k below in
          omega arith
      | inr past ↦
          let last : k + 1 ≡ length ks = omega arith in
          let here : k < length ks = omega arith in
          let a = get_or-append ks (m ∷ []) 0 k here in
          let b = ap (λ i. get_or (ks ++ m ∷ []) i 0) last ∙ get_or-append_seam ks m [] 0 in
          let c = r.last k 0 here in
          omega arith
    ]

rises_more : {X : Type 0} (f : X → Stamped) (t : Bool) (n : ℕ) (x : X) (xs : List X) → (f x).0 ≡ suc n → RiseTo n (stamps_of (map f xs))
    → RiseTo (suc n) (stamps_of (map f (cond t (x ∷ xs) xs)))
rises_more f true n x xs is r =
    let stamps : List ℕ = map (λ s. s.0) (map f xs) in
    subst (λ l. RiseTo (suc n) l) (sym (reverse-append ((f x).0 ∷ []) stamps))
    (subst (λ m. RiseTo (suc n) (reverse stamps ++ m ∷ [])) (sym is) (longer n (suc n) (reverse stamps) r (omega arith)))
rises_more f false n x xs is r = record { rise = r.rise; last = λ k d h. let below = r.last k d h in omega arith }

none_rise : RiseTo 0 []
none_rise = record { rise = λ k h. absurd (omega arith); last = λ k d h. absurd (omega arith) }

guardians_rise : (opening : Opening) (past : List Event) (g : ℕ) → RiseTo (length past) (stamps_of (guardian_events opening past g))
guardians_rise opening [] g = none_rise
guardians_rise opening (e ∷ past) g =
    rises_more (λ (x : LocalEvent). (x.stamp, x.event)) (names_guardian e.step (events_of (numbered past)) g) (length past) _
    (local_history opening (numbered past) g) refl (guardians_rise opening past g)

registry_rises : (opening : Opening) (past : List Event) → RiseTo (length past) (stamps_of (registry_events opening past))
registry_rises opening [] = none_rise
registry_rises opening (e ∷ past) =
    rises_more (λ (x : RegistryEvent). (x.stamp, x.event)) (takes_registry e.step) (length past) _ (registry_history opening (numbered past)) refl
    (registry_rises opening past)

pub stamps_rise : StampsRise
stamps_rise opening past = ((λ g. guardians_rise opening past g), registry_rises opening past)
