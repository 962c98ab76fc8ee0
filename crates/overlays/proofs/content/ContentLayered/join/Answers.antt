use Rattle.std.proofs.Common.{◌≡◌, ◌⊎◌, inl, inr, true, false, sym, ◌∙◌, refl, subst}
use Rattle.overlays.specs.Overlays.{MayJoin}
use Rattle.overlays.specs.ContentOverlays.{laid_content, ContentFits, is_something, is_whole}
use Rattle.overlays.proofs.ContentJoins.{joined_upper, not_something, may_join_records, may_join_variants, may_join_counters, both_ok, either_ok, fit_joined, fits_replaced, joined_replaced, joined_records, joined_arrays, joined_variants, joined_counters, covers_nothing, covers_as}
use Rattle.overlays.proofs.ContentNotes.{record_covers, array_covers, variant_covers, counter_covers, covers_counter}
use Rattle.overlays.specs.declared.content.ContentOverlay.TheVariants as over
use Rattle.overlays.proofs.content.ContentLayered.join.Goals as goal
use Rattle.overlays.proofs.content.ContentLayered.join.Goals.{in_default-Nothing, in-Record-Record, in-Array-Array, in-Variant-Variant, in-Counter-Counter, then-is_nothing-via-then-is_nothing, then-is_nothing-via-else-is_nothing+then-is_whole}

pub returns-then-is_nothing-clause-fits : goal.returns-then-is_nothing-clause-fits
returns-then-is_nothing-clause-fits c = λ x low high.
    let l = c.args.lower.now in
    let u = c.args.upper.now in
    let all : (is_something l ≡ false) ⊎ (is_whole u ≡ true) = elim c.then-is_nothing.branch [
      | then-is_nothing-via-then-is_nothing w ↦ inl (not_something l (sym c.is_nothing.ensures ∙ w.if-is_nothing.true))
      | then-is_nothing-via-else-is_nothing+then-is_whole w ↦ inr (sym w.is_whole.ensures ∙ w.if-is_whole.true)
    ] in
    subst (ContentFits x) (sym c.in_ok-lower.ensures) (joined_upper l u all x low high).1

pub join-requires : goal.join-requires
join-requires c =
    may_join_records c.in-Record-Record.below c.in-Record-Record.above
    (subst (MayJoin laid_content ContentFits (over.Record c.in-Record-Record.below)) c.in-Record-Record.is-1 (subst (λ l. MayJoin laid_content ContentFits l c.args.upper.now) c.in-Record-Record.is-0 c.requires))

pub join-requires-in-Variant-Variant : goal.join-requires-in-Variant-Variant
join-requires-in-Variant-Variant c =
    may_join_variants c.in-Variant-Variant.below c.in-Variant-Variant.above
    (subst (MayJoin laid_content ContentFits (over.Variant c.in-Variant-Variant.below)) c.in-Variant-Variant.is-1 (subst (λ l. MayJoin laid_content ContentFits l c.args.upper.now) c.in-Variant-Variant.is-0 c.requires))

pub join-requires-in-Counter-Counter : goal.join-requires-in-Counter-Counter
join-requires-in-Counter-Counter c =
    may_join_counters c.in-Counter-Counter.below c.in-Counter-Counter.above
    (subst (MayJoin laid_content ContentFits (over.Counter c.in-Counter-Counter.below)) c.in-Counter-Counter.is-1 (subst (λ l. MayJoin laid_content ContentFits l c.args.upper.now) c.in-Counter-Counter.is-0 c.requires))

pub returns-clause-fits : goal.returns-clause-fits
returns-clause-fits c =
    let l = c.args.lower.now in
    let u = c.args.upper.now in
    elim c.match-upper.branch [
      | in_default-Nothing w ↦ rw w.result-is (λ x low high. subst (ContentFits x) (sym w.lower-is) low)
      | in-Record-Record w ↦ rw w.result-is
          (both_ok w.join.result (λ same fits. fit_joined l u _ _ _ _ w.in-Record-Record.is-0 w.in-Record-Record.is-1 w.lower-is (joined_records w.in-Record-Record.below w.in-Record-Record.above w.join.new.lower same fits))
          w.join.ensures.joined w.join.ensures.fits)
      | in-Array-Array w ↦ rw w.result-is
          (both_ok w.join-in-Array-Array.result (λ same fits. fit_joined l u _ _ _ _ w.in-Array-Array.is-0 w.in-Array-Array.is-1 w.lower-is (joined_arrays w.in-Array-Array.below w.in-Array-Array.above w.join-in-Array-Array.new.lower same fits))
          w.join-in-Array-Array.ensures.joined w.join-in-Array-Array.ensures.fits)
      | in-Variant-Variant w ↦ rw w.result-is
          (both_ok w.join-in-Variant-Variant.result (λ same fits. fit_joined l u _ _ _ _ w.in-Variant-Variant.is-0 w.in-Variant-Variant.is-1 w.lower-is (joined_variants w.in-Variant-Variant.below w.in-Variant-Variant.above w.join-in-Variant-Variant.new.lower same fits))
          w.join-in-Variant-Variant.ensures.joined w.join-in-Variant-Variant.ensures.fits)
      | in-Counter-Counter w ↦ rw w.result-is
          (either_ok w.join-in-Counter-Counter.result (λ h. fit_joined l u _ _ _ _ w.in-Counter-Counter.is-0 w.in-Counter-Counter.is-1 w.lower-is (joined_counters w.in-Counter-Counter.below w.in-Counter-Counter.above w.join-in-Counter-Counter.new.lower h))
          w.join-in-Counter-Counter.ensures.joined)
    ]

pub returns-clause-covers : goal.returns-clause-covers
returns-clause-covers c =
    let l = c.args.lower.now in
    let u = c.args.upper.now in
    elim c.match-upper.branch [
      | in_default-Nothing w ↦ rw w.result-is (covers_nothing u c.match-upper.lower _ w.in_default-Nothing.is-1)
      | in-Record-Record w ↦ rw w.result-is (either_ok w.join.result (λ h. covers_as u _ u _ refl w.lower-is (λ k. record_covers _)) w.join.ensures.joined)
      | in-Array-Array w ↦ rw w.result-is (either_ok w.join-in-Array-Array.result (λ h. covers_as u _ u _ refl w.lower-is (λ k. array_covers _)) w.join-in-Array-Array.ensures.joined)
      | in-Variant-Variant w ↦ rw w.result-is (either_ok w.join-in-Variant-Variant.result (λ h. covers_as u _ u _ refl w.lower-is (λ k. variant_covers _)) w.join-in-Variant-Variant.ensures.joined)
      | in-Counter-Counter w ↦ rw w.result-is
          (either_ok w.join-in-Counter-Counter.result (λ h. covers_as u _ _ _ w.in-Counter-Counter.is-1 w.lower-is (λ k. counter_covers _ (h (covers_counter _ k)))) w.join-in-Counter-Counter.ensures.covers)
    ]

pub returns-in-Replaced-clause-fits : goal.returns-in-Replaced-clause-fits
returns-in-Replaced-clause-fits c =
    let l = c.args.lower.now in
    let u = c.args.upper.now in
    let d = c.in-Replaced.content in
    let fits = fits_replaced d u (subst (λ k. MayJoin laid_content ContentFits k u) c.in-Replaced.is c.requires) in
    either_ok c.lay.result (λ e. fit_joined l u (over.Replaced d) u (over.Replaced c.lay.new.self) (over.Replaced c.lay.new.self) c.in-Replaced.is refl refl
    (joined_replaced d c.lay.new.self u fits e)) c.lay.ensures.ok
