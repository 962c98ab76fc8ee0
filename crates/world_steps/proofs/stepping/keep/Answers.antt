use Rattle.std.proofs.Common.{None, Some, ap, arith, drop, length, subst, sym, ℕ, ◌∙◌, ◌∷◌, ◌≡◌}
use Rattle.std.proofs.lemmas.Bool.{or_left, or_right}
use Rattle.run_laws.proofs.Names.{eqb_self}
use Rattle.layer_contracts.specs.Forests.{ForestState}
use Rattle.layer_contracts.specs.Guardians.{GuardianState}
use Rattle.layer_contracts.specs.declared.guardian.Fault.TheVariants.{Stable}
use Rattle.world_steps.proofs.Stores.{with_fault}
use Rattle.world_steps.specs.Standings.{IsKeptAt, IsReady, IsWorld, StoresLeft, forest_of, standing}
use Rattle.world_steps.proofs.Kept.{more, place_of, ready, same}
use Rattle.world_steps.proofs.Places.{passed_on}
use Rattle.world_steps.proofs.WorldStores.{stores_kept, stores_refused}
use Rattle.world_steps.proofs.stepping.keep.Goals as goal

pub keep_at-kept-requires-clause-first : goal.keep_at-kept-requires-clause-first
keep_at-kept-requires-clause-first g c =
    let e = c.args.event.now in
    (place_of g.G.Guardian.stands c.args.history.now g.opening c.args.guardians.now e c.args.low c.args.high c.args.low
    c.requires.1.1.0 c.requires.1.1.1.1.1.1 c.requires.1.1.1.1.0 (or_left _ _ (eqb_self c.args.low))).0

pub keep_at-kept-requires-clause-last : goal.keep_at-kept-requires-clause-last
keep_at-kept-requires-clause-last g c =
    let e = c.args.event.now in
    (place_of g.G.Guardian.stands c.args.history.now g.opening c.args.guardians.now e c.args.low c.args.high c.args.high
    c.requires.1.1.0 c.requires.1.1.1.1.1.1 c.requires.1.1.1.1.0 (or_right _ _ (eqb_self c.args.high))).1

pub keep_at-kept-requires-clause-ready : goal.keep_at-kept-requires-clause-ready
keep_at-kept-requires-clause-ready g c =
    let e = c.args.event.now in
    let low = place_of g.G.Guardian.stands c.args.history.now g.opening c.args.guardians.now e c.args.low c.args.high c.args.low
    c.requires.1.1.0 c.requires.1.1.1.1.1.1 c.requires.1.1.1.1.0 (or_left _ _ (eqb_self c.args.low)) in
    let high = place_of g.G.Guardian.stands c.args.history.now g.opening c.args.guardians.now e c.args.low c.args.high c.args.high
    c.requires.1.1.0 c.requires.1.1.1.1.1.1 c.requires.1.1.1.1.0 (or_right _ _ (eqb_self c.args.high)) in
    let f : ForestState = forest_of g.opening c.args.history.now in
    let states : ℕ → GuardianState = λ h. standing g.opening c.args.history.now h in
    let prepared : IsReady g.G.Guardian.stands (g.R.Forest.stands c.args.forest.now) f states c.args.low c.args.high e c.args.guardians.now =
    ready g.G.Guardian.stands c.args.history.now g.opening c.args.guardians.now e c.args.low c.args.high c.requires.1.1.0 c.requires.1.1.1.1.0 c.requires.1.1.1.1.1.1 low.0 high.0 in
    (f, states, prepared)

pub ask_number-requires-clause-first : goal.ask_number-requires-clause-first
ask_number-requires-clause-first g c =
    let e = c.args.event.now in
    (place_of g.G.Guardian.stands c.args.history.now g.opening c.args.guardians.now e c.args.low c.args.high c.args.low
    c.requires.1.1.0 c.requires.1.1.1.1.1.1 c.requires.1.1.1.1.0 (or_left _ _ (eqb_self c.args.low))).0

pub ask_number-requires-clause-last : goal.ask_number-requires-clause-last
ask_number-requires-clause-last g c =
    let e = c.args.event.now in
    let low = place_of g.G.Guardian.stands c.args.history.now g.opening c.args.guardians.now e c.args.low c.args.high c.args.low
    c.requires.1.1.0 c.requires.1.1.1.1.1.1 c.requires.1.1.1.1.0 (or_left _ _ (eqb_self c.args.low)) in
    omega (arith, c.keep_at-kept.auto.guardians, low.1)

pub ask_number-requires-2-clause-first : goal.ask_number-requires-2-clause-first
ask_number-requires-2-clause-first g c =
    let e = c.args.event.now in
    (place_of g.G.Guardian.stands c.args.history.now g.opening c.args.guardians.now e c.args.low c.args.high c.args.high
    c.requires.1.1.0 c.requires.1.1.1.1.1.1 c.requires.1.1.1.1.0 (or_right _ _ (eqb_self c.args.high))).0

pub ask_number-requires-2-clause-last : goal.ask_number-requires-2-clause-last
ask_number-requires-2-clause-last g c =
    let e = c.args.event.now in
    let high = place_of g.G.Guardian.stands c.args.history.now g.opening c.args.guardians.now e c.args.low c.args.high c.args.high
    c.requires.1.1.0 c.requires.1.1.1.1.1.1 c.requires.1.1.1.1.0 (or_right _ _ (eqb_self c.args.high)) in
    omega (arith, c.keep_at-kept.auto.guardians, high.1)

pub returns-in_err-push-clause-stores : goal.returns-in_err-push-clause-stores
returns-in_err-push-clause-stores g c =
    let e = c.args.event.now in
    with_fault c.from_residual.result _ (λ fault. StoresLeft g.G.Guardian.stored g.opening c.args.history.now c.args.event.now.step c.args.guardians.now c.args.guardians.now fault)
    c.from_residual.ensures.1
    (stores_refused g.G.Guardian.stored g.opening c.args.history.now c.args.event.now.step c.args.guardians.now g.G.Guardian.stands (g.R.Forest.stands c.args.forest.now) c.requires.1.1.0)

pub returns-in-Ok-clause-stores : goal.returns-in-Ok-clause-stores
returns-in-Ok-clause-stores g c =
    let e = c.args.event.now in
    let low = place_of g.G.Guardian.stands c.args.history.now g.opening c.args.guardians.now e c.args.low c.args.high c.args.low
    c.requires.1.1.0 c.requires.1.1.1.1.1.1 c.requires.1.1.1.1.0 (or_left _ _ (eqb_self c.args.low)) in
    let high = place_of g.G.Guardian.stands c.args.history.now g.opening c.args.guardians.now e c.args.low c.args.high c.args.high
    c.requires.1.1.0 c.requires.1.1.1.1.1.1 c.requires.1.1.1.1.0 (or_right _ _ (eqb_self c.args.high)) in
    let f : ForestState = forest_of g.opening c.args.history.now in
    let states : ℕ → GuardianState = λ h. standing g.opening c.args.history.now h in
    let prepared : IsReady g.G.Guardian.stands (g.R.Forest.stands c.args.forest.now) f states c.args.low c.args.high e c.args.guardians.now =
    ready g.G.Guardian.stands c.args.history.now g.opening c.args.guardians.now e c.args.low c.args.high c.requires.1.1.0 c.requires.1.1.1.1.0 c.requires.1.1.1.1.1.1 low.0 high.0 in
    stores_kept c.args.history.now g.opening c.args.guardians.now c.keep_at-kept.new.guardians e c.args.low c.args.high None
    c.requires.1.1.1.1.0 c.requires.1.1.1.1.1.1 low.0 high.0
    (c.in-Ok.ensures.stores f states prepared)

pub returns-in-Err-clause-stores : goal.returns-in-Err-clause-stores
returns-in-Err-clause-stores g c =
    let e = c.args.event.now in
    let low = place_of g.G.Guardian.stands c.args.history.now g.opening c.args.guardians.now e c.args.low c.args.high c.args.low
    c.requires.1.1.0 c.requires.1.1.1.1.1.1 c.requires.1.1.1.1.0 (or_left _ _ (eqb_self c.args.low)) in
    let high = place_of g.G.Guardian.stands c.args.history.now g.opening c.args.guardians.now e c.args.low c.args.high c.args.high
    c.requires.1.1.0 c.requires.1.1.1.1.1.1 c.requires.1.1.1.1.0 (or_right _ _ (eqb_self c.args.high)) in
    let f : ForestState = forest_of g.opening c.args.history.now in
    let states : ℕ → GuardianState = λ h. standing g.opening c.args.history.now h in
    let prepared : IsReady g.G.Guardian.stands (g.R.Forest.stands c.args.forest.now) f states c.args.low c.args.high e c.args.guardians.now =
    ready g.G.Guardian.stands c.args.history.now g.opening c.args.guardians.now e c.args.low c.args.high c.requires.1.1.0 c.requires.1.1.1.1.0 c.requires.1.1.1.1.1.1 low.0 high.0 in
    stores_kept c.args.history.now g.opening c.args.guardians.now c.keep_at-kept.new.guardians e c.args.low c.args.high (Some c.in-Err.fault)
    c.requires.1.1.1.1.0 c.requires.1.1.1.1.1.1 low.0 high.0
    (c.in-Err.ensures.stores f states prepared)

pub returns-in-Err-clause-world : goal.returns-in-Err-clause-world
returns-in-Err-clause-world g c =
    let e = c.args.event.now in
    let stands = g.R.Forest.stands c.keep_at-kept.new.forest in
    let gs = c.args.guardians.now in
    let gs' = c.keep_at-kept.new.guardians in
    let len : length gs' ≡ length gs = omega (arith, c.keep_at-kept.auto.guardians) in
    let k = c.in-Err.ensures.err in
    let low = place_of g.G.Guardian.stands c.args.history.now g.opening gs e c.args.low c.args.high c.args.low
    c.requires.1.1.0 c.requires.1.1.1.1.1.1 c.requires.1.1.1.1.0 (or_left _ _ (eqb_self c.args.low)) in
    let high = place_of g.G.Guardian.stands c.args.history.now g.opening gs e c.args.low c.args.high c.args.high
    c.requires.1.1.0 c.requires.1.1.1.1.1.1 c.requires.1.1.1.1.0 (or_right _ _ (eqb_self c.args.high)) in
    let f : ForestState = forest_of g.opening c.args.history.now in
    let states : ℕ → GuardianState = λ h. standing g.opening c.args.history.now h in
    let prepared : IsReady g.G.Guardian.stands (g.R.Forest.stands c.args.forest.now) f states c.args.low c.args.high e gs =
    ready g.G.Guardian.stands c.args.history.now g.opening gs e c.args.low c.args.high c.requires.1.1.0 c.requires.1.1.1.1.0 c.requires.1.1.1.1.1.1 low.0 high.0 in
    subst (λ h. IsWorld g.G.Guardian.stands g.G.Guardian.stored stands g.opening h gs')
    (sym (c.pop.ensures ∙ ap (λ past. drop 1 past) c.in_ok-push.ensures.ok))
    (same g.G.Guardian.stands stands c.args.history.now g.opening gs gs' c.args.low c.args.high c.requires.1.1.0 len k
    (c.in-Err.ensures.stores f states prepared).others c.ask_number.ensures c.ask_number-2.ensures)

pub returns-in-Ok-clause-world : goal.returns-in-Ok-clause-world
returns-in-Ok-clause-world g c =
    let e = c.args.event.now in
    let stands = g.R.Forest.stands c.keep_at-kept.new.forest in
    let gs = c.args.guardians.now in
    let gs' = c.keep_at-kept.new.guardians in
    let len : length gs' ≡ length gs = omega (arith, c.keep_at-kept.auto.guardians) in
    let number : c.next_stamp-number.result ≡ length (e ∷ c.args.history.now) = c.next_stamp-number.ensures in
    let k = c.in-Ok.ensures.ok in
    let low = place_of g.G.Guardian.stands c.args.history.now g.opening gs e c.args.low c.args.high c.args.low
    c.requires.1.1.0 c.requires.1.1.1.1.1.1 c.requires.1.1.1.1.0 (or_left _ _ (eqb_self c.args.low)) in
    let high = place_of g.G.Guardian.stands c.args.history.now g.opening gs e c.args.low c.args.high c.args.high
    c.requires.1.1.0 c.requires.1.1.1.1.1.1 c.requires.1.1.1.1.0 (or_right _ _ (eqb_self c.args.high)) in
    let f : ForestState = forest_of g.opening c.args.history.now in
    let states : ℕ → GuardianState = λ h. standing g.opening c.args.history.now h in
    let prepared : IsReady g.G.Guardian.stands (g.R.Forest.stands c.args.forest.now) f states c.args.low c.args.high e gs =
    ready g.G.Guardian.stands c.args.history.now g.opening gs e c.args.low c.args.high c.requires.1.1.0 c.requires.1.1.1.1.0 c.requires.1.1.1.1.1.1 low.0 high.0 in
    subst (λ h. IsWorld g.G.Guardian.stands g.G.Guardian.stored stands g.opening h gs')
    (sym c.in_ok-push.ensures.ok)
    (more g.G.Guardian.stands stands c.args.history.now g.opening gs gs' e c.args.low c.args.high
    c.requires.1.1.0 c.requires.1.1.1.1.0 c.requires.1.1.1.1.1.1 low.0 high.0 low.1 high.1 len
    (subst (λ n. IsKeptAt g.G.Guardian.stands stands f states c.args.low c.args.high n e gs gs') number
    (k f states prepared))
    c.ask_number.ensures c.ask_number-2.ensures)

pub returns-in-Err-clause-cause : goal.returns-in-Err-clause-cause
returns-in-Err-clause-cause g c = λ is. c.in-Err.ensures.cause (passed_on c.in-Err.fault Stable is)
