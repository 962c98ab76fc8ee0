use Rattle.std.proofs.Common.{Err, None, Some, ap, arith, refl, length, set, sym, ◌++◌, ◌-◌, ◌<◌, ◌∙◌, ◌≡◌, rules, slice_get}
use Rattle.std.proofs.lemmas.Bool.{ne_eqb}
use Rattle.std.proofs.lemmas.Option.{slice_get-get_or}
use Rattle.world_steps.proofs.Kept.{answered_one, differ, kept_one, kept_then, same_at, same_one}
use Rattle.world_steps.proofs.Places.{back_at, front_at, on_err}
use Rattle.world_steps.proofs.Stores.{with_fault}
use Rattle.world_steps.specs.Standings.{IsLeftAt}
use Rattle.world_steps.proofs.WorldStores.{left_one, left_two, one_failed, stable_from, two_failed}
use Rattle.world_steps.proofs.stepping.keep_at.Goals as goal

pub keep_two-requires-clause-answered : goal.keep_two-requires-clause-answered
keep_two-requires-clause-answered g c =
    let lt : c.args.low - 1 < length c.split_at_mut-left.result.0.now = omega (arith, c.split_at_mut-left.ensures.front_len) in
    let lt2 : 0 < length c.split_at_mut-left.result.1.now = omega (arith, c.split_at_mut-left.ensures.back_len) in
    let front = ap (λ l. slice_get l (c.args.low - 1)) c.split_at_mut-left.ensures.value
    ∙ front_at c.split_at_mut-left.result.0.now c.split_at_mut-left.result.1.now (c.args.low - 1) c.index-left-low.result lt in
    let back = ap (λ l. slice_get l (c.args.high - 1)) c.split_at_mut-left.ensures.value
    ∙ ap (λ m. slice_get (c.split_at_mut-left.result.0.now ++ c.split_at_mut-left.result.1.now) m) (sym c.split_at_mut-left.ensures.front_len)
    ∙ back_at c.split_at_mut-left.result.0.now c.split_at_mut-left.result.1.now c.index-right-0.result lt2 in
    let states = c.requires.ready.1 in
    let ready = c.requires.ready.2 in (
      c.requires.ready.0,
      states c.args.low,
      states c.args.high,
      ready.each _ _ front back,
      differ (states c.args.low).number (states c.args.high).number c.args.low c.args.high (ready.number c.args.low) (ready.number c.args.high)
          (ne_eqb c.args.low c.args.high c.if-low-high.false),
    )

pub returns-in_err-keep_two-clause-err : goal.returns-in_err-keep_two-clause-err
returns-in_err-keep_two-clause-err g c =
    let lt : c.args.low - 1 < length c.split_at_mut-left.result.0.now = omega (arith, c.split_at_mut-left.ensures.front_len) in
    let lt2 : 0 < length c.split_at_mut-left.result.1.now = omega (arith, c.split_at_mut-left.ensures.back_len) in
    on_err c.from_residual-in_err-keep_two.result _
    (same_at g.G.Guardian.stands (c.args.low - 1) (g.R.Forest.stands c.args.forest.now) (g.R.Forest.stands c.keep_two.new.forest) c.args.guardians.now
    c.split_at_mut-left.result.0.now c.split_at_mut-left.result.1.now c.keep_two.new.first c.keep_two.new.second c.index-left-low.result c.index-right-0.result
    c.split_at_mut-left.ensures.value lt lt2 c.in_err-keep_two.ensures.forest_same c.in_err-keep_two.ensures.first_same c.in_err-keep_two.ensures.second_same)

pub returns-in_err-keep_one-clause-err : goal.returns-in_err-keep_one-clause-err
returns-in_err-keep_one-clause-err g c =
    let lt : c.args.low - 1 < length c.args.guardians.now = omega (arith, c.requires.first, c.requires.ordered, c.requires.last) in
    on_err c.from_residual.result _
    (same_one g.G.Guardian.stands (c.args.low - 1) (g.R.Forest.stands c.args.forest.now) (g.R.Forest.stands c.keep_one.new.forest) c.args.guardians.now
    c.keep_one.new.guardian c.index-guardians-low.result lt c.in_err-keep_one.ensures.forest_same c.in_err-keep_one.ensures.guardian_same)

pub returns-clause-ok : goal.returns-clause-ok
returns-clause-ok g c = λ f states ready.
    let lt : c.args.low - 1 < length c.split_at_mut-left.result.0.now = omega (arith, c.split_at_mut-left.ensures.front_len) in
    let lt2 : 0 < length c.split_at_mut-left.result.1.now = omega (arith, c.split_at_mut-left.ensures.back_len) in
    let front = ap (λ l. slice_get l (c.args.low - 1)) c.split_at_mut-left.ensures.value
    ∙ front_at c.split_at_mut-left.result.0.now c.split_at_mut-left.result.1.now (c.args.low - 1) c.index-left-low.result lt in
    let back = ap (λ l. slice_get l (c.args.high - 1)) c.split_at_mut-left.ensures.value
    ∙ ap (λ m. slice_get (c.split_at_mut-left.result.0.now ++ c.split_at_mut-left.result.1.now) m) (sym c.split_at_mut-left.ensures.front_len)
    ∙ back_at c.split_at_mut-left.result.0.now c.split_at_mut-left.result.1.now c.index-right-0.result lt2 in
    let same : c.in_ok-keep_two.field-0 ≡ c.args.number = search rules in
    kept_then g.G.Guardian.stands states c.args.low c.args.high c.in_ok-keep_two.field-0 c.args.number c.args.event.now (g.R.Forest.stands c.keep_two.new.forest) f c.args.guardians.now
    c.split_at_mut-left.result.0.now c.split_at_mut-left.result.1.now c.keep_two.new.first c.keep_two.new.second
    c.split_at_mut-left.ensures.value c.split_at_mut-left.ensures.front_len lt lt2 same
    (c.in_ok-keep_two.ensures.done f (states c.args.low) (states c.args.high) (ready.each _ _ front back))

pub returns-in_err-keep_two-clause-stores : goal.returns-in_err-keep_two-clause-stores
returns-in_err-keep_two-clause-stores g c = λ f states ready.
    let lt : c.args.low - 1 < length c.split_at_mut-left.result.0.now = omega (arith, c.split_at_mut-left.ensures.front_len) in
    let lt2 : 0 < length c.split_at_mut-left.result.1.now = omega (arith, c.split_at_mut-left.ensures.back_len) in
    let front = ap (λ l. slice_get l (c.args.low - 1)) c.split_at_mut-left.ensures.value
    ∙ front_at c.split_at_mut-left.result.0.now c.split_at_mut-left.result.1.now (c.args.low - 1) c.index-left-low.result lt in
    let back = ap (λ l. slice_get l (c.args.high - 1)) c.split_at_mut-left.ensures.value
    ∙ ap (λ m. slice_get (c.split_at_mut-left.result.0.now ++ c.split_at_mut-left.result.1.now) m) (sym c.split_at_mut-left.ensures.front_len)
    ∙ back_at c.split_at_mut-left.result.0.now c.split_at_mut-left.result.1.now c.index-right-0.result lt2 in
    let answered = ready.each _ _ front back in
    let after = set c.split_at_mut-left.result.0.now (c.args.low - 1) c.keep_two.new.first ++ set c.split_at_mut-left.result.1.now 0 c.keep_two.new.second in
    with_fault c.from_residual-in_err-keep_two.result c.in_err-keep_two.field-0.0
    (λ fault. IsLeftAt g.G.Guardian.stored f states c.args.low c.args.high c.args.event.now c.args.guardians.now after fault)
    c.from_residual-in_err-keep_two.ensures.1
    (left_two g.G.Guardian.stored states c.args.low c.args.high c.args.event.now f (Some c.in_err-keep_two.field-0.0) c.args.guardians.now
    c.split_at_mut-left.result.0.now c.split_at_mut-left.result.1.now c.keep_two.new.first c.keep_two.new.second c.index-left-low.result c.index-right-0.result
    c.split_at_mut-left.ensures.value c.split_at_mut-left.ensures.front_len lt lt2 (c.in_err-keep_two.ensures.first_store f (states c.args.low) (states c.args.high) answered)
    (c.in_err-keep_two.ensures.second_store f (states c.args.low) (states c.args.high) answered))

pub returns-clause-stores : goal.returns-clause-stores
returns-clause-stores g c = λ f states ready.
    let lt : c.args.low - 1 < length c.split_at_mut-left.result.0.now = omega (arith, c.split_at_mut-left.ensures.front_len) in
    let lt2 : 0 < length c.split_at_mut-left.result.1.now = omega (arith, c.split_at_mut-left.ensures.back_len) in
    let front = ap (λ l. slice_get l (c.args.low - 1)) c.split_at_mut-left.ensures.value
    ∙ front_at c.split_at_mut-left.result.0.now c.split_at_mut-left.result.1.now (c.args.low - 1) c.index-left-low.result lt in
    let back = ap (λ l. slice_get l (c.args.high - 1)) c.split_at_mut-left.ensures.value
    ∙ ap (λ m. slice_get (c.split_at_mut-left.result.0.now ++ c.split_at_mut-left.result.1.now) m) (sym c.split_at_mut-left.ensures.front_len)
    ∙ back_at c.split_at_mut-left.result.0.now c.split_at_mut-left.result.1.now c.index-right-0.result lt2 in
    let answered = ready.each _ _ front back in
    left_two g.G.Guardian.stored states c.args.low c.args.high c.args.event.now f None c.args.guardians.now
    c.split_at_mut-left.result.0.now c.split_at_mut-left.result.1.now c.keep_two.new.first c.keep_two.new.second c.index-left-low.result c.index-right-0.result
    c.split_at_mut-left.ensures.value c.split_at_mut-left.ensures.front_len lt lt2 (c.in_ok-keep_two.ensures.first_store f (states c.args.low) (states c.args.high) answered)
    (c.in_ok-keep_two.ensures.second_store f (states c.args.low) (states c.args.high) answered)

pub returns-in_err-keep_one-clause-stores : goal.returns-in_err-keep_one-clause-stores
returns-in_err-keep_one-clause-stores g c = λ f states ready.
    let lt : c.args.low - 1 < length c.args.guardians.now = omega (arith, c.requires.first, c.requires.ordered, c.requires.last) in
    let there = slice_get-get_or c.args.guardians.now (c.args.low - 1) c.index-guardians-low.result lt in
    let high = ap (λ n. slice_get c.args.guardians.now (n - 1)) (sym c.if-low-high.true) ∙ there in
    let one = answered_one g.G.Guardian.stands states c.args.low c.args.high c.args.event.now (g.R.Forest.stands c.args.forest.now) f _ c.if-low-high.true (ready.each _ _ there high) in
    let after = set c.args.guardians.now (c.args.low - 1) c.keep_one.new.guardian in
    with_fault c.from_residual.result c.in_err-keep_one.field-0.0
    (λ fault. IsLeftAt g.G.Guardian.stored f states c.args.low c.args.high c.args.event.now c.args.guardians.now after fault)
    c.from_residual.ensures.1
    (left_one g.G.Guardian.stored states c.args.low c.args.high c.args.event.now f (Some c.in_err-keep_one.field-0.0) c.args.guardians.now
    c.keep_one.new.guardian c.index-guardians-low.result c.if-low-high.true lt (c.in_err-keep_one.ensures.store f (states c.args.low) one))

pub returns-then-low-high-clause-stores : goal.returns-then-low-high-clause-stores
returns-then-low-high-clause-stores g c = λ f states ready.
    let lt : c.args.low - 1 < length c.args.guardians.now = omega (arith, c.requires.first, c.requires.ordered, c.requires.last) in
    let there = slice_get-get_or c.args.guardians.now (c.args.low - 1) c.index-guardians-low.result lt in
    let high = ap (λ n. slice_get c.args.guardians.now (n - 1)) (sym c.if-low-high.true) ∙ there in
    let one = answered_one g.G.Guardian.stands states c.args.low c.args.high c.args.event.now (g.R.Forest.stands c.args.forest.now) f _ c.if-low-high.true (ready.each _ _ there high) in
    left_one g.G.Guardian.stored states c.args.low c.args.high c.args.event.now f None c.args.guardians.now
    c.keep_one.new.guardian c.index-guardians-low.result c.if-low-high.true lt (c.in_ok-keep_one.ensures.store f (states c.args.low) one)

pub returns-in_err-keep_two-clause-cause : goal.returns-in_err-keep_two-clause-cause
returns-in_err-keep_two-clause-cause g c =
    λ is.
    let lt : c.args.low - 1 < length c.split_at_mut-left.result.0.now = omega (arith, c.split_at_mut-left.ensures.front_len) in
    let lt2 : 0 < length c.split_at_mut-left.result.1.now = omega (arith, c.split_at_mut-left.ensures.back_len) in
    two_failed g.G.Guardian.stored c.args.guardians.now c.args.low c.split_at_mut-left.result.0.now c.split_at_mut-left.result.1.now c.keep_two.new.first c.keep_two.new.second
    c.index-left-low.result c.index-right-0.result c.split_at_mut-left.ensures.value lt lt2
    (c.in_err-keep_two.ensures.cause
    (stable_from c.from_residual-in_err-keep_two.result c.in_err-keep_two.field-0.0 c.from_residual-in_err-keep_two.ensures.1 is (Err c.in_err-keep_two.field-0.0) refl))

pub returns-in_err-keep_one-clause-cause : goal.returns-in_err-keep_one-clause-cause
returns-in_err-keep_one-clause-cause g c =
    λ is.
    let lt : c.args.low - 1 < length c.args.guardians.now = omega (arith, c.requires.first, c.requires.ordered, c.requires.last) in
    one_failed g.G.Guardian.stored c.args.guardians.now c.args.low c.keep_one.new.guardian c.index-guardians-low.result lt
    (c.in_err-keep_one.ensures.cause
    (stable_from c.from_residual.result c.in_err-keep_one.field-0.0 c.from_residual.ensures.1 is (Err c.in_err-keep_one.field-0.0) refl))

pub keep_one-requires-clause-answered : goal.keep_one-requires-clause-answered
keep_one-requires-clause-answered g c =
    let lt : c.args.low - 1 < length c.args.guardians.now = omega (arith, c.requires.first, c.requires.ordered, c.requires.last) in
    let there = slice_get-get_or c.args.guardians.now (c.args.low - 1) c.index-guardians-low.result lt in
    let high = ap (λ n. slice_get c.args.guardians.now (n - 1)) (sym c.if-low-high.true) ∙ there in
    let states = c.requires.ready.1 in (
      c.requires.ready.0,
      states c.args.low,
      answered_one g.G.Guardian.stands states c.args.low c.args.high c.args.event.now (g.R.Forest.stands c.args.forest.now) c.requires.ready.0 _ c.if-low-high.true
          (c.requires.ready.2.each _ _ there high),
    )

pub returns-then-low-high-clause-ok : goal.returns-then-low-high-clause-ok
returns-then-low-high-clause-ok g c = λ f states ready.
    let lt : c.args.low - 1 < length c.args.guardians.now = omega (arith, c.requires.first, c.requires.ordered, c.requires.last) in
    let there = slice_get-get_or c.args.guardians.now (c.args.low - 1) c.index-guardians-low.result lt in
    let high = ap (λ n. slice_get c.args.guardians.now (n - 1)) (sym c.if-low-high.true) ∙ there in
    let same : c.in_ok-keep_one.field-0 ≡ c.args.number = search rules in
    let one = answered_one g.G.Guardian.stands states c.args.low c.args.high c.args.event.now (g.R.Forest.stands c.args.forest.now) f _ c.if-low-high.true (ready.each _ _ there high) in
    kept_one g.G.Guardian.stands states c.args.low c.args.high c.in_ok-keep_one.field-0 c.args.number c.args.event.now (g.R.Forest.stands c.keep_one.new.forest) f
    c.args.guardians.now c.keep_one.new.guardian c.if-low-high.true lt same (c.in_ok-keep_one.ensures.done f (states c.args.low) one)
