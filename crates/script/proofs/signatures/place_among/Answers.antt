use Rattle.std.proofs.Common.{◌-◌, sym, ap, ◌∙◌, arith}
use Rattle.values.specs.Words.{same_bytes}
use Rattle.script.proofs.Numbered.{place_in, place_among-keys, place_in-full, place_in-here, place_in-later, place_in-end}
use Rattle.script.proofs.signatures.place_among.Goals as goal

pub loop-other-preserved : goal.loop-other-preserved
loop-other-preserved c =
    let l = c.loop-other in
    let name = c.args.name.now in
    let other = sym c.if-eq.false ∙ c.eq.ensures ∙ ap (λ n. same_bytes n name) c.as_str.ensures.value in
    let later = place_in-later l.place name c.in-Some.other.now c.next.new.self (omega arith) (sym other) in
    (omega arith, omega (arith, later, ap (place_in (64 - l.place) name) c.in-Some.ensures.steps, l.invariant.1))

pub returns-then-eq : goal.returns-then-eq
returns-then-eq c =
    let l = c.loop-other in
    let name = c.args.name.now in
    let same = sym c.if-eq.true ∙ c.eq.ensures ∙ ap (λ n. same_bytes n name) c.as_str.ensures.value in
    let here = place_in-here l.place name c.in-Some.other.now c.next.new.self (omega arith) (sym same) in
    omega (arith, here, ap (place_in (64 - l.place) name) c.in-Some.ensures.steps, l.invariant.1, place_among-keys 64 name c.args.handlers.now.entries)

pub returns-then-place-eq-MAX_HANDLERS : goal.returns-then-place-eq-MAX_HANDLERS
returns-then-place-eq-MAX_HANDLERS c =
    let l = c.loop-other in
    omega (arith, place_among-keys 64 c.args.name.now c.args.handlers.now.entries, place_in-full (64 - l.place) c.args.name.now l.other-iterator (omega arith))

pub returns : goal.returns
returns c =
    let l = c.loop-other in
    omega (arith, place_among-keys 64 c.args.name.now c.args.handlers.now.entries, place_in-end (64 - l.place) c.args.name.now, ap (place_in (64 - l.place) c.args.name.now) c.in-None.ensures.steps.0)
