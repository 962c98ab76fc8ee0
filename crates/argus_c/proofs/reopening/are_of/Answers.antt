use Rattle.std.proofs.Common.{◌∙◌, arith, refl, sym}
use Rattle.std.proofs.lemmas.Bool.{false≢true}
use Rattle.std.proofs.lemmas.List.{length-map}
use Rattle.stable_store.specs.Calls.{View}
use Rattle.stable_store.specs.Held.{held}
use Rattle.stable_store.specs.Plain.{kept_in_memory}
use Rattle.stable_store.specs.declared.kept.Kept.{Kept}
use Rattle.store_recovery.proofs.Fitting.{all_do, belong_more, one_does_not}
use Rattle.argus_c.proofs.reopening.are_of.Goals as goal

-- a store with such a content
abbrev seen : Kept → View
seen k = kept_in_memory (held k) 0

pub loop-guardian-preserved : goal.loop-guardian-preserved
loop-guardian-preserved c =
    belong_more seen c.args.setup.now c.args.left.now c.loop-guardian.guardian c.index-left-guardian.result c.belongs.result (omega arith)
    c.index-left-guardian.is c.belongs.ensures (omega arith) c.if-not-belongs.false c.loop-guardian.invariant

pub returns-then-left-guardians : goal.returns-then-left-guardians
returns-then-left-guardians c =
    let long = length-map c.args.left.now held in
    (λ e. absurd (false≢true e), λ h. absurd (omega (arith, long, h.0)))

pub returns-then-not-belongs : goal.returns-then-not-belongs
returns-then-not-belongs c =
    let none =
    one_does_not seen c.args.setup.now c.args.left.now c.loop-guardian.guardian c.index-left-guardian.result c.belongs.result (omega arith)
    c.index-left-guardian.is c.belongs.ensures c.if-not-belongs.true c.loop-guardian.invariant in
    (λ e. absurd (false≢true e), λ h. absurd (false≢true (none ∙ h.1)))

pub returns-else-left-guardians : goal.returns-else-left-guardians
returns-else-left-guardians c =
    let long = length-map c.args.left.now held in
    (λ e. (omega (arith, long), sym (all_do seen c.args.setup.now c.args.left.now c.loop-guardian.guardian (omega arith) c.loop-guardian.invariant)), λ h. refl)
