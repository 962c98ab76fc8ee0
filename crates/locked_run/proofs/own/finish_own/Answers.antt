use Rattle.std.proofs.Common.{ap, is_some, refl, subst, suc, sym, ◌∙◌, ◌∷◌}
use Rattle.one_run.specs.Pieces.{seen_of}
use Rattle.one_run.specs.Rules.{Adds}
use Rattle.run_model.specs.Runs.{IsRun}
use Rattle.layer_contracts.specs.Guardians.{event_of}
use Rattle.layer_contracts.specs.declared.guardian.Fault.TheVariants.{Memory}
use Rattle.shared_run.specs.Places.{touches}
use Rattle.locked_run.specs.Acting.{HasMoved, StoreAfter, kept_outcome}
use Rattle.locked_run.specs.Acting.Outcome.{failed, taken}
use Rattle.locked_run.specs.Stored.{guardian_events}
use Rattle.locked_run.proofs.Acted.{err_is, moved_only, moved_then, ok_is, seen_rest, store_refused, store_then}
use Rattle.locked_run.proofs.ByItself.{recorded}
use Rattle.locked_run.proofs.Recorded.{on_err, on_ok, settled_back, settled_kept}
use Rattle.locked_run.proofs.own.finish_own.Goals as goal

pub returns-then-not-is_accepted-clause-moved : goal.returns-then-not-is_accepted-clause-moved
returns-then-not-is_accepted-clause-moved g c = moved_only (taken _) (ap is_some c.without_event.ensures.receipt) c.requires.here.seen

pub returns-in-Err-clause-moved : goal.returns-in-Err-clause-moved
returns-in-Err-clause-moved g c =
    let v = c.args.part.token.me.0 in
    subst (λ w. HasMoved (failed c.in-Err.fault) v w) (sym (err_is _ c.in-Err.is c.keep_own-part.ensures.same))
    (moved_only (failed c.in-Err.fault) refl c.requires.here.seen)

pub returns-in-Ok-clause-moved : goal.returns-in-Ok-clause-moved
returns-in-Ok-clause-moved g c =
    let o = g.K.OfRun.opening in
    let v = c.args.part.token.me.0 in
    let w = c.keep_own-part.result.0.token.me.0 in
    let adds = ok_is (λ n. Adds (IsRun o) touches (event_of c.args.step.now c.args.answer) v n w) c.in-Ok.is c.keep_own-part.ensures.added in
    moved_then o c.args.step.now c.args.answer (suc c.args.number) c.requires.here.place adds c.receipted-part.ensures.rest c.receipted-part.ensures.receipt

pub returns-in-Ok-clause-store : goal.returns-in-Ok-clause-store
returns-in-Ok-clause-store g c =
    let o = g.K.OfRun.opening in
    let v = c.args.part.token.me.0 in
    let w = c.keep_own-part.result.0.token.me.0 in
    let adds = ok_is (λ n. Adds (IsRun o) touches (event_of c.args.step.now c.args.answer) v n w) c.in-Ok.is c.keep_own-part.ensures.added in
    let old = g.G.Guardian.stored c.args.guardian.now in
    let new = g.G.Guardian.stored c.keep_own-part.new.guardian in
    store_then o c.args.step.now c.args.answer (suc c.args.number) c.requires.here.place adds c.receipted-part.ensures.rest c.receipted-part.ensures.receipt c.args.number old new
    (subst (λ r. StoreAfter o c.args.step.now (kept_outcome r) (seen_of w) c.args.number old new) c.in-Ok.is c.keep_own-part.ensures.store)

-- no room to record it
pub returns-then-is_err-clause-moved : goal.returns-then-is_err-clause-moved
returns-then-is_err-clause-moved g c = moved_only (failed Memory) refl c.requires.here.seen

pub returns-then-is_err-clause-kept : goal.returns-then-is_err-clause-kept
returns-then-is_err-clause-kept g c = on_err c.push.result _ (sym c.is_err.ensures.value ∙ c.if-is_err.true) c.push.ensures.err ∙ c.requires.kept

pub returns-then-is_err-clause-store : goal.returns-then-is_err-clause-store
returns-then-is_err-clause-store g c =
    store_refused g.K.OfRun.opening c.args.step.now (seen_of c.args.part.token.me.0) c.args.number (g.G.Guardian.stored c.args.guardian.now) c.requires.store.1

-- recorded, and not kept
pub returns-in-Err-clause-kept : goal.returns-in-Err-clause-kept
returns-in-Err-clause-kept g c =
    let pushed = on_ok c.push.result _ (sym c.is_err.ensures.value ∙ c.if-is_err.false) c.push.ensures.ok in
    settled_back c.in-Err.is pushed c.settle.ensures ∙ c.requires.kept
    ∙ ap (λ u. guardian_events g.K.OfRun.opening (seen_of u) c.args.number) (sym (err_is _ c.in-Err.is c.keep_own-part.ensures.same))

pub returns-in-Ok-clause-kept : goal.returns-in-Ok-clause-kept
returns-in-Ok-clause-kept g c =
    let o = g.K.OfRun.opening in
    let v = c.args.part.token.me.0 in
    let w = c.keep_own-part.result.0.token.me.0 in
    let step = c.args.step.now in
    let answer = c.args.answer in
    let h = c.requires.here in
    let adds = ok_is (λ n. Adds (IsRun o) touches (event_of step answer) v n w) c.in-Ok.is c.keep_own-part.ensures.added in
    let r : IsRun o (event_of step answer ∷ seen_of v) = (c.requires.answered, sym c.is_accepted.ensures ∙ c.if-not-is_accepted.false, h.run) in
    let pushed = on_ok c.push.result _ (sym c.is_err.ensures.value ∙ c.if-is_err.false) c.push.ensures.ok in
    recorded h step answer r c.requires.own adds c.requires.kept (settled_kept c.in-Ok.is pushed c.settle.ensures)
    ∙ ap (λ q. guardian_events o q c.args.number) (sym (ap seen_of c.receipted-part.ensures.rest ∙ seen_rest o step answer (suc c.args.number) h.place adds))
