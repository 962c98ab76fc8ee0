use Rattle.std.proofs.Common.{ap, is_some, refl, subst, sym, ◌∙◌, ◌∷◌}
use Rattle.one_run.specs.Pieces.{seen_of}
use Rattle.one_run.specs.Rules.{Adds}
use Rattle.run_model.specs.declared.history.Event.{Event}
use Rattle.run_model.specs.Runs.{IsRun}
use Rattle.layer_contracts.specs.Guardians.{event_of}
use Rattle.layer_contracts.specs.declared.guardian.Fault.TheVariants.{Memory}
use Rattle.shared_run.specs.Places.{touches}
use Rattle.locked_run.specs.Acting.{HasMoved, StoreAfter, kept_outcome}
use Rattle.locked_run.specs.Acting.Outcome.{failed, taken}
use Rattle.locked_run.proofs.Acted.{err_is, moved_only, moved_then, ok_is, seen_rest, store_refused, store_then}
use Rattle.locked_run.proofs.Named.{names_just}
use Rattle.locked_run.proofs.Recorded.{kept_at, kept_then, on_err, on_ok, same_kept, settled_back, settled_back_there, settled_kept, settled_kept_there}
use Rattle.locked_run.proofs.stepping.finish_one.Goals as goal

pub returns-then-not-is_accepted-clause-moved : goal.returns-then-not-is_accepted-clause-moved
returns-then-not-is_accepted-clause-moved g c = moved_only (taken _) (ap is_some c.without_event.ensures.receipt) c.requires.locked.registry.seen

pub returns-in-Err-clause-moved : goal.returns-in-Err-clause-moved
returns-in-Err-clause-moved g c =
    let v = c.args.part.token.me.0 in
    subst (λ w. HasMoved (failed c.in-Err.fault) v w) (sym (err_is _ c.in-Err.is c.keep_at_one-part.ensures.same))
    (moved_only (failed c.in-Err.fault) refl c.requires.locked.registry.seen)

pub returns-in-Ok-clause-moved : goal.returns-in-Ok-clause-moved
returns-in-Ok-clause-moved g c =
    let o = g.K.OfRun.opening in
    let v = c.args.part.token.me.0 in
    let w = c.keep_at_one-part.result.0.token.me.0 in
    let adds = ok_is (λ n. Adds (IsRun o) touches (event_of c.args.step.now c.args.answer) v n w) c.in-Ok.is c.keep_at_one-part.ensures.added in
    moved_then o c.args.step.now c.args.answer 0 c.requires.locked.registry.place adds c.receipted-part.ensures.rest c.receipted-part.ensures.receipt

pub returns-in-Ok-clause-store : goal.returns-in-Ok-clause-store
returns-in-Ok-clause-store g c =
    let o = g.K.OfRun.opening in
    let v = c.args.part.token.me.0 in
    let w = c.keep_at_one-part.result.0.token.me.0 in
    let adds = ok_is (λ n. Adds (IsRun o) touches (event_of c.args.step.now c.args.answer) v n w) c.in-Ok.is c.keep_at_one-part.ensures.added in
    let old = g.G.Guardian.stored c.args.guardian.now in
    let new = g.G.Guardian.stored c.keep_at_one-part.new.guardian in
    store_then o c.args.step.now c.args.answer 0 c.requires.locked.registry.place adds c.receipted-part.ensures.rest c.receipted-part.ensures.receipt c.args.number old new
    (subst (λ r. StoreAfter o c.args.step.now (kept_outcome r) (seen_of w) c.args.number old new) c.in-Ok.is c.keep_at_one-part.ensures.store)

pub keep_at_one-part-requires-clause-names : goal.keep_at_one-part-requires-clause-names
keep_at_one-part-requires-clause-names g c =
    let o = g.K.OfRun.opening in
    let past = seen_of c.args.part.token.me.0 in
    names_just o (event_of c.args.step.now c.args.answer) past c.args.number
    (c.requires.answered, sym c.is_accepted.ensures ∙ c.if-not-is_accepted.false, c.requires.locked.registry.run) c.requires.names

-- no room to record it
pub returns-then-is_err-clause-moved : goal.returns-then-is_err-clause-moved
returns-then-is_err-clause-moved g c = moved_only (failed Memory) refl c.requires.locked.registry.seen

pub returns-then-is_err-clause-kept : goal.returns-then-is_err-clause-kept
returns-then-is_err-clause-kept g c =
    let same = on_err c.push.result _ (sym c.is_err.ensures.value ∙ c.if-is_err.true) c.push.ensures.err in
    same_kept c.requires.kept same.0 same.0 same.1

pub returns-then-is_err-clause-store : goal.returns-then-is_err-clause-store
returns-then-is_err-clause-store g c =
    store_refused g.K.OfRun.opening c.args.step.now (seen_of c.args.part.token.me.0) c.args.number (g.G.Guardian.stored c.args.guardian.now) c.requires.store.1

-- recorded, and not kept
pub returns-in-Err-clause-kept : goal.returns-in-Err-clause-kept
returns-in-Err-clause-kept g c =
    let pushed = on_ok c.push.result _ (sym c.is_err.ensures.value ∙ c.if-is_err.false) c.push.ensures.ok in
    let s = c.settle.ensures in
    let mine = settled_back c.in-Err.is pushed.0 s.guardian in
    kept_at (same_kept c.requires.kept mine mine (settled_back_there c.args.step.now _ _ c.in-Err.is pushed.1 s.registry))
    (ap seen_of (err_is _ c.in-Err.is c.keep_at_one-part.ensures.same))

pub returns-in-Ok-clause-kept : goal.returns-in-Ok-clause-kept
returns-in-Ok-clause-kept g c =
    let o = g.K.OfRun.opening in
    let v = c.args.part.token.me.0 in
    let w = c.keep_at_one-part.result.0.token.me.0 in
    let step = c.args.step.now in
    let answer = c.args.answer in
    let e : Event = event_of step answer in
    let a = c.requires.locked in
    let adds = ok_is (λ n. Adds (IsRun o) touches e v n w) c.in-Ok.is c.keep_at_one-part.ensures.added in
    let r : IsRun o (e ∷ seen_of v) = (c.requires.answered, sym c.is_accepted.ensures ∙ c.if-not-is_accepted.false, a.registry.run) in
    let names = names_just o e (seen_of v) c.args.number r c.requires.names in
    let pushed = on_ok c.push.result _ (sym c.is_err.ensures.value ∙ c.if-is_err.false) c.push.ensures.ok in
    let s = c.settle.ensures in
    let mine = settled_kept c.in-Ok.is pushed.0 s.guardian in
    kept_at (kept_then a e r names adds c.requires.kept mine mine (settled_kept_there step _ _ c.in-Ok.is pushed.1 s.registry))
    (ap seen_of c.receipted-part.ensures.rest ∙ seen_rest o step answer 0 a.registry.place adds)
