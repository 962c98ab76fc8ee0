use Rattle.std.proofs.Common.{refl, sym, ◌∙◌}
use Rattle.one_run.specs.Pieces.{seen_of}
use Rattle.layer_contracts.specs.declared.guardian.Fault.TheVariants.{Memory}
use Rattle.world_steps.specs.Standings.{standing}
use Rattle.locked_run.specs.Acting.Outcome.{elsewhere, failed}
use Rattle.locked_run.proofs.Acted.{moved_only, store_refused}
use Rattle.locked_run.proofs.ByItself.{none_told, own_answers, own_same, some_told}
use Rattle.locked_run.proofs.own.step_own.Goals as goal

pub finish_own-requires-clause-own : goal.finish_own-requires-clause-own
finish_own-requires-clause-own g c =
    let o = g.K.OfRun.opening in
    let past = seen_of c.args.part.token.me.0 in
    let said = some_told _ _ c.in-Ok-Some.field-0-is (c.in-Ok-Some.ensures (standing o past c.args.number) c.requires.here.here refl) in
    sym (own_same o c.args.number past c.requires.here.run c.args.step.now) ∙ said.0

pub finish_own-requires-clause-answered : goal.finish_own-requires-clause-answered
finish_own-requires-clause-answered g c =
    let o = g.K.OfRun.opening in
    let past = seen_of c.args.part.token.me.0 in
    let run = c.requires.here.run in
    let said = some_told _ _ c.in-Ok-Some.field-0-is (c.in-Ok-Some.ensures (standing o past c.args.number) c.requires.here.here refl) in
    said.1 ∙ own_answers o c.args.number past run c.args.step.now (sym (own_same o c.args.number past run c.args.step.now) ∙ said.0)

pub returns-in-Err-clause-moved : goal.returns-in-Err-clause-moved
returns-in-Err-clause-moved g c = moved_only (failed Memory) refl c.requires.here.seen

pub returns-in-Err-clause-store : goal.returns-in-Err-clause-store
returns-in-Err-clause-store g c =
    store_refused g.K.OfRun.opening c.args.step.now (seen_of c.args.part.token.me.0) c.args.number (g.G.Guardian.stored c.args.guardian.now) c.requires.store.1

pub returns-in-Ok-None-clause-moved : goal.returns-in-Ok-None-clause-moved
returns-in-Ok-None-clause-moved g c = moved_only elsewhere refl c.requires.here.seen

pub returns-in-Ok-None-clause-answered : goal.returns-in-Ok-None-clause-answered
returns-in-Ok-None-clause-answered g c =
    let o = g.K.OfRun.opening in
    let past = seen_of c.args.part.token.me.0 in
    sym (own_same o c.args.number past c.requires.here.run c.args.step.now) ∙ none_told _ _ c.in-Ok-None.field-0-is (c.in-Ok-None.ensures (standing o past c.args.number) c.requires.here.here refl)
