use Rattle.std.proofs.Common.{[], sym, ◌≡◌, subst}
use Rattle.sqlite.specs.Effect.{Database}
use Rattle.sqlite.specs.Held.{state}
use Rattle.sql_store.specs.Reading.{LooksUp}
use Rattle.sql_store.specs.Layouts.{presence_in}
use Rattle.sql_store.specs.declared.layout.Presence.{Presence}
use Rattle.sql_store.specs.declared.layout.Presence.TheVariants.{There}
use Rattle.sql_store.proofs.Layouts.{outlined, seen, refused}
use Rattle.sql_store.proofs.layout.presence_of.Goals.{in-Ok, in-Err}
use Rattle.sql_store.proofs.layout.presence_of.Goals as goal

pub returns-clause-looks : goal.returns-clause-looks
returns-clause-looks g c settled =
    let sql = c.args.query.now in
    let old = state g.A.Store c.args.conn.now in
    let new = state g.A.Store c.prepare.new.self in
    let tells : Database → Presence → Type 0 = λ d found. found ≡ presence_in d.schema sql in
    elim c.match-prepare.branch [
      | in-Ok w ↦
          subst (LooksUp old new tells) (sym w.result-is)
          (seen sql old new settled c.prepare.ensures.survives There (λ clean. (w.in-Ok.ensures.ok clean).1) (λ clean. sym (outlined _ _ (w.in-Ok.ensures.shape clean))))
      | in-Err w ↦
          subst (LooksUp old new tells) (sym w.result-is)
          (refused sql old new settled c.prepare.ensures.survives w.in-Err.error w.absence.result w.absence.ensures.absence (λ clean. w.in-Err.ensures.err clean []))
    ]
