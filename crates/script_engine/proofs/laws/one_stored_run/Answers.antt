use Rattle.script_engine.proofs.Texts as texts
use Rattle.script_engine.proofs.laws.one_stored_run.Goals as goal

pub returns : goal.returns
returns g c = texts.one_stored_run g.R.RunsClients.comes
