use Rattle.script_engine.proofs.Bytes as bytes
use Rattle.script_engine.proofs.laws.one_file.Goals as goal

pub returns : goal.returns
returns g c = bytes.one_file g.R.RunsClients.comes
