use Rattle.script_engine.proofs.Bytes as bytes
use Rattle.script_engine.proofs.laws.one_script.Goals as goal

pub returns : goal.returns
returns c = bytes.one_script
