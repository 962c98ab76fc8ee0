-- Threads may share what the clients of a run are run by.
use denote.Param.Send.{IsSend, IsSync, sendable}
use denote.RattleType.{RattleType}
use denote.Ref.{NamedLft}
use Rattle.std.proofs.Crossing.{crosses}
use Rattle.locked_run.specs.declared.shared.OfRun as run
use Rattle.layer_contracts.specs.declared.forest.Forest as forest
use Rattle.layer_contracts.specs.declared.guardian.Guardian as guardian
use Rattle.layer_contracts.specs.declared.lineage.Lineage as lineage
use Rattle.runtime.proofs.runtime.Runtime.TheSendSync as runtime
use Rattle.run_model.proofs.opening.Opening.TheSendSync as opening
use Rattle.client_threads.proofs.Crossing.{checked_row_sync}
use Rattle.script_threads.proofs.watching.Watched.TheSendSync as watched
use Rattle.script_threads.specs.contracts.in_threads.Clients as Clients

module _ (ℓ : NamedLft) (K R G P H : RattleType) (k : run.Ghosts K.Denot) (r : forest.Ghosts R.Denot) (l : lineage.Ghosts R.Denot) (g : guardian.Ghosts G.Denot) where
  pub clients_row_sync : IsSend R → IsSend G → IsSync P → IsSync H → IsSync (Clients.the_row ℓ K R G P H k r l g)
  clients_row_sync sr sg sp sh = search (runtime.the_sync, opening.the_sync, checked_row_sync, watched.the_sync, sendable, crosses) depth 60 fits 50000
