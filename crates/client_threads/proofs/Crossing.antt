-- Scripts and arms may cross threads: what they own is plain, though statements hold statements.
use denote.Param.Send.{IsSend, IsSync, sendable}
use denote.RattleType.{RattleType}
use denote.Plain.{Boolean}
use Rattle.std.proofs.Crossing.{crosses}
use Rattle.script_model.specs.contracts.statement.Statement as Statement
use Rattle.script_model.specs.contracts.expression.IntExpr as IntExpr
use Rattle.script_model.specs.contracts.expression.TextExpr as TextExpr
use Rattle.script_model.specs.contracts.expression.Expr as Expr
use Rattle.script_model.specs.contracts.expression.Condition as Condition
use Rattle.script_model.specs.contracts.statement.ObjectCall as ObjectCall
use Rattle.script_model.specs.contracts.statement.HandlerCall as HandlerCall
use Rattle.script_model.specs.contracts.checked.Handler as Handler
use Rattle.script_model.specs.contracts.checked.Client as Client
use Rattle.script_model.specs.contracts.checked.Checked as Checked
use Rattle.sqlite_items.specs.contracts.items.Items as Items
use Rattle.sqlite_items.specs.contracts.boxed.Boxed as Boxed
use Rattle.sqlite_items.proofs.boxed.Boxed.TheSendSync as boxed
use Rattle.sqlite_items.proofs.items.Items.TheSendSync as items
use Rattle.script_model.proofs.statement.Arm.TheLaws.TheKnot as arm
use Rattle.frames.specs.contracts.frames.Frames as Frames
use Rattle.activities.specs.contracts.open_action.OpenAction as OpenAction
use Rattle.activities.specs.contracts.apart.BegunArm as BegunArm
use Rattle.activities.specs.contracts.apart.EndedArm as EndedArm
use Rattle.activities.proofs.open_action.OpenAction.TheSendSync as open_action
use denote.Ref.{NamedLft}
use Rattle.locked_run.specs.declared.shared.OfRun as run
use Rattle.layer_contracts.specs.declared.forest.Forest as forest
use Rattle.layer_contracts.specs.declared.guardian.Guardian as guardian
use Rattle.layer_contracts.specs.declared.lineage.Lineage as lineage
use Rattle.runtime.proofs.runtime.Runtime.TheSendSync as runtime
use Rattle.run_model.proofs.opening.Opening.TheSendSync as opening
use Rattle.values.proofs.content.Content.TheSendSync as content
use Rattle.crossbeam_channel.specs.contracts.channel.Receiver as Receiver
use Rattle.crossbeam_channel.proofs.channel.Receiver.TheSendSync as receiver
use Rattle.crossbeam_channel.proofs.channel.Sender.TheSendSync as sender
use Rattle.std.specs.contracts.alloc.Global as Heap
use Rattle.std.specs.contracts.impls.GlobalAllocator.TheImpl.{ghosts}
use Rattle.client_threads.specs.declared.handed.OfScript as of_script
use Rattle.client_threads.specs.contracts.handed.Handed as Handed
use Rattle.client_threads.specs.contracts.handed.Started as Started
use Rattle.client_threads.specs.contracts.handed.Order as Order
use Rattle.client_threads.specs.contracts.calls.OverRuntime as OverRuntime
use Rattle.client_threads.proofs.handed.DoneArm.TheSendSync as done
use Rattle.client_threads.proofs.coenter.Coenter.TheSendSync as coenter
use Rattle.client_threads.proofs.watch.Watch.TheSendSync as watch
use Rattle.activities.proofs.apart.EndedArm.TheSendSync as ended
use Rattle.script_model.proofs.expression.IntExpr.TheLaws.TheKnot as int

pub boxed_sync : (h : RattleType) → IsSync h → IsSync (Boxed.the_row h)
boxed_sync h s = boxed.the_sync h s

pub boxed_send : (h : RattleType) → IsSend h → IsSend (Boxed.the_row h)
boxed_send h s = boxed.the_send h s

pub items_sync : (h : RattleType) → IsSync h → IsSync (Items.the_row h)
items_sync h s = items.the_sync h s

pub items_send : (h : RattleType) → IsSend h → IsSend (Items.the_row h)
items_send h s = items.the_send h s

pub int_sync : IsSync IntExpr.the_row
int_sync = search (int.sync-IntExpr, boxed_sync, sendable, crosses)

pub int_send : IsSend IntExpr.the_row
int_send = search (int.send-IntExpr, boxed_send, sendable, crosses)

pub int_field_sync : IsSync (IntExpr.the_field).row
int_field_sync = int.sync-IntExpr (search sendable) (search sendable) boxed_sync

pub text_sync : IsSync (TextExpr.the_field).row
text_sync = search (sendable, crosses) depth 40

pub expr_sync : IsSync (Expr.the_field).row
expr_sync = search (int_field_sync, text_sync, sendable, crosses) depth 40

pub condition_sync : IsSync (Condition.the_field).row
condition_sync = search (int_field_sync, text_sync, sendable, crosses) depth 40

pub object_sync : IsSync (ObjectCall.the_field).row
object_sync = search (int_sync, expr_sync, sendable, crosses) depth 40 fits 20000

pub called_sync : IsSync (HandlerCall.the_field).row
called_sync = search (int_sync, items_sync, text_sync, sendable, crosses) depth 40

pub statement_sync : IsSync (Statement.the_field).row
statement_sync = arm.sync-Statement items_sync object_sync (search (items_sync, sendable, crosses) depth 40) called_sync condition_sync (search sendable) (search (expr_sync, sendable, crosses) depth 40)

pub int_field_send : IsSend (IntExpr.the_field).row
int_field_send = int.send-IntExpr (search sendable) (search sendable) boxed_send

pub text_send : IsSend (TextExpr.the_field).row
text_send = search (sendable, crosses) depth 40

pub expr_send : IsSend (Expr.the_field).row
expr_send = search (int_field_send, text_send, sendable, crosses) depth 40

pub condition_send : IsSend (Condition.the_field).row
condition_send = search (int_field_send, text_send, sendable, crosses) depth 40

pub object_send : IsSend (ObjectCall.the_field).row
object_send = search (int_send, expr_send, sendable, crosses) depth 40 fits 20000

pub called_send : IsSend (HandlerCall.the_field).row
called_send = search (int_send, items_send, text_send, sendable, crosses) depth 40

pub statement_send : IsSend (Statement.the_field).row
statement_send = arm.send-Statement items_send object_send (search (items_send, sendable, crosses) depth 40) called_send condition_send (search sendable) (search (expr_send, sendable, crosses) depth 40)

pub handler_sync : IsSync (Handler.the_field).row
handler_sync = search (statement_sync, items_sync, sendable, crosses) depth 40 fits 20000

pub client_sync : IsSync (Client.the_field).row
client_sync = search (statement_sync, items_sync, sendable, crosses) depth 40 fits 20000

pub checked_sync : IsSync (Checked.the_field).row
checked_sync = search (handler_sync, client_sync, content.the_field_sync, content.the_sync, items_sync, sendable, crosses) depth 40 fits 20000

pub body_send : IsSend (Items.the_row (Statement.the_field).row)
body_send = items_send _ statement_send

pub frames_send : IsSend (Frames.the_field).row
frames_send = search (sendable, crosses) depth 40 fits 20000

pub action_send : IsSend (OpenAction.the_field).row
action_send = search (open_action.the_field_send, sendable, crosses) depth 40 fits 20000

pub begun_send : IsSend (BegunArm.the_field).row
begun_send = search (frames_send, action_send, items_send, statement_send, sendable, crosses) depth 40 fits 20000

pub ended_send : IsSend (EndedArm.the_field).row
ended_send = search (ended.the_field_send, sendable, crosses) depth 40 fits 20000

-- ---- what is handed over, and what all threads share

module _ (K S : RattleType) (k : run.Ghosts K.Denot) (s : of_script.Ghosts S.Denot) (send : IsSend S) where
  pub handed_send : IsSend (Handed.the_field K S k s).row
  handed_send = search (begun_send, done.the_send, sender.the_send, coenter.the_send, coenter.the_sync, sendable, crosses) depth 60 fits 50000

  pub started_send : IsSend (Started.the_field K S k s).row
  started_send = search (begun_send, done.the_send, sender.the_send, coenter.the_send, coenter.the_sync, sendable, crosses) depth 60 fits 50000

  pub order_send : IsSend (Order.the_field K S k s).row
  order_send = search (handed_send, sendable, crosses) depth 60 fits 50000

  module _ (ℓ : NamedLft) (R G P H : RattleType) (r : forest.Ghosts R.Denot) (l : lineage.Ghosts R.Denot) (g : guardian.Ghosts G.Denot) where
    pub over_sync : IsSend R → IsSend G → IsSync P → IsSync H → IsSync (OverRuntime.the_field ℓ K S R G P H k s r l g).row
    over_sync sr sg sp sh = search (order_send, runtime.the_sync, opening.the_sync, sender.the_sync, watch.the_sync, sendable, crosses) depth 60 fits 50000

    pub over_row_sync : IsSend R → IsSend G → IsSync P → IsSync H → IsSync (OverRuntime.the_row ℓ K S R G P H k s r l g)
    over_row_sync sr sg sp sh = search (order_send, runtime.the_sync, opening.the_sync, sender.the_sync, watch.the_sync, sendable, crosses) depth 60 fits 50000

module _ (K S : RattleType) (k : run.Ghosts K.Denot) (s : of_script.Ghosts S.Denot) (send : IsSend S) where
  pub started_row_send : IsSend (Started.the_row K S k s)
  started_row_send = search (begun_send, done.the_send, sender.the_send, coenter.the_send, coenter.the_sync, sendable, crosses) depth 60 fits 50000

  pub order_row_send : IsSend (Order.the_row K S k s)
  order_row_send = search (handed_send, sendable, crosses) depth 60 fits 50000

  pub orders_row_send : IsSend (Receiver.the_row (Order.the_row K S k s) Heap.the_row ghosts)
  orders_row_send = search (order_row_send, receiver.the_send, sendable, crosses) depth 40 fits 20000

pub checked_row_sync : IsSync Checked.the_row
checked_row_sync = search (handler_sync, client_sync, content.the_field_sync, content.the_sync, items_sync, sendable, crosses) depth 40 fits 20000

pub flag_sync : IsSync Boolean
flag_sync = search sendable
