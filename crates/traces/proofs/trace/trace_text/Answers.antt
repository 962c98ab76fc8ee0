use Rattle.std.proofs.Common.{string_bytes, ◌≡◌}
use Rattle.traces.specs.Traces.{histories_in, lists_of, trace_text}
use Rattle.traces.proofs.Written.{all_written, read_back}
use Rattle.traces.proofs.trace.trace_text.Goals as goal

written : (c : goal.In_ok-append_histories) → string_bytes c.append_histories.new.text ≡ trace_text c.args.setup.now (histories_in c.args.registry.now c.args.guardians.now)
written c =
    all_written c.args.setup.now c.args.registry.now (lists_of c.args.guardians.now) (string_bytes c.new-text.result) (string_bytes c.append_setup.new.text)
    (string_bytes c.append_history.new.text) (string_bytes c.append_histories.new.text) c.new-text.ensures.bytes c.in_ok-append_setup.ensures.ok
    c.in_ok-append_history.ensures c.in_ok-append_histories.ensures

pub returns-clause-text : goal.returns-clause-text
returns-clause-text c = written c

pub returns-clause-read_back : goal.returns-clause-read_back
returns-clause-read_back c = λ fits each guardians.
    read_back (string_bytes c.append_histories.new.text) c.args.setup.now (histories_in c.args.registry.now c.args.guardians.now) (written c)
    (c.in_ok-append_setup.ensures.read_back fits) each guardians
