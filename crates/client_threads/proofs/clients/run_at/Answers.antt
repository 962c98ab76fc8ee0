use Rattle.std.proofs.Common.{List, Some, ap, length, refl, slice_get, subst, sym, ◌<◌, ◌∙◌, ◌≡◌}
use Rattle.std.proofs.lemmas.Option.{slice_get_read}
use Rattle.script_model.specs.declared.checked.Client.{Client}
use Rattle.client_threads.proofs.Running.{client_resolved, done_there}
use Rattle.client_threads.proofs.clients.run_at.Goals as goal
use Rattle.client_threads.proofs.clients.run_at.Goals.{After-index-clients-place}

there : (g : _) (c : After-index-clients-place g) → slice_get c.args.script.now.clients c.args.place ≡ Some c.index-clients-place.result
there g c =
    let slice = c.as_slice-clients.result.now in
    let lt : c.args.place < length slice = subst (λ (x : List Client). c.args.place < length x) (sym c.as_slice-clients.ensures) c.requires.place in
    ap (λ (x : List Client). slice_get x c.args.place) (sym c.as_slice-clients.ensures)
    ∙ slice_get_read slice (length slice) c.args.place c.index-clients-place.result refl lt c.index-clients-place.is

pub run_one-requires-clause-client : goal.run_one-requires-clause-client
run_one-requires-clause-client g c =
    client_resolved c.args.script.now c.args.place c.index-clients-place.result c.requires.script.resolved
    (there g (goal.at.run_one-requires-clause-client g c).After-index-clients-place)

pub returns : goal.returns
returns g c =
    done_there c.args.script.now.clients c.args.place c.index-clients-place.result c.run_one.result (there g (goal.at.returns g c).After-index-clients-place)
    c.run_one.ensures
