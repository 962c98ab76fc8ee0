use Rattle.std.proofs.Common.{None, Option, Some, IfSome, [], ap, option_map, subst, sym, ℕ, ◌∙◌, ◌∷◌, ◌≡◌}
use Rattle.run_model.specs.Runs.{World}
use Rattle.frames.specs.Bound.{nothing_bound}
use Rattle.activities.specs.declared.open_action.OpenAction.{OpenAction}
use Rattle.activities.specs.Acting.{ComesSo, acting, doing, done}
use Rattle.activities.specs.Ends.{ClientMade, IsTopAt, end_of, top_of}
use Rattle.activities.specs.Making.{Makes, once_begun, with_top}
use Rattle.activities.specs.Serial.{Done, begun_at, body_done, budget, run}
use Rattle.activities.proofs.Meaning.{of_script, run_named, top_lacks, top_runs}
use Rattle.activities.proofs.Clients.{body_given}
use Rattle.activities.proofs.Failing.{over_same, over_top}
use Rattle.activities.proofs.ClientSteps.{end_made, named_at_end}
use Rattle.activities.proofs.Trying.{cut_of, on_err}
use Rattle.activities.proofs.serial.run_client.Goals as goal

-- the world in which its top action has begun
begun_world : (home : ℕ) (found : Option OpenAction) (top : OpenAction) (old mid : World) → mid ≡ once_begun home (option_map (λ top. top.name) found) old
    → found ≡ Some top → mid ≡ with_top home top.name old
begun_world home found top old mid m f = m ∙ ap (λ o. once_begun home (option_map (λ top. top.name) o) old) f

pub returns-in_default : goal.returns-in_default
returns-in_default g c =
    let home = c.args.client.now.home in
    let old = g.W.ActivitySteps.run c.args.world.now in
    record {
      made = record {
        makes = c.in_ok-top.ensures.left ∙ ap (λ o. once_begun home (option_map (λ top. top.name) o) old) c.in_default.is;
        told = tt;
      };
      top = λ alone. subst (λ o. IsTopAt home old (option_map (λ top. top.name) o)) c.in_default.is (c.in_ok-top.ensures.top alone);
      ok = λ alone.
          top_lacks c.args.script.now.handlers c.args.client.now old (g.W.ActivitySteps.run c.begin_top.new.world)
          (option_map (λ top. top.name) c.in_ok-top.field-0) (c.in_ok-top.ensures.after alone) (c.in_ok-top.ensures.begun alone)
          (ap (option_map (λ top. top.name)) c.in_default.is);
      cut = tt;
      failed = tt;
      over = over_same g.W.ActivitySteps.alone g.W.ActivitySteps.fails old (g.W.ActivitySteps.run c.begin_top.new.world)
          (c.in_ok-top.ensures.left ∙ ap (λ o. once_begun home (option_map (λ top. top.name) o) old) c.in_default.is);
    }

pub returns-in_err-top-clause-cut : goal.returns-in_err-top-clause-cut
returns-in_err-top-clause-cut g c =
    on_err _ (cut_of c.args.client.now.home None (g.W.ActivitySteps.alone) (g.W.ActivitySteps.run c.args.world.now) (g.W.ActivitySteps.run c.begin_top.new.world) c.in_err-top.ensures.err (λ alone. tt))

pub run-requires-clause-body : goal.run-requires-clause-body
run-requires-clause-body g c =
    body_given c.args.script.now _ c.args.client.now c.new-frames.result _ c.requires.client c.new.ensures.script c.new-frames.ensures
    c.as_slice-body.ensures

pub returns-in_err-flow-clause-cut : goal.returns-in_err-flow-clause-cut
returns-in_err-flow-clause-cut g c =
    let home = c.args.client.now.home in
    let top = c.in-Some.top in
    let old = g.W.ActivitySteps.run c.args.world.now in
    let new = g.W.ActivitySteps.run c.run.new.world in
    on_err _ (cut_of home (Some top.name) (g.W.ActivitySteps.alone) old new
    (subst (λ w. Makes (top.name ∷ []) (top.name ∷ []) w new)
    (begun_world home c.in_ok-top.field-0 top old (g.W.ActivitySteps.run c.begin_top.new.world) c.in_ok-top.ensures.left c.in-Some.is)
    c.run.ensures.makes)
    (λ alone. subst (λ o. IsTopAt home old (option_map (λ top. top.name) o)) c.in-Some.is (c.in_ok-top.ensures.top alone)))

pub returns-clause-made : goal.returns-clause-made
returns-clause-made g c =
    let home = c.args.client.now.home in
    let top = c.in-Some.top in
    let old = g.W.ActivitySteps.run c.args.world.now in
    let mid = g.W.ActivitySteps.run c.begin_top.new.world in
    let new = g.W.ActivitySteps.run c.run.new.world in
    let begun = begun_world home c.in_ok-top.field-0 top old mid c.in_ok-top.ensures.left c.in-Some.is in
    let named = c.end_of.ensures ∙ ap (λ n. end_of n c.in_ok-flow.flow) (c.into_name.ensures ∙ c.run.ensures.name) in
    subst (λ end. ClientMade home end old new) (sym named)
    (end_made home top.name c.in_ok-flow.flow old mid new begun c.run.ensures.makes c.in_ok-flow.ensures.told)

pub returns-clause-top : goal.returns-clause-top
returns-clause-top g c = λ alone.
    let top = c.in-Some.top in
    subst (λ o. IsTopAt c.args.client.now.home (g.W.ActivitySteps.run c.args.world.now) o)
    (ap (option_map (λ top. top.name)) c.in-Some.is ∙ sym (ap top_of (c.end_of.ensures ∙ ap (λ n. end_of n c.in_ok-flow.flow) (c.into_name.ensures ∙ c.run.ensures.name))
    ∙ named_at_end top.name c.in_ok-flow.flow))
    (c.in_ok-top.ensures.top alone)

pub returns-clause-ok : goal.returns-clause-ok
returns-clause-ok g c = λ alone.
    let script = c.args.script.now in
    let home = c.args.client.now.home in
    let top = c.in-Some.top in
    let a = top.name in
    let old = g.W.ActivitySteps.run c.args.world.now in
    let y = g.W.ActivitySteps.run c.begin_top.new.world in
    let r : Done = done (g.W.ActivitySteps.run c.run.new.world) c.run.new.self.left c.run.new.action c.run.new.frames c.in_ok-flow.flow in
    let acts : acting top ≡ begun_at home a = subst (λ o. IfSome o (λ top. acting top ≡ begun_at home top.name)) c.in-Some.is c.in_ok-top.ensures.acting in
    let own : ComesSo script c.new.result.left r
    (λ go. run go (acting top) c.new-frames.result c.as_slice-body.result.now (doing y c.new.result.left top c.new-frames.result)) =
    of_script c.new.result.script.now script c.new.result.left r
    (λ x go. run go (acting top) c.new-frames.result c.as_slice-body.result.now (doing y c.new.result.left top c.new-frames.result))
    c.new.ensures.script (c.in_ok-flow.ensures.means alone) in
    let whole : ComesSo script budget r
    (λ go. run go (acting top) c.new-frames.result c.as_slice-body.result.now (doing y budget top c.new-frames.result)) =
    subst (λ n. ComesSo script n r
    (λ go. run go (acting top) c.new-frames.result c.as_slice-body.result.now (doing y n top c.new-frames.result)))
    c.new.ensures.left own in
    top_runs script c.args.client.now old y (option_map (λ top. top.name) c.in_ok-top.field-0) a r c.end_of.result (c.in_ok-top.ensures.after alone)
    (c.in_ok-top.ensures.begun alone) (ap (option_map (λ top. top.name)) c.in-Some.is)
    (λ most h. whole most h
    ∙ run_named (body_done script.handlers most) (acting top) (begun_at home a) c.new-frames.result nothing_bound c.as_slice-body.result.now
    c.args.client.now.body (doing y budget top c.new-frames.result) acts c.new-frames.ensures c.as_slice-body.ensures)
    (c.end_of.ensures ∙ ap (λ n. end_of n c.in_ok-flow.flow) (c.into_name.ensures ∙ c.run.ensures.name))

pub returns-in_err-top-clause-over : goal.returns-in_err-top-clause-over
returns-in_err-top-clause-over g c = over_same g.W.ActivitySteps.alone g.W.ActivitySteps.fails (g.W.ActivitySteps.run c.args.world.now) (g.W.ActivitySteps.run c.begin_top.new.world) c.in_err-top.ensures.err

pub returns-in_err-flow-clause-over : goal.returns-in_err-flow-clause-over
returns-in_err-flow-clause-over g c =
    let old = g.W.ActivitySteps.run c.args.world.now in
    let mid = g.W.ActivitySteps.run c.begin_top.new.world in
    over_top g.W.ActivitySteps.alone g.W.ActivitySteps.fails c.args.client.now.home c.in-Some.top.name old mid (g.W.ActivitySteps.run c.run.new.world)
    (begun_world c.args.client.now.home c.in_ok-top.field-0 c.in-Some.top old mid c.in_ok-top.ensures.left c.in-Some.is) c.run.ensures.over

pub returns-clause-over : goal.returns-clause-over
returns-clause-over g c =
    let old = g.W.ActivitySteps.run c.args.world.now in
    let mid = g.W.ActivitySteps.run c.begin_top.new.world in
    over_top g.W.ActivitySteps.alone g.W.ActivitySteps.fails c.args.client.now.home c.in-Some.top.name old mid (g.W.ActivitySteps.run c.run.new.world)
    (begun_world c.args.client.now.home c.in_ok-top.field-0 c.in-Some.top old mid c.in_ok-top.ensures.left c.in-Some.is) c.run.ensures.over
