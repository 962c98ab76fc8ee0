use Rattle.std.proofs.Common.{◌≡◌, ◌||◌, ◌&&◌, not, map, rules, ap, sym, ◌∙◌}
use Rattle.std.specs.BTreeSet.{insert_key}
use Rattle.std.specs.Map.Iter.{deref_pair}
use Rattle.std.proofs.lemmas.Map.Iter.{iter_end}
use Rattle.action_names.specs.Names.{has_name, is_ancestor, name_cmp}
use Rattle.holders.specs.Held.{names_of, held_in}
use Rattle.holders.proofs.Rows.{added, passed_over, has_insert}
use Rattle.holders.proofs.trees.TreeHolders.add_foreign.Goals as goal

pub loop-holder-preserved-in_ok-insert : goal.loop-holder-preserved-in_ok-insert
loop-holder-preserved-in_ok-insert g c = λ b.
    let holder = c.in-Some.holder.now in
    let before = c.loop-holder.names.keys in
    ap (λ ns. has_name ns b) (c.in_ok-insert.ensures.keys ∙ ap (insert_key name_cmp before) c.in_ok-copy.ensures.ok.1) ∙ has_insert holder b before
    ∙ added deref_pair c.loop-holder.yielded (c.in-Some.holder, c.in-Some.row) c.args.action.now b (has_name before b) (has_name c.args.names.now.keys b)
    (c.loop-holder.invariant b) (sym c.is_foreign.ensures ∙ c.if-is_foreign.true)

pub loop-holder-preserved : goal.loop-holder-preserved
loop-holder-preserved g c = λ b.
    passed_over deref_pair c.loop-holder.yielded (c.in-Some.holder, c.in-Some.row) c.args.action.now b (has_name c.loop-holder.names.keys b) (has_name c.args.names.now.keys b)
    (c.loop-holder.invariant b) (sym c.is_foreign.ensures ∙ c.if-is_foreign.false)

pub returns : goal.returns
returns g c =
    let all : map deref_pair c.loop-holder.yielded ≡ c.self.inside.rows.entries = search (rules, iter_end) in
    λ b. c.loop-holder.invariant b
    ∙ ap (λ rs. has_name c.args.names.now.keys b || (not (is_ancestor b c.args.action.now) && has_name (names_of (held_in rs)) b)) all
    ∙ ap (λ s. has_name c.args.names.now.keys b || (not (is_ancestor b c.args.action.now) && has_name (names_of s.held) b)) c.self.view_is
