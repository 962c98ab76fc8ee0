use Rattle.std.proofs.Common.{◌≡◌, ◌≤◌, [], length, sym, subst, rules}
use Rattle.values.specs.Bounds.{plain_value}
use Rattle.values.specs.Items.{max_items}
use Rattle.values.specs.Chunks.{Values}
use Rattle.values.proofs.Bounds.{many_changed}
use Rattle.values.proofs.Joined.{few_are}
use Rattle.values.proofs.chunks.Chunks.change.Goals as goal

pub invariant_of-self-then-cut-lt-LONG : goal.invariant_of-self-then-cut-lt-LONG
invariant_of-self-then-cut-lt-LONG c =
    let front : c.self.inside.front.items ≡ [] = search rules in
    let middle : c.self.inside.middle.items ≡ [] = search rules in
    let new = c.change_few.new.items.items in
    record {
      full = c.self.invariant.full;
      within_limit = subst (λ (xs : Values). length xs ≤ max_items) (sym (few_are c.self.inside.front.items c.self.inside.middle.items new front middle))
          (many_changed _ c.args.cut.dropped c.args.cut.kept c.args.cut.below c.args.cut.above (plain_value c.args.kind) c.self.inside.back.items new c.args.puts.items c.requires.room c.in_ok-change_few.ensures.ok);
    }
