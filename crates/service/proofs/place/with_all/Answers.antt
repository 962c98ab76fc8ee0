use Rattle.std.proofs.Common.{◌++◌, ◌≡◌}
use Rattle.service.proofs.Numbers.{appended, includes_first, includes_second}
use Rattle.service.proofs.place.with_all.Goals as goal

pub returns-clause-numbers : goal.returns-clause-numbers
returns-clause-numbers c =
    let both : c.append.new.self.items ≡ c.args.numbers.items ++ c.args.more.items =
    appended c.append.result c.args.numbers.items c.args.more.items c.append.new.self.items (c.append.ensures.succeeds c.requires.room)
    c.append.ensures.items in
    includes_first c.args.numbers.items c.args.more.items c.append.new.self.items c.sort_unstable.new.self.items c.dedup.new.self.items both
    c.sort_unstable.ensures.permutation c.dedup.ensures.filtered

pub returns-clause-more : goal.returns-clause-more
returns-clause-more c =
    let both : c.append.new.self.items ≡ c.args.numbers.items ++ c.args.more.items =
    appended c.append.result c.args.numbers.items c.args.more.items c.append.new.self.items (c.append.ensures.succeeds c.requires.room)
    c.append.ensures.items in
    includes_second c.args.numbers.items c.args.more.items c.append.new.self.items c.sort_unstable.new.self.items c.dedup.new.self.items both
    c.sort_unstable.ensures.permutation c.dedup.ensures.filtered
