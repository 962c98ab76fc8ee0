use Rattle.serde_json.proofs.Views.{members_len-members_view}
use Rattle.script_parts.proofs.contents.is_count.Goals as goal

pub returns : goal.returns
returns c = rw (members_len-members_view c.args.members.now.entries, ← c.len.ensures.len) c.is_within.ensures
