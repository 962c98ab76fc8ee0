use Rattle.serde_json.specs.View.{view}
use Rattle.script_parts.specs.Places.{pointer}
use Rattle.script_parts.proofs.Forms.{content_only}
use Rattle.script_parts.proofs.contents.content.Goals as goal

pub returns-in-Some : goal.returns-in-Some
returns-in-Some c =
    content_only (view c.args.json.now) (pointer c.args.place.now) c.in-Some.name.now
    (view c.in-Some.inner.now) c.content_member.result c.in-Some.ensures c.content_member.ensures
