-- The document that may be a script.
use Rattle.serde_json.specs.Data.{Data}
use Rattle.serde_json.specs.View.{view}
use Rattle.script.specs.declared.reader.Script.{Script}

abbrev pub document_of : Script → Data
document_of s = view s.document
