-- The documents of the guardians in which calls look for handlers.
use Rattle.serde_json.specs.Data.{Items}
use Rattle.serde_json.specs.View.{items_view}
use Rattle.script.specs.declared.signatures.Handlers.{Handlers}

abbrev pub documents_of : Handlers → Items
documents_of guardians = items_view guardians
