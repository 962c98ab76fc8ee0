-- A guardian while it is read, and what calls answer that add to what was read.
use Rattle.std.specs.Prelude.{◌≡◌, ◌≢◌, List, ◌++◌, Ok, Err}
use Rattle.script_model.specs.declared.fault.ScriptFault.TheVariants.{Memory}
use Rattle.script_model.specs.Reading.{Outcome}
use Rattle.script_model.specs.ScriptReading as spec
use Rattle.script.specs.Handling.{documents_of}
use Rattle.script.specs.declared.documents.Site.{Site}
use Rattle.script.specs.declared.documents.Guardians.{Guardians}

abbrev pub site_of : Site → spec.Site
site_of site =
    record { guardian = site.guardian; objects = site.objects.now; guardians = documents_of site.handlers.now }

abbrev pub guardians_of : Guardians → spec.Guardians
guardians_of gs = record { objects = gs.objects; handlers = gs.handlers }

-- what a call answers that adds what is read to a list
abbrev pub AnswersOnto : {A : Type 0} → List A → List A → Outcome (List A)
    → Outcome (Unit {0}) → Type 0
AnswersOnto old new outcome (Ok _) = (xs : _) × (outcome ≡ Ok xs) × (new ≡ old ++ xs)
AnswersOnto old new outcome (Err e) = e ≢ Memory → outcome ≡ Err e
