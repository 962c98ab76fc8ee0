use Rattle.std.proofs.Common.{◌≡◌, ◌∷◌, [], ◌∙◌, List, Option, Some, ap, map, refl}
use Rattle.std.proofs.lemmas.Result.{IfOk-weaker}
use Rattle.serde_json.specs.Data.{Data}
use Rattle.stable_store.specs.Held.{held}
use Rattle.stable_store.specs.declared.kept.Kept.{Kept}
use Rattle.store_texts.specs.Texts.{lists_of, stored_in}
use Rattle.store_texts.proofs.reading.read_stores.Goals as goal

abbrev a_document : Data → Option Data
a_document d = Some d

-- what maps hold is what their lists hold
held_in_lists : (ks : List Kept) → map held ks ≡ map stored_in (map lists_of ks)
held_in_lists [] = refl
held_in_lists (k ∷ ks) = ap (λ cs. held k ∷ cs) (held_in_lists ks)

pub returns-in-Ok-clause-found : goal.returns-in-Ok-clause-found
returns-in-Ok-clause-found c =
    IfOk-weaker c.contents_of.result _ _
    (λ kept h. record {
      lists = map lists_of kept.items;
      fit = h.0;
      are = held_in_lists kept.items;
      utf8 = c.in-Ok.ensures.ok.0;
      document = c.in-Ok.ensures.ok.1 ∙ ap a_document h.1;
    })
    c.contents_of.ensures.found
