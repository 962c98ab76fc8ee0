use Rattle.std.proofs.Common.{◌≡◌, ◌++◌, ◌∷◌, [], ◌∙◌, ℕ, List, ap, append_assoc, codes}
use Rattle.std.proofs.lemmas.Result.{IfOk-equal}
use Rattle.json.specs.Token.{Token}
use Rattle.json.specs.Tree.{json_tokens}
use Rattle.serde_json.specs.Data.{Data}
use Rattle.serde_json.specs.Written.{outline}
use Rattle.stable_store.specs.Held.{records_of}
use Rattle.store_texts.specs.Texts.{entry_data, list_data, number_data, record_data}
use Rattle.store_texts.proofs.writing.write_content.Goals as goal

-- tokens were written, and others come behind
more : (old new xs rest : List Token) → new ≡ old ++ xs → new ++ rest ≡ old ++ (xs ++ rest)
more old new xs rest e = ap (λ (t : List Token). t ++ rest) e ∙ append_assoc old xs rest

-- a member was written, and others come behind
member_more : (name : List ℕ) (d : Data) (old keyed new rest : List Token) → keyed ≡ old ++ Token.key name ∷ [] → new ≡ keyed ++ json_tokens (outline d)
    → new ++ rest ≡ old ++ (Token.key name ∷ (json_tokens (outline d) ++ rest))
member_more name d old keyed new rest key value =
    more keyed new (json_tokens (outline d)) rest value ∙ more old keyed (Token.key name ∷ []) (json_tokens (outline d) ++ rest) key

pub returns-clause-ok : goal.returns-clause-ok
returns-clause-ok c =
    let k = c.args.kept.now in
    let last = Token.end_object ∷ [] in
    let prepared = list_data record_data (records_of k.prepared.entries) in
    let fifth = Token.key (codes "prepared") ∷ (json_tokens (outline prepared) ++ last) in
    let fourth = Token.key (codes "next_top") ∷ (json_tokens (outline (number_data k.next_top)) ++ fifth) in
    let third = Token.key (codes "decided") ∷ (json_tokens (outline (list_data number_data k.decided.keys)) ++ fourth) in
    let second = Token.key (codes "count") ∷ (json_tokens (outline (number_data k.count)) ++ third) in
    let first = Token.key (codes "base") ∷ (json_tokens (outline (list_data entry_data k.base.entries)) ++ second) in
    IfOk-equal c.end_object.result _ _ _ c.end_object.ensures.ok
    (member_more (codes "prepared") prepared _ _ _ last c.in_ok-key-5.ensures.ok c.in_ok-write_records.ensures.ok
    ∙ member_more (codes "next_top") (number_data k.next_top) _ _ _ fifth c.in_ok-key-4.ensures.ok c.in_ok-u64-2.ensures.ok
    ∙ member_more (codes "decided") (list_data number_data k.decided.keys) _ _ _ fourth c.in_ok-key-3.ensures.ok c.in_ok-write_numbers.ensures.ok
    ∙ member_more (codes "count") (number_data k.count) _ _ _ third c.in_ok-key-2.ensures.ok c.in_ok-u64.ensures.ok
    ∙ member_more (codes "base") (list_data entry_data k.base.entries) _ _ _ second c.in_ok-key.ensures.ok c.in_ok-write_parts.ensures.ok
    ∙ more _ _ (Token.begin_object ∷ []) first c.in_ok-begin_object.ensures.ok)
