use Rattle.std.proofs.Common.{◌≡◌, ◌∙◌, Some, ap, map, sym}
use Rattle.serde_json.specs.Data.{Data}
use Rattle.store_texts.specs.Texts.{list_data, lists_data, stored_in}
use Rattle.store_texts.proofs.Items.{same_list}
use Rattle.store_texts.proofs.Parts.{lists_from_data}
use Rattle.store_texts.proofs.laws.one_reading.Goals as goal

same_some : (d e : Data) → Some d ≡ Some e → d ≡ e
same_some d e h = cc

pub returns : goal.returns
returns c = λ bytes a b p q.
    let same = same_some (list_data lists_data p.lists) (list_data lists_data q.lists) (sym p.document ∙ q.document) in
    p.are ∙ ap (map stored_in) (same_list lists_data lists_from_data p.lists q.lists same) ∙ sym q.are
