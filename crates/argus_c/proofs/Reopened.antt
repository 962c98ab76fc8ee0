-- Stores of contents that were kept.
use Rattle.std.proofs.Common.{◌≡◌, ◌++◌, ◌∷◌, ◌∙◌, [], List, ℕ, length, map, ap, append_assoc, arith, sym}
use Rattle.std.proofs.lemmas.List.{append-nil, length-map, map-append}
use Rattle.run_model.specs.Openings.{Setup}
use Rattle.stable_store.specs.Held.{held}
use Rattle.stable_store.specs.Plain.{plain_view}
use Rattle.stable_store.specs.Stored.{Stored}
use Rattle.stable_store.specs.declared.kept.Kept.{Kept}
use Rattle.stable_store.specs.declared.plain.PlainStable.{PlainStable}
use Rattle.store_recovery.specs.Settling.{contents}
use Rattle.argus_c.specs.Reopening.{AreOf}

-- one store more was made
pub store_more : (all : List Stored) (old new : List PlainStable) (store : PlainStable) (kept : Kept) (left rest : List Kept) → new ≡ old ++ store ∷ []
    → (plain_view store).content ≡ held kept → left ≡ kept ∷ rest → contents plain_view old ++ map held left ≡ all → contents plain_view new ++ map held rest ≡ all
store_more all old new store kept left rest pushed is next so_far =
    ap (λ ss. contents plain_view ss ++ map held rest) pushed
    ∙ ap (λ cs. cs ++ map held rest) (map-append (λ s. (plain_view s).content) old (store ∷ []))
    ∙ append_assoc (contents plain_view old) ((plain_view store).content ∷ []) (map held rest)
    ∙ ap (λ c. contents plain_view old ++ c ∷ map held rest) is ∙ ap (λ l. contents plain_view old ++ map held l) (sym next) ∙ so_far

-- none is left
pub stores_made : (all : List Stored) (stores : List PlainStable) (left : List Kept) (n : ℕ) → n ≡ length left → n ≡ 0
    → contents plain_view stores ++ map held left ≡ all → contents plain_view stores ≡ all
stores_made all stores [] n count none so_far = sym (append-nil (contents plain_view stores)) ∙ so_far
stores_made all stores (k ∷ left) n count none so_far = absurd (omega arith)

-- there are as many as guardians
pub stores_count : (setup : Setup) (left : List Stored) (stores : List PlainStable) → contents plain_view stores ≡ left → AreOf setup left
    → length stores ≡ length setup
stores_count setup left stores hold are =
    let long = length-map stores (λ s. (plain_view s).content) in
    sym long ∙ ap (λ l. length l) hold ∙ are.0
