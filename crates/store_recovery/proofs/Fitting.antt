-- What belongs to a store, guardian by guardian and record by record.
use Rattle.std.proofs.Common.{◌≡◌, ℕ, ◌+◌, ◌-◌, ◌<◌, ◌≤◌, Bool, true, false, ◌&&◌, List, [], ◌∷◌, length, get_or, drop, refl, sym, ap, ap₂, ◌∙◌, arith, drop_of_length-le}
use Rattle.std.specs.List.{list_all}
use Rattle.std.specs.FinMap as map
use Rattle.std.specs.Map.{values_of}
use Rattle.std.proofs.lemmas.List.{drop_more, get_or-map, length-map}
use Rattle.stable_store.specs.Calls.{View}
use Rattle.stable_store.specs.Held.{held, record_of, records_of}
use Rattle.stable_store.specs.Stored.{Record}
use Rattle.stable_store.specs.declared.kept.Kept.{Kept}
use Rattle.stable_store.specs.declared.kept.Prepared.{Prepared}
use Rattle.run_model.specs.Openings.{Setup, objects_at}
use Rattle.store_recovery.specs.Settling.{contents}
use Rattle.store_recovery.specs.Belonging.{all_belong, all_suit, belong_from, belongs, record_belongs}

each_record : (test : Record → Bool) (es : List (ℕ × Prepared)) → list_all (λ e. test e.1) (records_of es) ≡ list_all (λ r. test (record_of r)) (values_of es)
each_record test [] = refl
each_record test (e ∷ es) = ap (λ b. test (record_of e.1) && b) (each_record test es)

-- what is kept belongs where its parts suit and its records belong
pub belongs_by : (setup : Setup) (guardian : ℕ) (kept : Kept) (suit records : Bool)
    → suit ≡ all_suit (objects_at setup guardian) kept.base.entries → map.entries (held kept).base ≡ kept.base.entries
    → records ≡ list_all (λ r. record_belongs setup (objects_at setup guardian) (record_of r)) (values_of kept.prepared.entries)
    → map.entries (held kept).prepared ≡ records_of kept.prepared.entries
    → (suit && records) ≡ belongs setup guardian (held kept)
belongs_by setup guardian kept suit records suits base belong prepared =
    let objects = objects_at setup guardian in
    ap₂ (λ a b. a && b) (suits ∙ ap (λ es. all_suit objects es) (sym base))
    (belong ∙ sym (each_record (λ r. record_belongs setup objects r) kept.prepared.entries)
    ∙ ap (λ es. list_all (λ e. record_belongs setup objects e.1) es) (sym prepared))

-- it does not where a part does not suit
pub belongs_not : (setup : Setup) (guardian : ℕ) (kept : Kept) (suit : Bool) → suit ≡ all_suit (objects_at setup guardian) kept.base.entries
    → map.entries (held kept).base ≡ kept.base.entries → suit ≡ false → suit ≡ belongs setup guardian (held kept)
belongs_not setup guardian kept suit suits base fails =
    let objects = objects_at setup guardian in
    fails ∙ sym (ap (λ b. b && list_all (λ e. record_belongs setup objects e.1) (map.entries (held kept).prepared))
    (ap (λ es. all_suit objects es) base ∙ sym suits ∙ fails))

back_one : (n : ℕ) → 1 ≤ n → (n + 1) - 1 ≡ (n - 1) + 1
back_one n h = omega arith

module _ {S : Type 0} (seen : S → View) (setup : Setup) (stores : List S) (g : ℕ) (s : S) (found : Bool) (within : g - 1 < length stores)
    (at : s ≡ get_or stores (g - 1) s) (is : found ≡ belongs setup g (seen s).content) where
  here : belong_from setup g (drop (g - 1) (contents seen stores)) ≡ (found && belong_from setup (g + 1) (drop ((g - 1) + 1) (contents seen stores)))
  here =
      let f = λ (s : S). (seen s).content in
      let long = length-map stores f in
      let c = get_or-map f stores (g - 1) s (f s) within ∙ ap f (sym at) in
      ap (λ cs. belong_from setup g cs) (drop_more (contents seen stores) (g - 1) (f s) (omega (arith, long, within)))
      ∙ ap (λ b. b && belong_from setup (g + 1) (drop ((g - 1) + 1) (contents seen stores))) (ap (λ x. belongs setup g x) c ∙ sym is)

  -- a store more belongs
  pub belong_more : 1 ≤ g → found ≡ true → belong_from setup g (drop (g - 1) (contents seen stores)) ≡ all_belong setup (contents seen stores)
      → belong_from setup (g + 1) (drop ((g + 1) - 1) (contents seen stores)) ≡ all_belong setup (contents seen stores)
  belong_more first it_does rest =
      ap (λ n. belong_from setup (g + 1) (drop n (contents seen stores))) (back_one g first)
      ∙ sym (here ∙ ap (λ b. b && belong_from setup (g + 1) (drop ((g - 1) + 1) (contents seen stores))) it_does) ∙ rest

  -- this one does not
  pub one_does_not : found ≡ false → belong_from setup g (drop (g - 1) (contents seen stores)) ≡ all_belong setup (contents seen stores)
      → false ≡ all_belong setup (contents seen stores)
  one_does_not it_does_not rest = sym (here ∙ ap (λ b. b && belong_from setup (g + 1) (drop ((g - 1) + 1) (contents seen stores))) it_does_not) ∙ rest

-- none is left
pub all_do : {S : Type 0} (seen : S → View) (setup : Setup) (stores : List S) (g : ℕ) → length stores ≤ g - 1
    → belong_from setup g (drop (g - 1) (contents seen stores)) ≡ all_belong setup (contents seen stores) → true ≡ all_belong setup (contents seen stores)
all_do seen setup stores g past rest =
    let long = length-map stores (λ s. (seen s).content) in
    sym (ap (λ cs. belong_from setup g cs) (drop_of_length-le (contents seen stores) (omega (arith, long, past)))) ∙ rest
