-- Stores some of whose records are settled.
use Rattle.std.proofs.Common.{◌≡◌, ◌⊎◌, inl, inr, ℕ, Bool, true, false, List, [], ◌∷◌, ◌++◌, fold, map as each, if◌then◌else◌, refl, sym, ap, ap₂, subst, ◌∙◌, append_assoc, append-nil}
use Rattle.std.specs.List.{AllZip}
use Rattle.std.specs.FinMap as map
use Rattle.std.proofs.lemmas.List.Sums.{fold-append}
use Rattle.stable_store.specs.Calls.{View}
use Rattle.stable_store.specs.Stored.{Record, Stored, after_bump, after_discard, after_install, installed}
use Rattle.store_recovery.specs.Settling.{IsSettledInPart, contents, is_decided, settled_by, settled_store}
use Rattle.store_recovery.specs.Steps.{HasFirst, IsBumpedAtMost, KeepsItself}
use Rattle.store_recovery.proofs.Entries.{first_removed}
use Rattle.store_recovery.proofs.Places.{zip_then, zip_with_itself}
use Rattle.store_recovery.proofs.Settled.{by, decided_alike, one_less}

-- t is s, or s with its first record settled
abbrev pub MovesOn : List Stored → Stored → Stored → Type 0
MovesOn stores s t = (t ≡ s) ⊎ ((e : ℕ × Record) × HasFirst s e × (t ≡ settled_by stores e s))

module _ (decided : ℕ → ℕ → Bool) where
  -- what a record makes of base and records depends on these alone
  same_base : (e : ℕ × Record) (s t : Stored) → t.base ≡ s.base → t.prepared ≡ s.prepared → (by decided e t).base ≡ (by decided e s).base
  same_base e s t base prepared = of (decided e.1.home e.0)
    where
      of : (b : Bool) → (if b then after_install e.0 t else after_discard e.0 t).base ≡ (if b then after_install e.0 s else after_discard e.0 s).base
      of true = ap₂ (λ records parts. installed (map.get records e.0) parts) prepared base
      of false = base

  same_prepared : (e : ℕ × Record) (s t : Stored) → t.prepared ≡ s.prepared → (by decided e t).prepared ≡ (by decided e s).prepared
  same_prepared e s t prepared = one_less decided e t ∙ ap (λ records. map.remove records e.0) prepared ∙ sym (one_less decided e s)

  -- the records behind those that were settled are left
  left_behind : (records left : List (ℕ × Record)) (s : Stored) → map.entries s.prepared ≡ records ++ left
      → map.entries (fold (λ t r. by decided r t) s records).prepared ≡ left
  left_behind [] left s are = are
  left_behind (e ∷ records) left s are =
      left_behind records left (by decided e s) (ap map.entries (one_less decided e s) ∙ first_removed s.prepared e (records ++ left) are)

module _ (stores : List Stored) where
  none_in_part : (s : Stored) → IsSettledInPart stores s s
  none_in_part s = record { records = []; left = map.entries s.prepared; are = refl; base = refl; prepared = refl }

  one_more : (s t u : Stored) (e : ℕ × Record) → IsSettledInPart stores s t → HasFirst t e → u ≡ settled_by stores e t → IsSettledInPart stores s u
  one_more s t u e p first is =
      let decided = is_decided stores in
      let settle = λ (v : Stored) (r : ℕ × Record). by decided r v in
      let so_far = fold settle s p.records in
      let more : fold settle s (p.records ++ e ∷ []) ≡ by decided e so_far = fold-append settle s p.records (e ∷ []) in
      let left : p.left ≡ e ∷ first.0 = sym (left_behind decided p.records p.left s p.are) ∙ sym (ap map.entries p.prepared) ∙ first.1 in record {
        records = p.records ++ e ∷ [];
        left = first.0;
        are = p.are ∙ ap (λ rest. p.records ++ rest) left ∙ sym (append_assoc p.records (e ∷ []) first.0);
        base = ap (λ v. v.base) is ∙ same_base decided e so_far t p.base p.prepared ∙ sym (ap (λ v. v.base) more);
        prepared = ap (λ v. v.prepared) is ∙ same_prepared decided e so_far t p.prepared ∙ sym (ap (λ v. v.prepared) more);
      }

  moved_on : (s t u : Stored) → IsSettledInPart stores s t → MovesOn stores t u → IsSettledInPart stores s u
  moved_on s t u p (inl same) = subst (λ v. IsSettledInPart stores s v) (sym same) p
  moved_on s t u p (inr (e, first, is)) = one_more s t u e p first is

  pub all_none_in_part : (ss : List Stored) → AllZip (IsSettledInPart stores) ss ss
  all_none_in_part ss = zip_with_itself (IsSettledInPart stores) none_in_part ss

  -- all records of each store, and a recovery counted
  pub all_in_part : (ss : List Stored) → AllZip (IsSettledInPart stores) ss (each after_bump (each (λ s. settled_store stores s) ss))
  all_in_part [] = tt
  all_in_part (s ∷ ss) =
      (record { records = map.entries s.prepared; left = []; are = sym (append-nil (map.entries s.prepared)); base = refl; prepared = refl }, all_in_part ss)

module _ {S : Type 0} (seen : S → View) where
  decided_each : (old new : List S) → AllZip (KeepsItself seen) old new → each (λ s. s.decided) (contents seen new) ≡ each (λ s. s.decided) (contents seen old)
  decided_each [] [] all = refl
  decided_each [] (n ∷ ns) all = absurd all
  decided_each (o ∷ os) [] all = absurd all
  decided_each (o ∷ os) (n ∷ ns) all = ap₂ (λ d ds. d ∷ ds) all.0.decided (decided_each os ns all.1)

  -- a call more that settles
  pub in_part_then : (old now new : List S) → AllZip (KeepsItself seen) old now
      → AllZip (IsSettledInPart (contents seen old)) (contents seen old) (contents seen now)
      → AllZip (MovesOn (contents seen now)) (contents seen now) (contents seen new)
      → AllZip (IsSettledInPart (contents seen old)) (contents seen old) (contents seen new)
  in_part_then old now new kept part moves =
      zip_then (IsSettledInPart (contents seen old)) (MovesOn (contents seen now)) (IsSettledInPart (contents seen old))
      (λ s t u p m. moved_on (contents seen old) s t u p (as_before t u m))
      (contents seen old) (contents seen now) (contents seen new) part moves
    where
      alike : is_decided (contents seen now) ≡ is_decided (contents seen old)
      alike = decided_alike (contents seen old) (contents seen now) (decided_each old now kept)

      as_before : (t u : Stored) → MovesOn (contents seen now) t u → MovesOn (contents seen old) t u
      as_before t u (inl same) = inl same
      as_before t u (inr (e, first, is)) = inr (e, first, is ∙ ap (λ d. by d e t) alike)

  -- recoveries counted
  pub in_part_bumped : (stores were : List Stored) (now new : List S) → AllZip (IsSettledInPart stores) were (contents seen now)
      → AllZip (IsBumpedAtMost seen) now new → AllZip (IsSettledInPart stores) were (contents seen new)
  in_part_bumped stores [] [] [] part all = tt
  in_part_bumped stores were [] (n ∷ ns) part all = absurd all
  in_part_bumped stores were (o ∷ os) [] part all = absurd all
  in_part_bumped stores [] (o ∷ os) (n ∷ ns) part all = absurd part
  in_part_bumped stores (w ∷ ws) [] [] part all = absurd part
  in_part_bumped stores (w ∷ ws) (o ∷ os) (n ∷ ns) part all =
      (still w (seen o).content (seen n).content part.0 all.0, in_part_bumped stores ws os ns part.1 all.1)
    where
      still : (s t u : Stored) → IsSettledInPart stores s t → (u ≡ t) ⊎ (u ≡ after_bump t) → IsSettledInPart stores s u
      still s t u p (inl same) = subst (λ v. IsSettledInPart stores s v) (sym same) p
      still s t u p (inr more) = record {
        records = p.records;
        left = p.left;
        are = p.are;
        base = ap (λ v. v.base) more ∙ p.base;
        prepared = ap (λ v. v.prepared) more ∙ p.prepared;
      }
