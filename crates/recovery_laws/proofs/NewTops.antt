-- A top action that has not begun: it is no orphan, and it sees what has committed up to the top.
use Rattle.std.proofs.Common.{Bool, List, [], ap, cond, false, filter, inl, inr, refl, reverse, sym, true, ◌&&◌, ◌++◌, ◌∙◌, ◌∷◌, ◌≡◌, ◌⊎◌}
use Rattle.std.proofs.lemmas.Bool.{and_left, and_right, false_from_ne_true, false≢true, or_from, or_left, or_right, true≢false}
use Rattle.std.proofs.lemmas.List.{reverse-append}
use Rattle.std.specs.List.{list_any}
use Rattle.action_names.specs.Names.{Name, ancestors, has_name, is_ancestor, is_top, same_name, top_of}
use Rattle.values.specs.declared.content.Content.{Content}
use Rattle.atomic_types.specs.Objects.{content_after}
use Rattle.atomic_types.specs.Operations.{is_read}
use Rattle.atomic_types.specs.TypeLaws.{reads_leave}
use Rattle.run_model.specs.declared.history.Event.{Event}
use Rattle.run_model.specs.declared.step.ObjectId.{ObjectId}
use Rattle.run_model.specs.Actions.{begun, is_aborted, is_begun, is_committed}
use Rattle.run_model.specs.Keeping.{Performed, is_kept, kept_on, performed, same_object}
use Rattle.run_model.specs.Openings.{Opening, first_content}
use Rattle.run_model.specs.Places.{visible_by_grant}
use Rattle.run_model.specs.Replay.{Store, left_of, store_after, updated}
use Rattle.run_model.specs.Runs.{IsRun}
use Rattle.run_model.specs.Visibility.{is_lost, is_orphan, is_visible}
use Rattle.run_laws.proofs.Begun.{ancestor_begun, nameless}
use Rattle.run_laws.proofs.Each.{Each}
use Rattle.run_laws.proofs.Exchanged.{same_object_true}
use Rattle.run_laws.proofs.Granted.{each_performed}
use Rattle.run_laws.proofs.Growth.{came_from}
use Rattle.run_laws.proofs.Kept.{visible_is_kept}
use Rattle.run_laws.proofs.Names.{any_ancestor_use, clash, same_name_self, same_name_true, top_facts, top_is_own}
use Rattle.run_laws.proofs.Visible.{visible_from, visible_use}
use Rattle.local_laws.proofs.Outcomes.{aborted_begun}
use Rattle.local_laws.proofs.Prepared.{above_top}
use Rattle.recovery_laws.specs.Laws.{NewTopsAreNoOrphans}

-- ---- what is left of an object

-- replay of one operation more
after_snoc : (s : Store) (os : List Performed) (o : Performed)
    → store_after s (os ++ o ∷ []) ≡ updated (store_after s os) o.object o.operation
after_snoc s [] o = refl
after_snoc s (p ∷ ps) o = after_snoc (updated s p.object p.operation) ps o

abbrev on : ObjectId → List Performed → List Performed
on x os = filter (λ p. same_object p.object x) os

-- what a list with the newest first, turned round, leaves of an object is what its operations on that object leave
after_reverse : (s : Store) (os : List Performed) (x : ObjectId) → store_after s (reverse os) x ≡ left_of (s x) (on x os)
after_reverse s [] x = refl
after_reverse s (o ∷ os) x =
    ap (λ l. store_after s l x) (reverse-append (o ∷ []) os) ∙ ap (λ t. t x) (after_snoc s (reverse os) o)
    ∙ step (same_object o.object x) refl (after_reverse s os x)
  where
    step : (t : Bool) → same_object o.object x ≡ t → store_after s (reverse os) x ≡ left_of (s x) (on x os)
        → cond t (content_after (store_after s (reverse os) o.object) o.operation) (store_after s (reverse os) x)
        ≡ left_of (s x) (cond t (o ∷ on x os) (on x os))
    step true e h =
        ap (λ y. content_after (store_after s (reverse os) y) o.operation) (same_object_true o.object x e)
        ∙ ap (λ c. content_after c o.operation) h
    step false e h = h

-- lists with the same writes leave the same
same_writes : (c : Content) (p q : Performed → Bool) (os : List Performed) → Each (λ o. (p o ≡ q o) ⊎ (is_read o.operation ≡ true)) os
    → left_of c (filter p os) ≡ left_of c (filter q os)
same_writes c p q [] h = refl
same_writes c p q (o ∷ os) h = step (p o) (q o) h.0 (same_writes c p q os h.1)
  where
    step : (a b : Bool) → (a ≡ b) ⊎ (is_read o.operation ≡ true) → left_of c (filter p os) ≡ left_of c (filter q os)
        → left_of c (cond a (o ∷ filter p os) (filter p os)) ≡ left_of c (cond b (o ∷ filter q os) (filter q os))
    step true true k e = ap (λ d. content_after d o.operation) e
    step false false k e = e
    step true false (inl k) e = absurd (true≢false k)
    step false true (inl k) e = absurd (false≢true k)
    step true false (inr k) e = reads_leave (left_of c (filter p os)) o.operation k ∙ e
    step false true (inr k) e = e ∙ sym (reads_leave (left_of c (filter q os)) o.operation k)

-- two tests one after the other
filter_twice : (p q : Performed → Bool) (os : List Performed) → filter p (filter q os) ≡ filter (λ o. q o && p o) os
filter_twice p q [] = refl
filter_twice p q (o ∷ os) = step (q o) (filter_twice p q os)
  where
    step : (t : Bool) → filter p (filter q os) ≡ filter (λ x. q x && p x) os
        → filter p (cond t (o ∷ filter q os) (filter q os))
        ≡ cond (t && p o) (o ∷ filter (λ x. q x && p x) os) (filter (λ x. q x && p x) os)
    step true e = ap (λ xs. cond (p o) (o ∷ xs) xs) e
    step false e = e

-- a test that fails for each name of a list
none_named : (p : Name → Bool) (names : List Name) → ((b : Name) → has_name names b ≡ true → p b ≡ false) → list_any p names ≡ false
none_named p [] h = refl
none_named p (a ∷ names) h =
    or_from (p a) (list_any p names) (h a (or_left _ _ (same_name_self a))) (none_named p names (λ b k. h b (or_right _ _ k)))

-- ---- the new top action

module _ (opening : Opening) (past : List Event) (r : IsRun opening past) (t : Name) (top : is_top t ≡ true) (new : is_begun t past ≡ false) where
  above_it : (c : Name) → is_ancestor c t ≡ true → c ≡ t
  above_it c k = same_name_true c t (sym (above_top c t top) ∙ k)

  pub no_orphan : is_orphan t past ≡ false
  no_orphan =
      or_from (list_any (λ c. is_aborted c past) (ancestors t))
      (list_any (λ b. same_name (top_of b) (top_of t) && (is_lost b past && is_visible b t past)) (begun past))
      none_aborted
      (none_named (λ b. same_name (top_of b) (top_of t) && (is_lost b past && is_visible b t past)) (begun past)
      (λ b h. and_left (same_name (top_of b) (top_of t)) (is_lost b past && is_visible b t past) (other_tree b h)))
    where
      none_aborted : list_any (λ c. is_aborted c past) (ancestors t) ≡ false
      none_aborted = false_from_ne_true _ (λ h.
          let (c, k, q) = any_ancestor_use (λ d. is_aborted d past) t h in
          clash (aborted_begun opening past t r (ap (λ d. is_aborted d past) (sym (above_it c k)) ∙ q)) new)

      other_tree : (b : Name) → is_begun b past ≡ true → same_name (top_of b) (top_of t) ≡ false
      other_tree b h = false_from_ne_true _ (λ k.
          let is : top_of b ≡ t = same_name_true (top_of b) (top_of t) k ∙ top_is_own t top in
          let above = top_facts b (nameless opening past b r h) in
          clash (ap (λ d. is_begun d past) (sym is) ∙ ancestor_begun opening past (top_of b) b r h above.1) new)

  -- what it sees has committed up to the top
  pub seen_committed : (b : Name) → is_begun b past ≡ true → is_visible b t past ≡ true → (c : Name) → is_ancestor c b ≡ true
      → is_committed c past ≡ true
  seen_committed b h v c k = elim (visible_use b t c past v k) [
    | inl l ↦ absurd (clash (ap (λ d. is_begun d past) (sym (above_it c l)) ∙ ancestor_begun opening past c b r h k) new)
    | inr m ↦ m
  ]

  -- and all that has so committed it sees
  pub committed_seen : (b : Name) → ((c : Name) → is_ancestor c b ≡ true → is_committed c past ≡ true) → is_visible b t past ≡ true
  committed_seen b h = visible_from b t past (λ c k. inr (h c k))

  -- What it would see of an object is what the kept operations leave that are visible to it.
  pub sees : (x : ObjectId)
      → store_after (first_content opening) (visible_by_grant t past) x
      ≡ left_of (first_content opening x) (filter (λ o. is_visible o.action t past) (kept_on x past))
  sees x =
      after_reverse (first_content opening) (filter (λ o. is_visible o.action t past) (performed past)) x
      ∙ ap (left_of (first_content opening x)) (filter_twice (λ o. same_object o.object x) (λ o. is_visible o.action t past) (performed past))
      ∙ same_writes (first_content opening x) (λ o. is_visible o.action t past && same_object o.object x)
      (λ o. (same_object o.object x && is_kept o past) && is_visible o.action t past) (performed past) each
      ∙ ap (left_of (first_content opening x))
      (sym (filter_twice (λ o. is_visible o.action t past) (λ o. same_object o.object x && is_kept o past) (performed past)))
    where
      Agrees : Performed → Type 0
      Agrees o =
          ((is_visible o.action t past && same_object o.object x) ≡ ((same_object o.object x && is_kept o past) && is_visible o.action t past))
          ⊎ (is_read o.operation ≡ true)

      turned : (v s : Bool) → (v && s) ≡ ((s && true) && v)
      turned true true = refl
      turned true false = refl
      turned false true = refl
      turned false false = refl

      hidden : (v s k : Bool) → v ≡ false → (v && s) ≡ ((s && k) && v)
      hidden v s k e = and_left v s e ∙ sym (and_right (s && k) v e)

      each : Each Agrees (performed past)
      each = each_performed past Agrees (λ o e before g w. of o (is_visible o.action t past) refl (λ v. kept o (visible_is_kept opening past r t o e before no_orphan (came_from w) g v)))
        where
          kept : (o : Performed) {T : Type 0} → (is_kept o past ≡ true) ⊎ ((is_read o.operation ≡ true) × T)
              → (is_kept o past ≡ true) ⊎ (is_read o.operation ≡ true)
          kept o (inl k) = inl k
          kept o (inr k) = inr k.0

          of : (o : Performed) (v : Bool) → is_visible o.action t past ≡ v
              → (is_visible o.action t past ≡ true → (is_kept o past ≡ true) ⊎ (is_read o.operation ≡ true)) → Agrees o
          of o false e h = inl (hidden (is_visible o.action t past) (same_object o.object x) (is_kept o past) e)
          of o true e h = elim (h e) [
            | inl k ↦ inl (turned (is_visible o.action t past) (same_object o.object x)
                ∙ ap (λ u. (same_object o.object x && u) && is_visible o.action t past) (sym k))
            | inr k ↦ inr k
          ]

-- the law
pub new_tops_are_no_orphans : NewTopsAreNoOrphans
new_tops_are_no_orphans opening past t r top new = no_orphan opening past r t top new
