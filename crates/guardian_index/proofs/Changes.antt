-- What changes of rows leave of what was held, and of the room for it.
use Rattle.std.proofs.Common.{◌≡◌, ℕ, ◌+◌, ◌≤◌, Bool, true, false, cond, not, ◌&&◌, ◌||◌, filter, List, [], ◌∷◌, length, refl, sym, ap, ◌∙◌, subst, arith}
use Rattle.std.specs.Prelude.{Option, Some, None, is_some, nat_lt, vec_len, vec_capacity}
use Rattle.std.proofs.lemmas.Bool.{true≢false, false≢true}
use Rattle.std.specs.List.Sorted.{IsStrictlySortedBy}
use Rattle.std.specs.declared.vec.Vec.{Vec}
use Rattle.std.specs.BTreeMap.{is_at, insert_entry}
use Rattle.std.specs.Map.{keys_of, lookup, remove_entry, set_value}
use Rattle.action_names.specs.Names.{Name, same_name, name_cmp, is_ancestor, is_proper_ancestor}
use Rattle.action_names.proofs.Ancestry.{same_is, same_refl, same_sym, self_above, ancestor_trans, proper}
use Rattle.guardian_index.specs.Held.{Row, Rows, has_number, no_row, row_at, objects_at, room_at, has_object, has_room, count_in, count_below, HasRoomBelow, HasRoomFrom, is_name_of, row_of, rows_in}
use Rattle.guardian_index.proofs.Rows.{found, set_row, out_row, put_row, kept_row}
use Rattle.guardian_index.proofs.Counts.{zero_both, counts, count_set, count_out, count_put, count_kept, count_gone}

abbrev row_with : List ℕ → ℕ → Row
row_with ns n = record { objects = ns; room = n }

-- all hold the same objects, and nobody has less room
pub record Widens (old new : Rows) : Type 0 where
  pub held : (b : Name) → objects_at new b ≡ objects_at old b
  pub room : (b : Name) → room_at old b ≤ room_at new b
  pub below : (b : Name) → count_below new b ≡ count_below old b

module _ {Z : Type 0} where
  some_there : (a : Name) (es : List (Name × Vec ℕ Z)) (v : Vec ℕ Z) → Some v ≡ lookup (is_at (name_cmp a)) es → is_some (lookup (is_at (name_cmp a)) es) ≡ true
  some_there a es v q = ap is_some (sym q)

  own_row : (a : Name) (es : List (Name × Vec ℕ Z)) (v : Vec ℕ Z) → Some v ≡ lookup (is_at (name_cmp a)) es → row_of v ≡ row_at (rows_in es) a
  own_row a es v q = found a es (Some v) q

  -- one without a row
  pub rowless : (s : Rows) (es : List (Name × Vec ℕ Z)) (a : Name) → rows_in es ≡ s → None ≡ lookup (is_at (name_cmp a)) es → row_at s a ≡ no_row
  rowless s es a e q = ap (λ (rs : Rows). row_at rs a) (sym e) ∙ sym (found a es None q)

  pub row_is : (s : Rows) (es : List (Name × Vec ℕ Z)) (a : Name) (v : Vec ℕ Z) → rows_in es ≡ s → Some v ≡ lookup (is_at (name_cmp a)) es → row_of v ≡ row_at s a
  row_is s es a v e q = own_row a es v q ∙ ap (λ (rs : Rows). row_at rs a) e

  -- the room for one more object, said of the row
  pub room_here : (s : Rows) (es : List (Name × Vec ℕ Z)) (a : Name) (v : Vec ℕ Z) (n : ℕ) → rows_in es ≡ s → Some v ≡ lookup (is_at (name_cmp a)) es
      → has_object s a n || has_room s a ≡ true → has_number v.items n || nat_lt (vec_len v) (vec_capacity v) ≡ true
  room_here s es a v n e q h =
      let shown : has_number v.items n || nat_lt (length v.items) (vec_capacity v) ≡ true =
      subst (λ (r : Row). has_number r.objects n || nat_lt (length r.objects) r.room ≡ true) (sym (row_is s es a v e q)) h in
      subst (λ k. has_number v.items n || nat_lt k (vec_capacity v) ≡ true) (sym v.ok.0) shown

  -- and for many more
  pub room_all : (s : Rows) (es : List (Name × Vec ℕ Z)) (a : Name) (v : Vec ℕ Z) (k : ℕ) → rows_in es ≡ s → Some v ≡ lookup (is_at (name_cmp a)) es
      → length (objects_at s a) + k ≤ room_at s a → vec_len v + k ≤ vec_capacity v
  room_all s es a v k e q h =
      let shown : length v.items + k ≤ vec_capacity v = subst (λ (r : Row). length r.objects + k ≤ r.room) (sym (row_is s es a v e q)) h in
      omega (arith, shown, v.ok.0)

  -- one without a row has no room
  pub no_room : (s : Rows) (es : List (Name × Vec ℕ Z)) (a : Name) (n : ℕ) → rows_in es ≡ s → None ≡ lookup (is_at (name_cmp a)) es
      → has_object s a n || has_room s a ≡ true → ⊥
  no_room s es a n e q h = false≢true (subst (λ (r : Row). has_number r.objects n || nat_lt (length r.objects) r.room ≡ true) (rowless s es a e q) h)

  pub none_more : (s : Rows) (es new : List (Name × Vec ℕ Z)) (a : Name) (objects : List ℕ) → rows_in es ≡ s → new ≡ es → None ≡ lookup (is_at (name_cmp a)) es
      → length (objects_at s a) + length objects ≤ room_at s a → (b : Name) (n : ℕ)
      → has_object (rows_in new) b n ≡ (same_name a b && has_number objects n) || has_object s b n
  none_more s es new a objects e is q h b n =
      let none : 0 + length objects ≤ 0 = subst (λ (r : Row). length r.objects + length objects ≤ r.room) (rowless s es a e q) h in
      ap (λ (ns : List (Name × Vec ℕ Z)). has_object (rows_in ns) b n) is ∙ ap (λ (rs : Rows). has_object rs b n) e
      ∙ nothing (same_name a b) (has_object s b n) objects none where
        nothing : (t r : Bool) (ns : List ℕ) → 0 + length ns ≤ 0 → r ≡ (t && has_number ns n) || r
        nothing true r [] l = refl
        nothing false r [] l = refl
        nothing t r (m ∷ ns) l = absurd (omega (arith, l))

  -- a row whose objects stay has no less room
  pub widened : (s : Rows) (es new : List (Name × Vec ℕ Z)) (a : Name) (v w : Vec ℕ Z) → rows_in es ≡ s → Some v ≡ lookup (is_at (name_cmp a)) es
      → new ≡ set_value (is_at (name_cmp a)) es w → w.items ≡ v.items → vec_capacity v ≤ vec_capacity w → Widens s (rows_in new)
  widened s es new a v w e q is items more =
      subst (λ (rs : Rows). Widens rs (rows_in new)) e (subst (λ (ns : List (Name × Vec ℕ Z)). Widens (rows_in es) (rows_in ns)) (sym is) (record {
        held = λ b. ap (λ (r : Row). r.objects) (set_row a b w es (some_there a es v q)) ∙ same_objects b (same_name a b) refl;
        room = λ b. subst (λ (r : Row). room_at (rows_in es) b ≤ r.room) (sym (set_row a b w es (some_there a es v q))) (more_room b (same_name a b) refl);
        below = λ b. counted b;
      })) where
        same_objects : (b : Name) (t : Bool) → same_name a b ≡ t → (cond t (row_of w) (row_at (rows_in es) b)).objects ≡ objects_at (rows_in es) b
        same_objects b true d = items ∙ ap (λ (r : Row). r.objects) (own_row a es v q) ∙ ap (objects_at (rows_in es)) (same_is a b d)
        same_objects b false d = refl

        more_room : (b : Name) (t : Bool) → same_name a b ≡ t → room_at (rows_in es) b ≤ (cond t (row_of w) (row_at (rows_in es) b)).room
        more_room b true d =
            let here : vec_capacity v ≡ room_at (rows_in es) b = ap (λ (r : Row). r.room) (own_row a es v q) ∙ ap (room_at (rows_in es)) (same_is a b d) in
            subst (λ n. n ≤ vec_capacity w) here more
        more_room b false d = omega arith

        counted : (b : Name) → count_below (rows_in (set_value (is_at (name_cmp a)) es w)) b ≡ count_below (rows_in es) b
        counted b =
            let sums = count_set a b w v es q in
            let same : count_in b (a, row_of w) ≡ count_in b (a, row_of v) = ap (λ ns. cond (is_ancestor b a) (length {A = ℕ} ns) 0) items in
            cancelled _ _ _ _ sums same where
              cancelled : (x y z u : ℕ) → x + y ≡ z + u → u ≡ y → x ≡ z
              cancelled x y z u p k = omega arith

  -- the room that its holder then has
  pub own_room : (es new : List (Name × Vec ℕ Z)) (a : Name) (v w : Vec ℕ Z) → Some v ≡ lookup (is_at (name_cmp a)) es
      → new ≡ set_value (is_at (name_cmp a)) es w → room_at (rows_in new) a ≡ vec_capacity w
  own_room es new a v w q is =
      ap (λ (ns : List (Name × Vec ℕ Z)). room_at (rows_in ns) a) is
      ∙ ap (λ (r : Row). r.room) (set_row a a w es (some_there a es v q)) ∙ ap (λ t. (cond t (row_of w) (row_at (rows_in es) a)).room) (same_refl a)

  -- a row that shows the same changes nothing
  pub unchanged : (a : Name) (v w : Vec ℕ Z) (es : List (Name × Vec ℕ Z)) → Some v ≡ lookup (is_at (name_cmp a)) es → row_of w ≡ row_of v
      → rows_in (set_value (is_at (name_cmp a)) es w) ≡ rows_in es
  unchanged a v w [] q is = refl
  unchanged a v w (e ∷ es) q is = by_case (unchanged a v w es) (is_at (name_cmp a) e.0) refl q where
    by_case : (Some v ≡ lookup (is_at (name_cmp a)) es → row_of w ≡ row_of v → rows_in (set_value (is_at (name_cmp a)) es w) ≡ rows_in es)
        → (t : Bool) → is_at (name_cmp a) e.0 ≡ t → Some v ≡ lookup (is_at (name_cmp a)) (e ∷ es)
        → rows_in (set_value (is_at (name_cmp a)) (e ∷ es) w) ≡ rows_in (e ∷ es)
    by_case later true d q =
        let here : Some v ≡ Some e.1 = rw d at q in
        let same : v ≡ e.1 = cc in
        simp d (ap (λ (r : Row). (e.0, r) ∷ rows_in es) (is ∙ ap (λ (u : Vec ℕ Z). row_of u) same))
    by_case later false d q = simp d (ap (λ (rs : Rows). (e.0, row_of e.1) ∷ rs) (later (rw d at q) is))

  pub same_shown : (v w : Vec ℕ Z) → w.items ≡ v.items → vec_capacity w ≡ vec_capacity v → row_of w ≡ row_of v
  same_shown v w items room = ap (λ ns. row_with ns (vec_capacity w)) items ∙ ap (row_with v.items) room

  pub not_reserved : (s : Rows) (es new : List (Name × Vec ℕ Z)) (a : Name) (v w : Vec ℕ Z) → rows_in es ≡ s → Some v ≡ lookup (is_at (name_cmp a)) es
      → new ≡ set_value (is_at (name_cmp a)) es w → w.items ≡ v.items → vec_capacity w ≡ vec_capacity v → rows_in new ≡ s
  not_reserved s es new a v w e q is items room =
      ap (λ (ns : List (Name × Vec ℕ Z)). rows_in ns) is ∙ unchanged a v w es q (same_shown v w items room) ∙ e

  pub reserved : (s : Rows) (es new : List (Name × Vec ℕ Z)) (a : Name) (v w : Vec ℕ Z) (k : ℕ) → rows_in es ≡ s → Some v ≡ lookup (is_at (name_cmp a)) es
      → new ≡ set_value (is_at (name_cmp a)) es w → vec_len w ≡ vec_len v → vec_len w + k ≤ vec_capacity w → length (objects_at s a) + k ≤ room_at (rows_in new) a
  reserved s es new a v w k e q is same room =
      let own : length v.items ≡ length (objects_at s a) = ap (λ (r : Row). length r.objects) (row_is s es a v e q) in
      let has : room_at (rows_in new) a ≡ vec_capacity w = own_room es new a v w q is in
      omega (arith, own, has, same, room, v.ok.0)

  -- a new row that is empty
  pub added : (s : Rows) (es new : List (Name × Vec ℕ Z)) (a : Name) (w : Vec ℕ Z) → rows_in es ≡ s → None ≡ lookup (is_at (name_cmp a)) es
      → new ≡ insert_entry name_cmp es a w → w.items ≡ [] → Widens s (rows_in new)
  added s es new a w e q is items =
      subst (λ (rs : Rows). Widens rs (rows_in new)) e (subst (λ (ns : List (Name × Vec ℕ Z)). Widens (rows_in es) (rows_in ns)) (sym is) (record {
        held = λ b. ap (λ (r : Row). r.objects) (put_row a b w es) ∙ same_objects b (same_name a b) refl;
        room = λ b. subst (λ (r : Row). room_at (rows_in es) b ≤ r.room) (sym (put_row a b w es)) (more_room b (same_name a b) refl);
        below = λ b. counted b;
      })) where
        none : (b : Name) → same_name a b ≡ true → row_at (rows_in es) b ≡ no_row
        none b d = ap (row_at (rows_in es)) (sym (same_is a b d)) ∙ sym (found a es None q)

        same_objects : (b : Name) (t : Bool) → same_name a b ≡ t → (cond t (row_of w) (row_at (rows_in es) b)).objects ≡ objects_at (rows_in es) b
        same_objects b true d = items ∙ sym (ap (λ (r : Row). r.objects) (none b d))
        same_objects b false d = refl

        more_room : (b : Name) (t : Bool) → same_name a b ≡ t → room_at (rows_in es) b ≤ (cond t (row_of w) (row_at (rows_in es) b)).room
        more_room b true d = let no : room_at (rows_in es) b ≡ 0 = ap (λ (r : Row). r.room) (none b d) in subst (λ n. n ≤ vec_capacity w) (sym no) (omega arith)
        more_room b false d = omega arith

        counted : (b : Name) → count_below (rows_in (insert_entry name_cmp es a w)) b ≡ count_below (rows_in es) b
        counted b =
            let nothing : count_in b (a, row_of w) ≡ 0 = ap (λ ns. cond (is_ancestor b a) (length {A = ℕ} ns) 0) items ∙ zero_both (is_ancestor b a) in
            count_put a b w es q ∙ ap (λ n. n + count_below (rows_in es) b) nothing ∙ plain (count_below (rows_in es) b) where
              plain : (n : ℕ) → 0 + n ≡ n
              plain n = omega arith

  -- a new row, with what stands in it
  pub put_held : (s : Rows) (es new : List (Name × Vec ℕ Z)) (a : Name) (w : Vec ℕ Z) → rows_in es ≡ s → None ≡ lookup (is_at (name_cmp a)) es
      → new ≡ insert_entry name_cmp es a w → (b : Name) (n : ℕ) → has_object (rows_in new) b n ≡ (same_name a b && has_number w.items n) || has_object s b n
  put_held s es new a w e q is b n =
      ap (λ (ns : List (Name × Vec ℕ Z)). has_object (rows_in ns) b n) is
      ∙ ap (λ (r : Row). has_number r.objects n) (put_row a b w es)
      ∙ by_case (same_name a b) refl
      ∙ ap (λ (rs : Rows). (same_name a b && has_number w.items n) || has_object rs b n) e where
        plain : (h : Bool) → h ≡ h || false
        plain true = refl
        plain false = refl

        nothing : same_name a b ≡ true → false ≡ has_object (rows_in es) b n
        nothing d = ap (λ (r : Row). has_number r.objects n) (found a es None q) ∙ ap (λ m. has_object (rows_in es) m n) (same_is a b d)

        by_case : (t : Bool) → same_name a b ≡ t
            → has_number (cond t (row_of w) (row_at (rows_in es) b)).objects n ≡ (t && has_number w.items n) || has_object (rows_in es) b n
        by_case true d = plain (has_number w.items n) ∙ ap (λ h. has_number w.items n || h) (nothing d)
        by_case false d = refl

  pub put_room : (s : Rows) (es new : List (Name × Vec ℕ Z)) (a : Name) (w : Vec ℕ Z) → rows_in es ≡ s → None ≡ lookup (is_at (name_cmp a)) es
      → new ≡ insert_entry name_cmp es a w → (b : Name) → room_at s b ≤ room_at (rows_in new) b
  put_room s es new a w e q is b =
      subst (λ (rs : Rows). room_at rs b ≤ room_at (rows_in new) b) e
      (subst (λ (ns : List (Name × Vec ℕ Z)). room_at (rows_in es) b ≤ room_at (rows_in ns) b) (sym is)
      (subst (λ (r : Row). room_at (rows_in es) b ≤ r.room) (sym (put_row a b w es)) (by_case (same_name a b) refl))) where
        none : same_name a b ≡ true → room_at (rows_in es) b ≡ 0
        none d = ap (room_at (rows_in es)) (sym (same_is a b d)) ∙ ap (λ (r : Row). r.room) (sym (found a es None q))

        by_case : (t : Bool) → same_name a b ≡ t → room_at (rows_in es) b ≤ (cond t (row_of w) (row_at (rows_in es) b)).room
        by_case true d = subst (λ n. n ≤ vec_capacity w) (sym (none d)) (omega arith)
        by_case false d = omega arith

  pub put_counted : (s : Rows) (es new : List (Name × Vec ℕ Z)) (a : Name) (w : Vec ℕ Z) → rows_in es ≡ s → None ≡ lookup (is_at (name_cmp a)) es
      → new ≡ insert_entry name_cmp es a w → (b : Name) → count_below (rows_in new) b ≤ count_below s b + cond (is_ancestor b a) (length w.items) 0
  put_counted s es new a w e q is b =
      subst (λ (rs : Rows). count_below (rows_in new) b ≤ count_below rs b + cond (is_ancestor b a) (length w.items) 0) e
      (subst (λ (ns : List (Name × Vec ℕ Z)). count_below (rows_in ns) b ≤ count_below (rows_in es) b + cond (is_ancestor b a) (length w.items) 0) (sym is)
      (within _ _ _ (count_put a b w es q))) where
        within : (x c n : ℕ) → x ≡ c + n → x ≤ n + c
        within x c n p = omega arith

  pub added_room : (es new : List (Name × Vec ℕ Z)) (a n : Name) (w : Vec ℕ Z) → new ≡ insert_entry name_cmp es n w → n ≡ a
      → room_at (rows_in new) a ≡ vec_capacity w
  added_room es new a n w is same =
      ap (λ (ns : List (Name × Vec ℕ Z)). room_at (rows_in ns) a) (is ∙ ap (λ m. insert_entry name_cmp es m w) same)
      ∙ ap (λ (r : Row). r.room) (put_row a a w es) ∙ ap (λ t. (cond t (row_of w) (row_at (rows_in es) a)).room) (same_refl a)

  pub added_reserved : (s : Rows) (es new : List (Name × Vec ℕ Z)) (a n : Name) (w : Vec ℕ Z) (k : ℕ) → rows_in es ≡ s → None ≡ lookup (is_at (name_cmp a)) es
      → new ≡ insert_entry name_cmp es n w → n ≡ a → k ≤ vec_capacity w → length (objects_at s a) + k ≤ room_at (rows_in new) a
  added_reserved s es new a n w k e q is same room =
      let none : length (objects_at s a) ≡ 0 = ap (λ (r : Row). length r.objects) (rowless s es a e q) in
      let has : room_at (rows_in new) a ≡ vec_capacity w = added_room es new a n w is same in
      omega (arith, none, has, room)

  -- ---- a row with more objects
  pub more_held : (s : Rows) (es new : List (Name × Vec ℕ Z)) (a : Name) (v w : Vec ℕ Z) (extra : ℕ → Bool) → rows_in es ≡ s → Some v ≡ lookup (is_at (name_cmp a)) es
      → new ≡ set_value (is_at (name_cmp a)) es w → ((m : ℕ) → has_number w.items m ≡ extra m || has_number v.items m) → (b : Name) (n : ℕ)
      → has_object (rows_in new) b n ≡ (same_name a b && extra n) || has_object s b n
  more_held s es new a v w extra e q is more b n =
      ap (λ (ns : List (Name × Vec ℕ Z)). has_object (rows_in ns) b n) is
      ∙ ap (λ (r : Row). has_number r.objects n) (set_row a b w es (some_there a es v q))
      ∙ by_case (same_name a b) refl
      ∙ ap (λ (rs : Rows). (same_name a b && extra n) || has_object rs b n) e where
        by_case : (t : Bool) → same_name a b ≡ t → has_number (cond t (row_of w) (row_at (rows_in es) b)).objects n ≡ (t && extra n) || has_object (rows_in es) b n
        by_case true d =
            more n ∙ ap (λ (r : Row). extra n || has_number r.objects n) (own_row a es v q) ∙ ap (λ m. extra n || has_object (rows_in es) m n) (same_is a b d)
        by_case false d = refl

  pub same_room : (s : Rows) (es new : List (Name × Vec ℕ Z)) (a : Name) (v w : Vec ℕ Z) → rows_in es ≡ s → Some v ≡ lookup (is_at (name_cmp a)) es
      → new ≡ set_value (is_at (name_cmp a)) es w → vec_capacity w ≡ vec_capacity v → (b : Name) → room_at (rows_in new) b ≡ room_at s b
  same_room s es new a v w e q is same b =
      ap (λ (ns : List (Name × Vec ℕ Z)). room_at (rows_in ns) b) is
      ∙ ap (λ (r : Row). r.room) (set_row a b w es (some_there a es v q))
      ∙ by_case (same_name a b) refl
      ∙ ap (λ (rs : Rows). room_at rs b) e where
        by_case : (t : Bool) → same_name a b ≡ t → (cond t (row_of w) (row_at (rows_in es) b)).room ≡ room_at (rows_in es) b
        by_case true d = same ∙ ap (λ (r : Row). r.room) (own_row a es v q) ∙ ap (room_at (rows_in es)) (same_is a b d)
        by_case false d = refl

  pub more_counted : (s : Rows) (es new : List (Name × Vec ℕ Z)) (a : Name) (v w : Vec ℕ Z) (k : ℕ) → rows_in es ≡ s → Some v ≡ lookup (is_at (name_cmp a)) es
      → new ≡ set_value (is_at (name_cmp a)) es w → vec_len w ≤ vec_len v + k → (b : Name)
      → count_below (rows_in new) b ≤ count_below s b + cond (is_ancestor b a) k 0
  more_counted s es new a v w k e q is more b =
      subst (λ (rs : Rows). count_below (rows_in new) b ≤ count_below rs b + cond (is_ancestor b a) k 0) e
      (subst (λ (ns : List (Name × Vec ℕ Z)). count_below (rows_in ns) b ≤ count_below (rows_in es) b + cond (is_ancestor b a) k 0) (sym is)
      (within _ _ (length v.items) (length w.items) (is_ancestor b a) (count_set a b w v es q) lengths)) where
        lengths : length w.items ≤ length v.items + k
        lengths = omega (arith, more, v.ok.0, w.ok.0)

        within : (x z m n : ℕ) (t : Bool) → x + cond t m 0 ≡ z + cond t n 0 → n ≤ m + k → x ≤ z + cond t k 0
        within x z m n true p l = omega arith
        within x z m n false p l = omega arith

  -- ---- rows kept by their names
  pub kept_held : (s : Rows) (es new : List (Name × Vec ℕ Z)) (p : Name → Bool) → rows_in es ≡ s → new ≡ filter (λ e. p e.0) es → (b : Name) (n : ℕ)
      → has_object (rows_in new) b n ≡ p b && has_object s b n
  kept_held s es new p e is b n =
      ap (λ (ns : List (Name × Vec ℕ Z)). has_object (rows_in ns) b n) is
      ∙ ap (λ (r : Row). has_number r.objects n) (kept_row p b es)
      ∙ by_case (p b)
      ∙ ap (λ (rs : Rows). p b && has_object rs b n) e where
        by_case : (t : Bool) → has_number (cond t (row_at (rows_in es) b) no_row).objects n ≡ t && has_object (rows_in es) b n
        by_case true = refl
        by_case false = refl

  -- all have room that had it, once an action and its descendants are gone
  pub room_left : (s : Rows) (es new : List (Name × Vec ℕ Z)) (a : Name) → rows_in es ≡ s → new ≡ filter (λ e. not (is_ancestor a e.0)) es → (b : Name)
      → HasRoomBelow s b → HasRoomBelow (rows_in new) b
  room_left s es new a e is b room =
      subst (λ (ns : List (Name × Vec ℕ Z)). HasRoomBelow (rows_in ns) b) (sym is)
      (by_case (is_ancestor a b) refl (subst (λ (rs : Rows). HasRoomBelow rs b) (sym e) room)) where
        by_case : (t : Bool) → is_ancestor a b ≡ t → HasRoomBelow (rows_in es) b → HasRoomBelow (rows_in (filter (λ e. not (is_ancestor a e.0)) es)) b
        by_case true up room = let none = count_gone a b es up in subst (λ n. n ≤ room_at (rows_in (filter (λ e. not (is_ancestor a e.0)) es)) b) (sym none) (omega arith)
        by_case false up room =
            let same : room_at (rows_in (filter (λ e. not (is_ancestor a e.0)) es)) b ≡ room_at (rows_in es) b =
            ap (λ (r : Row). r.room) (kept_row (λ m. not (is_ancestor a m)) b es ∙ ap (λ t. cond (not t) (row_at (rows_in es) b) no_row) up) in
            let fewer = count_kept (λ m. not (is_ancestor a m)) b es in
            subst (λ n. count_below (rows_in (filter (λ e. not (is_ancestor a e.0)) es)) b ≤ n) (sym same) (le_trans _ _ _ fewer room) where
              le_trans : (x y z : ℕ) → x ≤ y → y ≤ z → x ≤ z
              le_trans x y z p q = omega arith

  -- ---- a row taken out
  pub out_rows : (s : Rows) (es new : List (Name × Vec ℕ Z)) (a : Name) → rows_in es ≡ s → IsStrictlySortedBy name_cmp (keys_of es)
      → new ≡ remove_entry (is_at (name_cmp a)) es → (b : Name) → row_at (rows_in new) b ≡ cond (same_name a b) no_row (row_at s b)
  out_rows s es new a e k is b =
      ap (λ (ns : List (Name × Vec ℕ Z)). row_at (rows_in ns) b) is ∙ out_row a b es k ∙ ap (λ (rs : Rows). cond (same_name a b) no_row (row_at rs b)) e

  pub out_counted : (s : Rows) (es new : List (Name × Vec ℕ Z)) (a : Name) → rows_in es ≡ s → new ≡ remove_entry (is_at (name_cmp a)) es → (b : Name)
      → count_below (rows_in new) b + count_in b (a, row_at s a) ≡ count_below s b
  out_counted s es new a e is b =
      ap (λ (ns : List (Name × Vec ℕ Z)). count_below (rows_in ns) b + count_in b (a, row_at s a)) is
      ∙ ap (λ (rs : Rows). count_below (rows_in (remove_entry (is_at (name_cmp a)) es)) b + count_in b (a, row_at rs a)) (sym e)
      ∙ count_out a b es ∙ ap (λ (rs : Rows). count_below rs b) e

-- what is left of each holder's objects, where nothing was to be handed on
pub nothing_handed : (s : Rows) (a : Name) (to : Option Name) → row_at s a ≡ no_row → (b : Name) (n : ℕ)
    → has_object s b n ≡ not (same_name a b) && (has_object s b n || (is_name_of to b && has_object s a n))
nothing_handed s a to none b n = by_case (same_name a b) refl where
  absent : has_object s a n ≡ false
  absent = ap (λ (r : Row). has_number r.objects n) none

  plain : (h t : Bool) → h ≡ h || (t && false)
  plain true t = refl
  plain false true = refl
  plain false false = refl

  by_case : (t : Bool) → same_name a b ≡ t → has_object s b n ≡ not t && (has_object s b n || (is_name_of to b && has_object s a n))
  by_case true d = ap (λ m. has_object s m n) (sym (same_is a b d)) ∙ absent
  by_case false d = plain (has_object s b n) (is_name_of to b) ∙ ap (λ x. has_object s b n || (is_name_of to b && x)) (sym absent)

-- and where it was given up
pub given_up : (s new : Rows) (a : Name) → ((b : Name) → row_at new b ≡ cond (same_name a b) no_row (row_at s b)) → (b : Name) (n : ℕ)
    → has_object new b n ≡ not (same_name a b) && (has_object s b n || (false && has_object s a n))
given_up s new a rows b n = ap (λ (r : Row). has_number r.objects n) (rows b) ∙ by_case (same_name a b) where
  plain : (h : Bool) → h ≡ h || false
  plain true = refl
  plain false = refl

  by_case : (t : Bool) → has_number (cond t no_row (row_at s b)).objects n ≡ not t && (has_object s b n || false)
  by_case true = refl
  by_case false = plain (has_object s b n)

-- and where an ancestor got it
pub handed : (s mid new : Rows) (a h : Name) (objects : List ℕ) → is_proper_ancestor h a ≡ true → objects ≡ objects_at s a
    → ((b : Name) → row_at mid b ≡ cond (same_name a b) no_row (row_at s b))
    → ((b : Name) (n : ℕ) → has_object new b n ≡ (same_name h b && has_number objects n) || has_object mid b n) → (b : Name) (n : ℕ)
    → has_object new b n ≡ not (same_name a b) && (has_object s b n || (same_name h b && has_object s a n))
handed s mid new a h objects up own rows more b n =
    more b n ∙ ap (λ ns. (same_name h b && has_number ns n) || has_object mid b n) own
    ∙ ap (λ (r : Row). (same_name h b && has_object s a n) || has_number r.objects n) (rows b) ∙ by_case (same_name a b) refl (same_name h b) refl where
      turned : (x y : Bool) → x || y ≡ y || x
      turned true true = refl
      turned true false = refl
      turned false true = refl
      turned false false = refl

      by_case : (t : Bool) → same_name a b ≡ t → (u : Bool) → same_name h b ≡ u
          → (u && has_object s a n) || has_number (cond t no_row (row_at s b)).objects n ≡ not t && (has_object s b n || (u && has_object s a n))
      by_case true d true k = absurd (true≢false (sym k ∙ subst (λ x. same_name h x ≡ false) (same_is a b d) (proper h a up).1))
      by_case true d false k = refl
      by_case false d u k = turned (u && has_object s a n) (has_object s b n)

-- the ancestor has room for what it gets
pub fits : (s mid : Rows) (a h : Name) (objects : List ℕ) → is_proper_ancestor h a ≡ true → objects ≡ objects_at s a → HasRoomFrom s h a
    → ((b : Name) → row_at mid b ≡ cond (same_name a b) no_row (row_at s b)) → length (objects_at mid h) + length objects ≤ room_at mid h
fits s mid a h objects up own room rows =
    let same : row_at mid h ≡ row_at s h = rows h ∙ ap (λ t. cond t no_row (row_at s h)) (turn (proper h a up).1) in
    subst (λ (r : Row). length r.objects + length objects ≤ r.room) (sym same)
    (subst (λ (ns : List ℕ). length (objects_at s h) + length ns ≤ room_at s h) (sym own) room) where
      turn : same_name h a ≡ false → same_name a h ≡ false
      turn d = by_case (same_name a h) refl where
        by_case : (t : Bool) → same_name a h ≡ t → same_name a h ≡ false
        by_case true e = absurd (true≢false (sym (same_sym a h e) ∙ d))
        by_case false e = e

-- all others have room that had it, once a row is taken out
pub others_room : (s new : Rows) (a : Name) → ((b : Name) → row_at new b ≡ cond (same_name a b) no_row (row_at s b))
    → ((b : Name) → count_below new b + count_in b (a, row_at s a) ≡ count_below s b) → (b : Name) → same_name a b ≡ false → HasRoomBelow s b → HasRoomBelow new b
others_room s new a rows sum b other room =
    let same : room_at new b ≡ room_at s b = ap (λ (r : Row). r.room) (rows b) ∙ ap (λ t. (cond t no_row (row_at s b)).room) other in
    less _ _ _ _ _ (sum b) room same where
      less : (x y n r l : ℕ) → x + y ≡ n → n ≤ r → l ≡ r → x ≤ l
      less x y n r l p k e = omega arith

-- and once an ancestor got its objects, whose room is no less then
pub room_after : (s mid new : Rows) (a h : Name) (objects : List ℕ) → is_proper_ancestor h a ≡ true → objects ≡ objects_at s a
    → ((b : Name) → row_at mid b ≡ cond (same_name a b) no_row (row_at s b))
    → ((b : Name) → count_below mid b + count_in b (a, row_at s a) ≡ count_below s b)
    → ((b : Name) → room_at mid b ≤ room_at new b)
    → ((b : Name) → count_below new b ≤ count_below mid b + cond (is_ancestor b h) (length objects) 0)
    → (b : Name) → same_name a b ≡ false → HasRoomBelow s b → HasRoomBelow new b
room_after s mid new a h objects up own rows sum rooms more b other room =
    let same : room_at mid b ≡ room_at s b = ap (λ (r : Row). r.room) (rows b) ∙ ap (λ t. (cond t no_row (row_at s b)).room) other in
    less _ _ _ _ _ _ _ (more b) (sum b) (part (is_ancestor b h) refl) room same (rooms b) where
      less : (x m k y n r l : ℕ) {o : ℕ} → x ≤ m + k → m + y ≡ n → k ≤ y → n ≤ r → l ≡ r → l ≤ o → x ≤ o
      less x m k y n r l p q u v e i = omega arith

      part : (t : Bool) → is_ancestor b h ≡ t → cond t (length objects) 0 ≤ count_in b (a, row_at s a)
      part true d =
          let taken : count_in b (a, row_at s a) ≡ length objects =
          counts b a (row_at s a) (ancestor_trans b h a d (proper h a up).0) ∙ ap (length {A = ℕ}) (sym own) in
          equal _ _ taken where
            equal : (x y : ℕ) → x ≡ y → y ≤ x
            equal x y e = omega arith
      part false d = omega arith

-- ---- where there is room for all that stands below a holder

-- the first row is that of its name, and is passed over by others
first_row : (r : Name × Row) (rs : Rows) (x : Name) → same_name r.0 x ≡ true → row_at (r ∷ rs) x ≡ r.1
first_row r rs x d = ap (λ t. cond t r.1 (row_at rs x)) d

later_row : (r : Name × Row) (rs : Rows) (x : Name) → same_name r.0 x ≡ false → row_at (r ∷ rs) x ≡ row_at rs x
later_row r rs x d = ap (λ t. cond t r.1 (row_at rs x)) d

-- what a row counts for an ancestor of its name
counted_whole : (r : Name × Row) (h x : Name) → same_name r.0 x ≡ true → is_ancestor h x ≡ true → count_in h r ≡ length r.1.objects
counted_whole r h x d up = counts h r.0 r.1 (subst (λ y. is_ancestor h y ≡ true) (sym (same_is r.0 x d)) up)

one_counted : (rs : Rows) (h x : Name) → is_ancestor h x ≡ true → length (objects_at rs x) ≤ count_below rs h
one_counted [] h x up = omega arith
one_counted (r ∷ rs) h x up = by_case (one_counted rs h x up) (same_name r.0 x) refl where
  more : (m c n : ℕ) → m ≤ n → m ≤ c + n
  more m c n p = omega arith

  whole : (m c n : ℕ) → c ≡ m → m ≤ c + n
  whole m c n p = omega arith

  by_case : length (objects_at rs x) ≤ count_below rs h → (t : Bool) → same_name r.0 x ≡ t → length (objects_at (r ∷ rs) x) ≤ count_below (r ∷ rs) h
  by_case later true d =
      subst (λ (z : Row). length z.objects ≤ count_in h r + count_below rs h) (sym (first_row r rs x d))
      (whole (length r.1.objects) (count_in h r) (count_below rs h) (counted_whole r h x d up))
  by_case later false d =
      subst (λ (z : Row). length z.objects ≤ count_in h r + count_below rs h) (sym (later_row r rs x d))
      (more (length (objects_at rs x)) (count_in h r) (count_below rs h) later)

two_counted : (rs : Rows) (h a : Name) → is_ancestor h h ≡ true → is_ancestor h a ≡ true → same_name h a ≡ false
    → length (objects_at rs h) + length (objects_at rs a) ≤ count_below rs h
two_counted [] h a own up other = omega arith
two_counted (r ∷ rs) h a own up other = by_case (two_counted rs h a own up other) (same_name r.0 h) refl (same_name r.0 a) refl where
  both : (y z : Row) → row_at (r ∷ rs) h ≡ y → row_at (r ∷ rs) a ≡ z → length y.objects + length z.objects ≤ count_in h r + count_below rs h
      → length (objects_at (r ∷ rs) h) + length (objects_at (r ∷ rs) a) ≤ count_below (r ∷ rs) h
  both y z p q less =
      subst (λ (v : Row). length v.objects + length (objects_at (r ∷ rs) a) ≤ count_in h r + count_below rs h) (sym p)
      (subst (λ (w : Row). length y.objects + length w.objects ≤ count_in h r + count_below rs h) (sym q) less)

  front : (m k c n : ℕ) → c ≡ m → k ≤ n → m + k ≤ c + n
  front m k c n p q = omega arith

  back : (m k c n : ℕ) → c ≡ k → m ≤ n → m + k ≤ c + n
  back m k c n p q = omega arith

  behind : (m k c n : ℕ) → m + k ≤ n → m + k ≤ c + n
  behind m k c n p = omega arith

  by_case : length (objects_at rs h) + length (objects_at rs a) ≤ count_below rs h → (t : Bool) → same_name r.0 h ≡ t → (u : Bool) → same_name r.0 a ≡ u
      → length (objects_at (r ∷ rs) h) + length (objects_at (r ∷ rs) a) ≤ count_below (r ∷ rs) h
  by_case later true d true e = absurd (true≢false (sym (subst (λ x. same_name x a ≡ true) (same_is r.0 h d) e) ∙ other))
  by_case later true d false e =
      both r.1 (row_at rs a) (first_row r rs h d) (later_row r rs a e)
      (front (length r.1.objects) (length (objects_at rs a)) (count_in h r) (count_below rs h) (counted_whole r h h d own) (one_counted rs h a up))
  by_case later false d true e =
      both (row_at rs h) r.1 (later_row r rs h d) (first_row r rs a e)
      (back (length (objects_at rs h)) (length r.1.objects) (count_in h r) (count_below rs h) (counted_whole r h a e up) (one_counted rs h h own))
  by_case later false d false e =
      both (row_at rs h) (row_at rs a) (later_row r rs h d) (later_row r rs a e)
      (behind (length (objects_at rs h)) (length (objects_at rs a)) (count_in h r) (count_below rs h) later)

-- there is room for what any proper descendant has
pub room_from : (held : Rows) (h a : Name) → is_proper_ancestor h a ≡ true → HasRoomBelow held h → HasRoomFrom held h a
room_from held h a up room =
    let p = proper h a up in
    let counted = two_counted held h a (self_above h a p.0) p.0 p.1 in
    omega (arith, counted, room)
