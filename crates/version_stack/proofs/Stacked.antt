-- The stack that contracts see of a content, its overlays, the owners and their ends, and what each call makes of it.
use Rattle.std.proofs.Common.{◌≡◌, ℕ, ℤ, zero, suc, ◌<◌, ◌≤◌, Bool, true, false, Some, None, List, [], ◌∷◌, ◌++◌, length, map, take, refl, sym, ap, ◌∙◌, subst, arith, length-append}
use Rattle.std.proofs.lemmas.List.{length-map, length-take-le}
use Rattle.std.specs.Int.{from_bool}
use Rattle.action_names.specs.Names.{Name}
use Rattle.values.specs.declared.value.Value.TheVariants.{Int}
use Rattle.atomic_types.specs.Operations.{Op}
use Rattle.atomic_types.specs.declared.operation.Operation.TheVariants.{Add}
use Rattle.overlays.specs.Overlays.{laid_all, Covers}
use Rattle.object_model.specs.Stacks.{Stack, top_of, last_version, version_at, is_on_top, owners_above, written, added, inherited, passed, settled, dropped_below, owners_of, AreAbove, RiseByAncestry, RisesByAncestry, HasNoneBetween}
use Rattle.version_stack.specs.Layers.{rows, seen, last_end, is_end, lowered, kept_lowest, under, stacked, stack_of, EndsRise, AreLayers, IsAdded, IsNoted, IsNotedAbove, IsMerged}
use Rattle.version_stack.proofs.Ends.{last_is, rise_within, ends_push, ends_take, ends_lowered, no_end, owners_seen, rising_seen, rows_take, seen_take, last_seen, version_seen, image, seen_same, seen_lowered, seen_on_top, seen_above, rising_push, unchanged, end_within, seen_changed, dropped, rising_take}
use Rattle.version_stack.proofs.Handing.{passed_seen, settled_seen, stack_seen, none_between}
use Rattle.version_stack.proofs.Under.{laid_last, under_all, under_take, under_front, sound_push, sound_take}

-- ---- lists

-- two stacks with the same base and the same versions
same_stack : {T : Type 0} {b d : T} {vs ws : List (Name × T)} → b ≡ d → vs ≡ ws
    → (let r : Stack T = record { base = b; versions = vs } in r) ≡ (let r : Stack T = record { base = d; versions = ws } in r)
same_stack {T} {b} {d} {vs} {ws} p q =
    ap (λ x. let r : Stack T = record { base = x; versions = vs } in r) p ∙ ap (λ us. let r : Stack T = record { base = d; versions = us } in r) q

-- the owner on top has overlays above the base's
some_above : (s n : ℕ) (ns : List Name) (es : List ℕ) (a : Name) → length ns ≡ length es → EndsRise s es n → is_on_top ns a ≡ true → s < n
some_above s n [] es a p r t = absurd (cc)
some_above s n (m ∷ ns) [] a p r t = absurd (omega arith)
some_above s n (m ∷ ns) (e ∷ es) a p r t =
    let first : s < e = r.0 in
    let within : e ≤ n = rise_within e n es r.1 in
    omega arith

-- one more owner and one more end
both_pushed : (ns : List Name) (es : List ℕ) (a : Name) (n : ℕ) → length ns ≡ length es → length (ns ++ a ∷ []) ≡ length (es ++ n ∷ [])
both_pushed [] [] a n p = refl
both_pushed [] (e ∷ es) a n p = absurd (omega arith)
both_pushed (m ∷ ns) [] a n p = absurd (omega arith)
both_pushed (m ∷ ns) (e ∷ es) a n p = ap suc (both_pushed ns es a n (omega arith))

-- so many owners and so many ends, the lowest
both_taken : (k : ℕ) (ns : List Name) (es : List ℕ) → length ns ≡ length es → length (take k ns) ≡ length (take k es)
both_taken zero ns es p = refl
both_taken (suc k) [] [] p = refl
both_taken (suc k) [] (e ∷ es) p = absurd (omega arith)
both_taken (suc k) (n ∷ ns) [] p = absurd (omega arith)
both_taken (suc k) (n ∷ ns) (e ∷ es) p = ap suc (both_taken k ns es (omega arith))

module _ {T O : Type 0} (laid : T → O → T) (after : T → Op → T) (fits : T → O → Type 0) where
  -- these layers are kept, and contracts see this stack of them
  pub record AreKept (c : T) (s : ℕ) (ns : List Name) (es : List ℕ) (os : List O) (v : Stack T) : Type 0 where
    pub layers : AreLayers laid after fits c s ns es os
    pub view : stack_of laid c s ns es os ≡ v

  -- one more overlay, above those of the base and where no owner has any, is the only version
  put_over : (c : T) (s : ℕ) (ns : List Name) (es : List ℕ) (os : List O) (a : Name) (o : O) → AreLayers laid after fits c s ns es os → ns ≡ []
      → fits (under laid c os s) o → Covers after laid o
      → AreKept c s (ns ++ a ∷ []) (es ++ length (os ++ o ∷ []) ∷ []) (os ++ o ∷ [])
      (record { base = under laid c os s; versions = (a, laid (under laid c os s) o) ∷ [] })
  put_over c s [] [] os a o h alone f k =
      let all : under laid c os s ≡ laid_all laid c os = under_all laid fits c os s h.ends in
      let one_more : length (os ++ o ∷ []) ≡ suc (length os) = omega (arith, length-append os (o ∷ [])) in
      let above : s < length (os ++ o ∷ []) = omega (arith, h.ends) in
      record {
        layers = record {
          paired = refl;
          ends = (above, refl);
          rising = tt;
          sound = sound_push laid fits after c os o h.sound (subst (λ x. fits x o) all f) k;
        };
        view = same_stack
            (under_front laid fits c os (o ∷ []) s (omega (arith, h.ends)))
            (ap (λ x. (a, x) ∷ []) (under_all laid fits c (os ++ o ∷ []) _ refl ∙ laid_last laid fits c os o ∙ ap (λ x. laid x o) (sym all)));
      }
  put_over c s [] (e ∷ es) os a o h alone f k = absurd (omega (arith, h.paired))
  put_over c s (n ∷ ns) es os a o h alone f k = absurd (cc)

module _ {T O : Type 0} {laid : T → O → T} {after : T → Op → T} {fits : T → O → Type 0} {c : T} {s : ℕ} {ns : List Name} {es : List ℕ} {os : List O}
    (h : AreLayers laid after fits c s ns es os) where
  -- where an owner is on top there is an overlay
  pub some_overlay : (a : Name) → is_on_top ns a ≡ true → 0 < length os
  some_overlay a t = let above : s < length os = some_above s (length os) ns es a h.paired h.ends t in omega arith

  -- the base has no more overlays than there are
  pub base_within : s ≤ length os
  base_within = rise_within s (length os) es h.ends

  -- nor has an owner, and it has more than the base
  pub owner_within : (a : Name) (e : ℕ) → version_at (rows ns es) a ≡ Some e → (s < e) × (e ≤ length os)
  owner_within a e found = end_within s (length os) ns es a e h.ends found

  -- the content on top is what all overlays give
  top_is : last_version (under laid c os s) (stacked laid c ns es os) ≡ laid_all laid c os
  top_is =
      last_seen (under laid c os) s ns es h.paired ∙ ap (under laid c os) (last_is s (length os) es h.ends)
      ∙ under_all laid fits c os (length os) refl

  module _ {v : Stack T} (e : stack_of laid c s ns es os ≡ v) where
    -- ---- what contracts see

    -- what all overlays give is the content on top
    pub top_in : laid_all laid c os ≡ top_of v
    top_in = sym top_is ∙ ap top_of e

    -- owners rise by ancestry
    pub rising_in : RisesByAncestry v.versions
    rising_in = subst (λ (u : Stack T). RisesByAncestry u.versions) e (rising_seen (under laid c os) ns es h.paired h.rising)

    -- the owners are those that are kept
    pub owners_in : owners_of v.versions ≡ ns
    owners_in = sym (ap (λ (u : Stack T). owners_of u.versions) e) ∙ owners_seen (under laid c os) ns es h.paired

    -- an owner's version is what the overlays up to its end give
    pub version_in : (a : Name) → version_at v.versions a ≡ image (under laid c os) (version_at (rows ns es) a)
    version_in a = sym (ap (λ (u : Stack T). version_at u.versions a) e) ∙ version_seen (under laid c os) (rows ns es) a

    -- ---- notes

    -- an operation was noted for the owner on top
    pub noted_top : {ps : List O} {op : Op} (a : Name) → is_on_top ns a ≡ true → IsNoted laid after fits c os ps op
        → AreKept laid after fits c s ns es ps (written v a (after (top_of v) op))
    noted_top {ps} {op} a t j = record {
      layers = record { paired = h.paired; ends = subst (EndsRise s es) (sym j.many) h.ends; rising = h.rising; sound = j.sound };
      view = same_stack
          (j.others s (some_above s (length os) ns es a h.paired h.ends t))
          (seen_on_top (under laid c os) (under laid c ps) s (length os) ns es a (after (laid_all laid c os) op) h.paired h.ends t j.others
          (under_all laid fits c ps (length os) (sym j.many) ∙ j.top))
          ∙ ap (λ x. written (stack_of laid c s ns es os) a (after x op)) (sym top_is)
          ∙ ap (λ (u : Stack T). written u a (after (top_of u) op)) e;
    }

    -- one was noted for an owner above all others
    pub noted_fresh : {ps : List O} {op : Op} (a : Name) → is_on_top ns a ≡ false → AreAbove v.versions a → IsNotedAbove laid after fits c os ps op
        → AreKept laid after fits c s (ns ++ a ∷ []) (es ++ length ps ∷ []) ps (written v a (after (top_of v) op))
    noted_fresh {ps} {op} a t beyond j =
        let more : length os < length ps = omega (arith, j.many) in
        let above : AreAbove (stacked laid c ns es os) a = subst (λ (u : Stack T). AreAbove u.versions a) (sym e) beyond in
        record {
          layers = record {
            paired = both_pushed ns es a (length ps) h.paired;
            ends = ends_push s (length os) (length ps) es h.ends more;
            rising = rising_push (under laid c os) ns es a h.paired h.rising above t;
            sound = j.sound;
          };
          view = same_stack
              (j.others s base_within)
              (seen_above (under laid c os) (under laid c ps) s (length os) (length ps) ns es a (after (laid_all laid c os) op) h.paired h.ends t
              j.others (under_all laid fits c ps (length ps) refl ∙ j.top))
              ∙ ap (λ x. written (stack_of laid c s ns es os) a (after x op)) (sym top_is)
              ∙ ap (λ (u : Stack T). written u a (after (top_of u) op)) e;
        }

    -- ---- a version given back

    -- where there was no version, an overlay was put above all as an owner's
    pub restored : (a : Name) (o : O) → v.versions ≡ [] → fits v.base o → Covers after laid o
        → AreKept laid after fits c s (ns ++ a ∷ []) (es ++ length (os ++ o ∷ []) ∷ []) (os ++ o ∷ [])
        (record { base = v.base; versions = (a, laid v.base o) ∷ [] })
    restored a o alone f k =
        let base : under laid c os s ≡ v.base = ap (λ (u : Stack T). u.base) e in
        let nobody : ns ≡ [] = sym owners_in ∙ ap owners_of alone in
        let put = put_over laid after fits c s ns es os a o h nobody (subst (λ x. fits x o) (sym base) f) k in
        record {
          layers = put.layers;
          view = put.view ∙ ap (λ x. let r : Stack T = record { base = x; versions = (a, laid x o) ∷ [] } in r) base;
        }

    -- ---- numbers added

    -- a number was added to an owner's version
    pub added_version : {ps : List O} {n : ℕ} {z : ℤ} (a : Name) → version_at (rows ns es) a ≡ Some n → IsAdded laid after fits c c os ps n z
        → AreKept laid after fits c s ns es ps (added after v (Some a) z)
    added_version {ps} {n} {z} a found j =
        let above : s < n = (owner_within a n found).0 in
        record {
          layers = record { paired = h.paired; ends = subst (EndsRise s es) (sym j.many) h.ends; rising = h.rising; sound = j.sound };
          view = same_stack
              (j.others s (λ same. omega arith) base_within)
              (seen_changed (under laid c os) (under laid c ps) (λ x. after x (Add (Int z))) s (length os) ns es a n h.ends found j.there j.others)
              ∙ ap (λ (u : Stack T). added after u (Some a) z) e;
        }

    -- an owner that has no version gets none
    pub added_nowhere : (a : Name) (z : ℤ) → version_at (rows ns es) a ≡ None → v ≡ added after v (Some a) z
    added_nowhere a z none = subst (λ (u : Stack T). u ≡ added after u (Some a) z) e
        (same_stack {b = under laid c os s} refl
        (sym (unchanged (under laid c os) (λ x. after x (Add (Int z))) (rows ns es) a none)))

    -- a number was added to the base
    pub added_base : {d : T} {ps : List O} {z : ℤ} → IsAdded laid after fits c d os ps s z
        → AreKept laid after fits d s ns es ps (added after v None z)
    added_base {d} {ps} {z} j = record {
      layers = record { paired = h.paired; ends = subst (EndsRise s es) (sym j.many) h.ends; rising = h.rising; sound = j.sound };
      view = same_stack j.there
          (seen_same (under laid c os) (under laid d ps) s (length os) ns es h.ends (λ k l w. j.others k (λ same. omega arith) w))
          ∙ ap (λ (u : Stack T). added after u None z) e;
    }

    -- ---- handing on

    -- no owner stands between
    pub none_in : (a p : Name) → HasNoneBetween v.versions a (Some p) → HasNoneBetween (rows ns es) a (Some p)
    none_in a p none = none_between (under laid c os) (rows ns es) a p (subst (λ (u : Stack T). HasNoneBetween u.versions a (Some p)) (sym e) none)

    -- the next holder has the owner's version
    pub handed : (ms : List Name) (fs : List ℕ) (a p : Name) → length ms ≡ length fs → RiseByAncestry ms
        → ((t n : ℕ) → EndsRise t es n → EndsRise t fs n)
        → rows ms fs ≡ passed (rows ns es) a p → AreKept laid after fits c s ms fs os (inherited v a (Some p))
    handed ms fs a p paired rising ends passes = record {
      layers = record { paired = paired; ends = ends s (length os) h.ends; rising = rising; sound = h.sound };
      view = same_stack {b = under laid c os s} refl
          (ap (seen (under laid c os)) passes ∙ sym (passed_seen (under laid c os) (rows ns es) a p))
          ∙ ap (λ (u : Stack T). inherited u a (Some p)) e;
    }

    -- the base has it
    pub handed_down : (t : ℕ) (ms : List Name) (fs : List ℕ) (a : Name) → length ms ≡ length fs → RiseByAncestry ms
        → ((n : ℕ) → EndsRise s es n → EndsRise t fs n)
        → (let r : Stack ℕ = record { base = t; versions = rows ms fs } in r) ≡ settled s (rows ns es) a
        → AreKept laid after fits c t ms fs os (inherited v a None)
    handed_down t ms fs a paired rising ends settles = record {
      layers = record { paired = paired; ends = ends (length os) h.ends; rising = rising; sound = h.sound };
      view = ap (stack_seen (under laid c os)) settles ∙ sym (settled_seen (under laid c os) s (rows ns es) a)
          ∙ ap (λ (u : Stack T). inherited u a None) e;
    }

    -- ---- versions dropped

    -- so many versions are left, the lowest
    pub kept : (k : ℕ) → AreKept laid after fits c s (take k ns) (take k es) (take (last_end s (take k es)) os)
        (let r : Stack T = record { base = v.base; versions = take k v.versions } in r)
    kept k =
        let m = last_end s (take k es) in
        let r = ends_take s (length os) k es h.ends in
        let ends : EndsRise s (take k es) m = r.0 in
        let within : m ≤ length os = r.1 in
        let many : length (take m os) ≡ m = length-take-le m os within in
        record {
          layers = record {
            paired = both_taken k ns es h.paired;
            ends = subst (EndsRise s (take k es)) (sym many) ends;
            rising = rising_take k ns h.rising;
            sound = sound_take laid fits after m c os h.sound;
          };
          view = same_stack
              (under_take laid fits c os m s (rise_within s m (take k es) ends))
              (seen_same (under laid c os) (under laid c (take m os)) s m (take k ns) (take k es) ends (λ n l w. under_take laid fits c os m n w)
              ∙ ap (seen (under laid c os)) (rows_take k ns es) ∙ seen_take (under laid c os) k (rows ns es))
              ∙ ap (λ (u : Stack T). let q : Stack T = record { base = u.base; versions = take k u.versions } in q) e;
        }

    -- those are left whose owners are neither the action nor its descendants
    pub dropped_in : (a : Name)
        → (let r : Stack T = record { base = v.base; versions = take (length (owners_above ns a)) v.versions } in r) ≡ dropped_below v a
    dropped_in a = subst
        (λ (u : Stack T). (let r : Stack T = record { base = u.base; versions = take (length (owners_above ns a)) u.versions } in r) ≡ dropped_below u a) e
        (same_stack {b = under laid c os s} refl
        (dropped (under laid c os) a ns es h.paired h.rising))

    -- ---- two overlays that became one

    -- where nobody's overlays end between them, contracts see the same
    pub merged : {d : T} {ps : List O} {k : ℕ} → is_end s es k ≡ false → k < length os → IsMerged laid after fits c d os ps k
        → AreKept laid after fits d (lowered k s) ns (map (lowered k) es) ps v
    merged {d} {ps} {k} nobody w j =
        let none = no_end s k es nobody in
        record {
          layers = record {
            paired = h.paired ∙ sym (length-map es (lowered k));
            ends = ends_lowered k s (length ps) es none.0 none.1 (omega (arith, j.one_less)) (subst (EndsRise s es) j.one_less h.ends);
            rising = h.rising;
            sound = j.sound;
          };
          view = same_stack
              (j.same s none.0 base_within)
              (seen_lowered (under laid c os) (under laid d ps) k s (length os) ns es h.ends none.1 j.same)
              ∙ e;
        }

-- a crash leaves the lowest version where it is kept, and otherwise none
pub lowest_kept : {T : Type 0} (s : Stack T) (keeps : Bool)
    → (let r : Stack T = record { base = s.base; versions = take (from_bool keeps) s.versions } in r) ≡ kept_lowest s keeps
lowest_kept {T} s true = refl
lowest_kept {T} s false = refl
