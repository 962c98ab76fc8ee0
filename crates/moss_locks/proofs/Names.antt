-- Names of holders, as they are put and taken.
use Rattle.std.proofs.Common.{◌≡◌, Bool, true, false, not, ◌&&◌, ◌||◌, arith, filter, length, List, [], ◌∷◌, refl, sym, ap, ◌∙◌, subst}
use Rattle.std.proofs.lemmas.Bool.{true≢false, false≢true}
use Rattle.std.specs.Prelude.{Option, Some, None, if◌then◌else◌, is_some}
use Rattle.std.specs.List.Sorted.{IsStrictlySortedBy}
use Rattle.std.specs.Ordering.{is_eq}
use Rattle.std.specs.declared.cmp.Ordering.{Ordering}
use Rattle.std.specs.declared.cmp.Ordering.TheVariants.{Less, Equal, Greater}
use Rattle.std.specs.BTreeSet.{insert_key}
use Rattle.std.specs.BTreeMap.{insert_entry}
use Rattle.action_names.specs.Names.{Name, same_name, has_name, name_cmp, is_ancestor}
use Rattle.action_names.specs.Comparison.{same_name-equivalence}
use Rattle.action_names.proofs.Ancestry.{same_is, same_refl}
use Rattle.holders.specs.Held.{HasLessRoom, may_be_handed, names_of, value_at, without}
use Rattle.holders.proofs.Places.{behind_lesser}
use Rattle.holders.proofs.Rows.{holds_some, room_kept}
use Rattle.holders.proofs.Sorted.{StandBehind, at_name, behind, greater, in_rest}
use Rattle.object_model.specs.Locks.{all_but, passed, with_next}

-- the names of holders once one was put among them
pub names_put : {V : Type 0} (hs : List (Name × V)) (a : Name) (v : V) → names_of (insert_entry name_cmp hs a v) ≡ insert_key name_cmp (names_of hs) a
names_put [] a v = refl
names_put (h ∷ hs) a v = by_case (names_put hs a v) (name_cmp a h.0) refl where
  by_case : names_of (insert_entry name_cmp hs a v) ≡ insert_key name_cmp (names_of hs) a → (o : Ordering) → name_cmp a h.0 ≡ o
      → names_of (insert_entry name_cmp (h ∷ hs) a v) ≡ insert_key name_cmp (names_of (h ∷ hs)) a
  by_case later Less k = simp k refl
  by_case later Equal k = simp k refl
  by_case later Greater k = simp k (ap (λ ns. h.0 ∷ ns) later)

-- all but a name that is not there
pub all_others : (a : Name) (ns : List Name) → has_name ns a ≡ false → all_but a ns ≡ ns
all_others a [] e = refl
all_others a (n ∷ ns) e = by_case (all_others a ns) (same_name n a) refl e where
  by_case : (has_name ns a ≡ false → all_but a ns ≡ ns) → (t : Bool) → same_name n a ≡ t → has_name (n ∷ ns) a ≡ false → all_but a (n ∷ ns) ≡ n ∷ ns
  by_case later true d e = absurd (true≢false (rw d at e))
  by_case later false d e = simp d (ap (λ ks. n ∷ ks) (later (rw d at e)))

-- a name that was added and is dropped again
pub added_dropped : (a : Name) (ns : List Name) → has_name ns a ≡ false → all_but a (insert_key name_cmp ns a) ≡ ns
added_dropped a [] e = simp (same_refl a)
added_dropped a (n ∷ ns) e = by_case (added_dropped a ns) (same_name n a) refl e (name_cmp a n) refl where
  by_case : (has_name ns a ≡ false → all_but a (insert_key name_cmp ns a) ≡ ns) → (t : Bool) → same_name n a ≡ t → has_name (n ∷ ns) a ≡ false
      → (o : Ordering) → name_cmp a n ≡ o → all_but a (insert_key name_cmp (n ∷ ns) a) ≡ n ∷ ns
  by_case later true d e o k = absurd (true≢false (rw d at e))
  by_case later false d e Less k = simp (k, same_refl a, d) (ap (λ ks. n ∷ ks) (all_others a ns (rw d at e)))
  by_case later false d e Equal k = absurd (true≢false (sym (ap is_eq k) ∙ at_name a n ∙ d))
  by_case later false d e Greater k = simp (k, d) (ap (λ ks. n ∷ ks) (later (rw d at e)))

-- a name that is there already
pub added_again : (a : Name) (ns : List Name) → IsStrictlySortedBy name_cmp ns → has_name ns a ≡ true → insert_key name_cmp ns a ≡ ns
unfolding IsStrictlySortedBy
added_again a [] s e = absurd (false≢true e)
added_again a (n ∷ ns) s e = by_case (added_again a ns s.1) (same_name n a) refl e where
  equal : (o : Ordering) → is_eq o ≡ true → o ≡ Equal
  equal Less e = absurd (false≢true e)
  equal Equal e = refl
  equal Greater e = absurd (false≢true e)

  by_case : (has_name ns a ≡ true → insert_key name_cmp ns a ≡ ns) → (t : Bool) → same_name n a ≡ t → same_name n a || has_name ns a ≡ true
      → insert_key name_cmp (n ∷ ns) a ≡ n ∷ ns
  by_case later true d e = let k : name_cmp a n ≡ Equal = equal (name_cmp a n) (at_name a n ∙ d) in simp k refl
  by_case later false d e =
      let there = in_rest n a ns d e in
      let k : name_cmp a n ≡ Greater = greater a n (behind n a ns s.0 there) in
      simp k (ap (λ ks. n ∷ ks) (later there))

-- an insertion that is taken back where it added the name
pub undone : (a : Name) (before after : List Name) (is_new : Bool) → IsStrictlySortedBy name_cmp before → is_new ≡ not (has_name before a)
    → after ≡ insert_key name_cmp before a → (if is_new then all_but a after else after) ≡ before
undone a before after true s e k = ap (all_but a) k ∙ added_dropped a before (turned (has_name before a) (sym e)) where
  turned : (t : Bool) → not t ≡ true → t ≡ false
  turned true e = sym e
  turned false e = refl
undone a before after false s e k = k ∙ added_again a before s (turned (has_name before a) (sym e)) where
  turned : (t : Bool) → not t ≡ false → t ≡ true
  turned true e = refl
  turned false e = sym e

-- there is room for a name for which it was made
pub room_made : (a : Name) (ns : List Name) (t : Bool) → has_name ns a ≡ same_name a a || t → has_name ns a ≡ true
room_made a ns t e = e ∙ rw (same_refl a) refl

-- the next holder is put where the action holds
pub next_put : (ns : List Name) (a p : Name) → has_name ns a ≡ true → insert_key name_cmp ns p ≡ with_next ns a (Some p)
next_put ns a p e = simp e refl

-- ---- the action is taken out first, and the next holder put in then
none_passes : (a : Name) (to : Option Name) (ns : List Name) → has_name ns a ≡ false → all_but a ns ≡ passed a to ns
none_passes a None ns e = refl
none_passes a (Some p) ns e = rw e refl

behind_rest : (p a : Name) (ns : List Name) → StandBehind p ns → StandBehind p (all_but a ns)
behind_rest p a [] h = h
behind_rest p a (n ∷ ns) h = by_case (behind_rest p a ns h.1) (same_name n a) refl where
  by_case : StandBehind p (all_but a ns) → (t : Bool) → same_name n a ≡ t → StandBehind p (all_but a (n ∷ ns))
  by_case later true d = rw d later
  by_case later false d = rw d (h.0, later)

key_first : (p : Name) (ns : List Name) → StandBehind p ns → insert_key name_cmp ns p ≡ p ∷ ns
key_first p [] h = refl
key_first p (n ∷ ns) h = simp h.0 refl

-- one name is dropped before another is put in or after it
put_beside : (a p : Name) (ns : List Name) → IsStrictlySortedBy name_cmp ns → same_name p a ≡ false
    → all_but a (insert_key name_cmp ns p) ≡ insert_key name_cmp (all_but a ns) p
unfolding IsStrictlySortedBy
put_beside a p [] s d = simp d refl
put_beside a p (n ∷ ns) s d = by_case (put_beside a p ns s.1 d) (same_name n a) refl (name_cmp p n) refl where
  by_case : all_but a (insert_key name_cmp ns p) ≡ insert_key name_cmp (all_but a ns) p → (t : Bool) → same_name n a ≡ t → (o : Ordering) → name_cmp p n ≡ o
      → all_but a (insert_key name_cmp (n ∷ ns) p) ≡ insert_key name_cmp (all_but a (n ∷ ns)) p
  by_case later true e Less k = simp (k, d, e) (sym (key_first p (all_but a ns) (behind_rest p a ns (behind_lesser p n ns k s.0))))
  by_case later false e Less k = simp (k, d, e) refl
  by_case later true e Equal k =
      absurd (true≢false (sym (subst (λ x. same_name x a ≡ true) (same_is n p (sym (at_name p n) ∙ ap is_eq k)) e) ∙ d))
  by_case later false e Equal k = simp (k, e) refl
  by_case later true e Greater k = simp (k, e) later
  by_case later false e Greater k = simp (k, e) (ap (λ ks. n ∷ ks) later)

-- what the action is handed on is the same as if the next holder had come first
pub put_passes : (a p : Name) (ns new : List Name) → IsStrictlySortedBy name_cmp ns → has_name ns a ≡ true
    → new ≡ (if same_name a p then all_but a ns else insert_key name_cmp (all_but a ns) p) → new ≡ passed a (Some p) ns
put_passes a p ns new s there is = by_case (same_name a p) refl is where
  by_case : (t : Bool) → same_name a p ≡ t → new ≡ (if t then all_but a ns else insert_key name_cmp (all_but a ns) p) → new ≡ passed a (Some p) ns
  by_case true d is =
      is ∙ ap (all_but a) (sym (added_again a ns s there) ∙ ap (insert_key name_cmp ns) (same_is a p d) ∙ next_put ns a p there)
  by_case false d is =
      is ∙ sym (put_beside a p ns s (same_name-equivalence.symm p a ∙ d)) ∙ ap (all_but a) (next_put ns a p there)

-- one that held nothing hands on nothing
pub twice_not : (t : Bool) → t ≡ not (not t)
twice_not true = refl
twice_not false = refl

pub from_not : (t : Bool) → true ≡ not t → t ≡ false
from_not true e = e
from_not false e = refl

pub taken_none : (hs : List (Name × Unit {0})) (a : Name) (to : Option Name) (o : Option (Unit {0})) → o ≡ value_at hs a → is_some o ≡ false
    → names_of (without hs a) ≡ passed a to (names_of hs)
taken_none hs a to o is none =
    room_kept (λ b. not (same_name b a)) hs ∙ none_passes a to (names_of hs) (sym (holds_some hs a) ∙ ap is_some (sym is) ∙ none)

pub taken_some : (hs : List (Name × Unit {0})) (a : Name) (o : Option (Unit {0})) → o ≡ value_at hs a → is_some o ≡ true → has_name (names_of hs) a ≡ true
taken_some hs a o is some = sym (holds_some hs a) ∙ ap is_some (sym is) ∙ some

-- nobody is left of nobody
pub none_left : (hs : List (Name × Unit {0})) (a : Name) → names_of hs ≡ [] → names_of (without hs a) ≡ []
none_left hs a nobody = room_kept (λ b. not (same_name b a)) hs ∙ ap (all_but a) nobody

pub somebody : {X : Type 0} (ns : List Name) (a : Name) → has_name ns a ≡ true → ns ≡ [] → X
somebody ns a there nobody = absurd (false≢true (sym (ap (λ ms. has_name ms a) nobody) ∙ there))

-- who may be handed what others hold still may be once one is taken out
pub handed_still : (a : Name) (olds news old new : List Name) → HasLessRoom old new a → (olds ≡ [] → news ≡ []) → (b : Name)
    → not (same_name a b) && may_be_handed olds old b ≡ true → may_be_handed news new b ≡ true
handed_still a olds [] old new less none b h = refl
handed_still a [] (n ∷ ns) old new less none b h = absurd (omega (arith, ap length (none refl)))
handed_still a (o ∷ os) (n ∷ ns) old new less none b h = less b ∙ h

-- there is room for the next holder still
pub next_room : (a p : Name) (olds old new : List Name) → HasLessRoom old new a → has_name olds a ≡ true → may_be_handed olds old p ≡ true
    → same_name a p ≡ false → has_name new p ≡ true
next_room a p [] old new less there may d = absurd (false≢true there)
next_room a p (o ∷ os) old new less there may d = less p ∙ ap (λ t. not t && has_name old p) d ∙ may

-- the names that are no descendants
pub has_beside : (a b : Name) (ns : List Name) → has_name (filter (λ x. not (is_ancestor a x)) ns) b ≡ not (is_ancestor a b) && has_name ns b
has_beside a b [] = none (not (is_ancestor a b)) where
  none : (t : Bool) → false ≡ t && false
  none true = refl
  none false = refl
has_beside a b (n ∷ ns) = by_case (has_beside a b ns) (not (is_ancestor a n)) refl (same_name n b) refl where
  by_case : has_name (filter (λ x. not (is_ancestor a x)) ns) b ≡ not (is_ancestor a b) && has_name ns b → (t : Bool) → not (is_ancestor a n) ≡ t
      → (u : Bool) → same_name n b ≡ u → has_name (filter (λ x. not (is_ancestor a x)) (n ∷ ns)) b ≡ not (is_ancestor a b) && (same_name n b || has_name ns b)
  by_case later true k true e = let beside : not (is_ancestor a b) ≡ true = subst (λ x. not (is_ancestor a x) ≡ true) (same_is n b e) k in simp (k, e, beside) refl
  by_case later true k false e = simp (k, e) later
  by_case later false k true e = let beside : not (is_ancestor a b) ≡ false = subst (λ x. not (is_ancestor a x) ≡ false) (same_is n b e) k in simp (k, e, beside) (later ∙ simp beside refl)
  by_case later false k false e = simp (k, e) later

-- nobody hands on what nobody holds
pub nobody_passes : (a : Name) (to : Option Name) → passed a to [] ≡ []
nobody_passes a None = refl
nobody_passes a (Some p) = refl

-- room in each of three classes stays where it stays in each
pub all_still : (t r w d : Bool) {x y z : Bool} → (t && r ≡ true → x ≡ true) → (t && w ≡ true → y ≡ true) → (t && d ≡ true → z ≡ true)
    → t && (r && w && d) ≡ true → x && y && z ≡ true
all_still false r w d reads writes adds h = absurd (false≢true h)
all_still true false w d reads writes adds h = absurd (false≢true h)
all_still true true false d reads writes adds h = absurd (false≢true h)
all_still true true true false reads writes adds h = absurd (false≢true h)
all_still true true true true reads writes adds h = rw (reads refl, writes refl, adds refl) refl

-- room in each of three classes, and for one more
pub made_all : (s r w d : Bool) {x y z : Bool} → x ≡ s || r → y ≡ s || w → z ≡ s || d → x && y && z ≡ s || (r && w && d)
made_all true r w d reads writes adds = rw (reads, writes, adds) refl
made_all false r w d reads writes adds = rw (reads, writes, adds) refl
