-- Names in their order.
use Rattle.std.proofs.Common.{◌≡◌, Bool, true, false, not, ◌&&◌, ◌||◌, List, [], ◌∷◌, refl, sym, ap, ◌∙◌, subst}
use Rattle.std.proofs.lemmas.Bool.{true≢false, false≢true}
use Rattle.std.specs.List.{AllByRecursion}
use Rattle.std.specs.Ordering.{is_eq, ordering_reverse}
use Rattle.std.specs.declared.cmp.Ordering.TheVariants.{Less, Greater}
use Rattle.std.specs.BTreeMap.{is_at}
use Rattle.action_names.specs.Names.{Name, same_name, has_name, name_cmp}
use Rattle.action_names.specs.Comparison.{same_name-ties, same_name-equivalence, name_cmp-total}
use Rattle.action_names.proofs.Ancestry.{same_is}

-- a query for a name finds that name
pub at_name : (a b : Name) → is_at (name_cmp a) b ≡ same_name b a
at_name a b = sym (same_name-ties a b) ∙ same_name-equivalence.symm a b

-- all these names stand behind a
abbrev pub StandBehind : Name → List Name → Type 0
StandBehind a ns = AllByRecursion (λ y. name_cmp a y ≡ Less) ns

pub other_than : (a n : Name) → name_cmp a n ≡ Less → same_name n a ≡ false
other_than a n e = sym (at_name a n) ∙ ap is_eq e

-- what stands behind a name stands behind that name by whatever name it goes
pub behind_same : (n a : Name) (ns : List Name) → same_name n a ≡ true → StandBehind n ns → StandBehind a ns
behind_same n a ns d h = subst (λ x. StandBehind x ns) (same_is n a d) h

-- a name is not among those that stand behind it
pub not_behind : (a : Name) (ns : List Name) → StandBehind a ns → has_name ns a ≡ false
not_behind a [] h = refl
not_behind a (n ∷ ns) h = rw (other_than a n h.0) (not_behind a ns h.1)

-- one of the names that stand behind n
pub behind : (n a : Name) (ns : List Name) → StandBehind n ns → has_name ns a ≡ true → name_cmp n a ≡ Less
behind n a [] h e = absurd (false≢true e)
behind n a (m ∷ ns) h e = by_case (behind n a ns h.1) (same_name m a) refl e where
  by_case : (has_name ns a ≡ true → name_cmp n a ≡ Less) → (t : Bool) → same_name m a ≡ t → same_name m a || has_name ns a ≡ true → name_cmp n a ≡ Less
  by_case later true d e = subst (λ x. name_cmp n x ≡ Less) (same_is m a d) h.0
  by_case later false d e = later (rw d at e)

pub greater : (a n : Name) → name_cmp n a ≡ Less → name_cmp a n ≡ Greater
greater a n e = name_cmp-total.antisymm a n ∙ ap ordering_reverse e

-- a name that is there stands behind the first, or is the first
pub in_rest : (n a : Name) (ns : List Name) → same_name n a ≡ false → same_name n a || has_name ns a ≡ true → has_name ns a ≡ true
in_rest n a ns d e = rw d at e

-- a name that is there is one of itself and the others
pub known : (a b : Name) (ns : List Name) → has_name ns a ≡ true → has_name ns b ≡ same_name a b || has_name ns b
known a b ns e = by_case (same_name a b) refl where
  by_case : (t : Bool) → same_name a b ≡ t → has_name ns b ≡ same_name a b || has_name ns b
  by_case true d = rw d (subst (λ x. has_name ns x ≡ true) (same_is a b d) e)
  by_case false d = rw d refl

-- the first name taken out
pub first_out : (n a b : Name) (ns : List Name) → same_name n a ≡ true → StandBehind n ns → has_name ns b ≡ not (same_name a b) && (same_name n b || has_name ns b)
first_out n a b ns d h = by_case (same_name a b) refl where
  same : n ≡ a
  same = same_is n a d

  by_case : (t : Bool) → same_name a b ≡ t → has_name ns b ≡ not (same_name a b) && (same_name n b || has_name ns b)
  by_case true e = rw e (subst (λ x. has_name ns x ≡ false) (same_is n a d ∙ same_is a b e) (not_behind n ns h))
  by_case false e = rw (e, subst (λ x. same_name x b ≡ false) (sym (same_is n a d)) e) refl

-- another name taken out
pub other_out : (n a b : Name) (rest : Bool) → same_name n a ≡ false → same_name n b || (not (same_name a b) && rest) ≡ not (same_name a b) && (same_name n b || rest)
other_out n a b rest d = by_case (same_name n b) refl (same_name a b) refl where
  by_case : (t : Bool) → same_name n b ≡ t → (u : Bool) → same_name a b ≡ u → same_name n b || (not (same_name a b) && rest) ≡ not (same_name a b) && (same_name n b || rest)
  by_case true e true k = absurd (true≢false (sym (subst (λ x. same_name n x ≡ true) (sym (same_is a b k)) e) ∙ d))
  by_case true e false k = rw (e, k) refl
  by_case false e u k = rw e refl
