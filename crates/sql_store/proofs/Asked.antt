-- Queries that are asked one after another.
use Rattle.std.proofs.Common.{◌≡◌, ◌⊎◌, inl, inr, ℕ, zero, suc, ◌+◌, ◌<◌, arith, IsTrue, List, [], ◌∷◌, ◌++◌, map, take, length, get_or, Result, Ok, Err, refl, sym, ap, subst, ◌∙◌}
use Rattle.std.specs.Prelude.{Vec}
use Rattle.std.proofs.Common.{Bor}
use Rattle.std.specs.declared.alloc.Global.{Global}
use Rattle.std.proofs.lemmas.List.{take_more, map-append}
use Rattle.sqlite_trees.specs.declared.store.Store.{Ghosts}
use Rattle.sqlite.specs.Order.{Row}
use Rattle.sqlite.specs.Effect.{Database}
use Rattle.sqlite.specs.Schema.{Schema}
use Rattle.sqlite.specs.State.{State}
use Rattle.sqlite.specs.Held.{Held, state}
use Rattle.stable_store.specs.declared.fault.StoreFault.{StoreFault}
use Rattle.store_tables.specs.Answered.{rows_of}
use Rattle.sql_store.specs.Reading.{QuietsWith, ShowsTheSame, LooksUp, IsQueryOf, IsAnswerOf, AreQueriesOf, AreAnswersOf}
use Rattle.sql_store.proofs.Sequences.{and_checks, weaker_reads, one_answer, quiet_after}

module _ (tables : Schema) {A : Type 0} (g : Ghosts A) (first : Held A) where
  -- nothing was asked, or these queries were answered so
  abbrev pub Asked : List (List ℕ) → Held A → List (List Row) → Type 0
  Asked qs mid shown =
      ((qs ≡ []) × (mid ≡ first) × (shown ≡ [])) ⊎ LooksUp {T = Unit {0}} (state g first) (state g mid) (λ d _. AreAnswersOf tables d qs shown) (Ok tt)

  module _ (quiet : QuietsWith tables (state g first)) (qs : List (List ℕ)) (mid last : Held A) (shown : List (List Row)) (q : List ℕ) (so_far : Asked qs mid shown) where
    pub quiet_mid : QuietsWith tables (state g mid)
    quiet_mid = elim so_far [
      | inl none ↦ subst (λ h. QuietsWith tables (state g h)) (sym none.1) quiet
      | inr asked ↦ quiet_after (state g first) (state g mid) (λ d (_ : Unit {0}). AreAnswersOf tables d qs shown) tt quiet asked
    ]

    pub one_asked : (a : Vec Row Global) → LooksUp {T = Vec Row Global} (state g mid) (state g last) (λ d rows. IsAnswerOf tables d q rows.items) (Ok a)
        → Asked (qs ++ q ∷ []) last (shown ++ a.items ∷ [])
    one_asked a one = inr (elim so_far [
      | inl none ↦
          weaker_reads (state g first) (state g last) (λ d (_ : Unit {0}). IsAnswerOf tables d q a.items) (λ d _. AreAnswersOf tables d (qs ++ q ∷ []) (shown ++ a.items ∷ [])) (Ok tt)
          (λ d _ h. subst (λ xs. AreAnswersOf tables d (xs ++ q ∷ []) (shown ++ a.items ∷ [])) (sym none.0) (subst (λ xs. AreAnswersOf tables d (q ∷ []) (xs ++ a.items ∷ [])) (sym none.2) (h, tt)))
          (subst (λ h. LooksUp {T = Unit {0}} (state g h) (state g last) (λ d _. IsAnswerOf tables d q a.items) (Ok tt)) none.1 (only (state g mid) (state g last) one))
      | inr asked ↦
          weaker_reads (state g first) (state g last) (λ d (_ : Unit {0}). AreAnswersOf tables d qs shown × IsAnswerOf tables d q a.items) (λ d _. AreAnswersOf tables d (qs ++ q ∷ []) (shown ++ a.items ∷ [])) (Ok tt)
          (λ d _ h. one_answer tables d qs shown q a.items h.0 h.1)
          (and_checks (state g first) (state g mid) (state g last) (λ d (_ : Unit {0}). AreAnswersOf tables d qs shown) (λ d (_ : Unit {0}). IsAnswerOf tables d q a.items) tt (Ok tt) quiet asked (λ _. only (state g mid) (state g last) one))
    ])
      where
        only : (s t : State) → LooksUp {T = Vec Row Global} s t (λ d rows. IsAnswerOf tables d q rows.items) (Ok a) → LooksUp {T = Unit {0}} s t (λ d _. IsAnswerOf tables d q a.items) (Ok tt)
        only s t h = record { clean = h.clean; ok = h.ok; err = λ _. tt; leaves = h.leaves }

    -- the next is not answered
    pub none_asked : {T U : Type 0} (P : Database → U → Type 0) (e f : StoreFault) → LooksUp {T = T} (state g mid) (state g last) (λ d _. Unit {0}) (Err e)
        → LooksUp {T = U} (state g first) (state g last) P (Err f)
    none_asked {T = T} {U = U} P e f one = elim so_far [
      | inl none ↦ subst (λ h. LooksUp (state g h) (state g last) P (Err f)) none.1 (failed (state g mid) (state g last) one)
      | inr asked ↦
          let both = and_checks (state g first) (state g mid) (state g last) (λ d (_ : Unit {0}). AreAnswersOf tables d qs shown) P tt (Err f) quiet asked (λ _. failed (state g mid) (state g last) one) in
          record { clean = both.clean; ok = λ _. tt; err = both.err; leaves = both.leaves }
    ]
      where
        failed : (s t : State) → LooksUp {T = T} s t (λ d _. Unit {0}) (Err e) → LooksUp {T = U} s t P (Err f)
        failed s t h = record { clean = h.clean; ok = λ _. tt; err = h.err; leaves = h.leaves }

-- the texts so far, with the next
pub next_text : (qs : List (Bor (List ℕ))) (i : ℕ) (d : Bor (List ℕ)) → i < length qs
    → map (λ (x : Bor (List ℕ)). x.now) (take (i + 1) qs) ≡ map (λ (x : Bor (List ℕ)). x.now) (take i qs) ++ (get_or qs i d).now ∷ []
next_text qs i d low = ap (map (λ (x : Bor (List ℕ)). x.now)) (take_more qs i d low) ∙ map-append (λ (x : Bor (List ℕ)). x.now) (take i qs) (get_or qs i d ∷ [])

-- the text of each of these
pub text_at : {tables : Schema} (qs : List (Bor (List ℕ))) (i : ℕ) (d : Bor (List ℕ)) → i < length qs → AreQueriesOf tables (map (λ (x : Bor (List ℕ)). x.now) qs)
    → IsQueryOf tables (get_or qs i d).now
text_at [] i d low h = absurd (omega (arith, low))
text_at (x ∷ qs) zero d low h = h.0
text_at (x ∷ qs) (suc i) d low h = text_at qs i d (omega (arith, low)) h.1

-- what stands for a text where there is none
abbrev pub no_text : Bor (List ℕ)
no_text = record { ref_ptr = (0, 0); now = [] }

same_self : (s : State) → IsTrue s.is_open → ShowsTheSame s s
same_self s up = record { was_open = up; is_open = up; now = refl; committed = refl; mode = refl }

module _ (tables : Schema) {A : Type 0} (g : Ghosts A) (first last : Held A) where
  -- what was asked, and then given up
  pub given_up : {T : Type 0} (qs : List (List ℕ)) (shown : List (List Row)) (P : Database → T → Type 0) (f : StoreFault) (r : Result T StoreFault)
      → Asked tables g first qs last shown → r ≡ Err f → LooksUp (state g first) (state g last) P r
  given_up {T = T} qs shown P f r so_far is = subst (LooksUp {T = T} (state g first) (state g last) P) (sym is) (elim so_far [
    | inl none ↦
        subst (λ h. LooksUp {T = T} (state g first) (state g h) P (Err f)) (sym none.1)
        (record { clean = λ clean. clean; ok = λ _. tt; err = λ _ up. same_self (state g first) up; leaves = λ _ _ db may. may })
    | inr asked ↦ record { clean = asked.clean; ok = λ _. tt; err = λ clean _. (asked.ok clean).0; leaves = asked.leaves }
  ])

  -- all was asked
  pub all_asked : (qs : List (List ℕ)) (answers : Vec (Vec Row Global) Global) → 0 < length qs → Asked tables g first qs last (rows_of answers.items)
      → LooksUp {T = Vec (Vec Row Global) Global} (state g first) (state g last) (λ d all. AreAnswersOf tables d qs (rows_of all.items)) (Ok answers)
  all_asked qs answers some (inl none) = absurd (no_more qs none.0 some)
    where
      no_more : (qs : List (List ℕ)) → qs ≡ [] → 0 < length qs → ⊥
      no_more [] is low = omega (arith, low)
      no_more (q ∷ qs) is low = absurd (let e = is in cc)
  all_asked qs answers some (inr asked) = record { clean = asked.clean; ok = asked.ok; err = λ _. tt; leaves = asked.leaves }
