use Rattle.std.proofs.Common.{◌≡◌, ◌≢◌, ℕ, List, [], ◌∷◌, ◌++◌, length, Option, Some, None, Bor, IsTrue, MatchOption, ◌↔◌, refl, sym, ◌∙◌, arith}
use Rattle.std.specs.Option.{is_some}
use Rattle.std.proofs.lemmas.List.{append-nil}
use Rattle.run_model.proofs.reading.is.Goals as goal

-- a text that begins with another of its length is that one
whole : (s p rest : List ℕ) → length s ≡ length p → s ≡ p ++ rest → s ≡ p
whole [] [] rest long e = refl
whole [] (d ∷ p) rest long e = absurd (omega arith)
whole (c ∷ s) [] rest long e = absurd (omega arith)
whole (c ∷ s) (d ∷ p) rest long e =
    let h : c ≡ d = cc in
    let t : s ≡ p ++ rest = cc in
    let same : s ≡ p = whole s p rest (omega arith) t in
    cc

told : (s p : List ℕ) (o : Option (Bor (List ℕ))) → length s ≡ length p → MatchOption o ((rest : List ℕ) → s ≢ p ++ rest) (λ x. s ≡ p ++ x.now) → IsTrue (is_some o) ↔ (s ≡ p)
told s p (Some x) long h = (λ t. whole s p x.now long h, λ e. refl)
told s p None long h = (λ t. absurd cc, λ e. absurd (h [] (e ∙ sym (append-nil p))))

pub returns-then-text-word : goal.returns-then-text-word
returns-then-text-word c = rw c.is_some.ensures (told c.args.text.now c.args.word.now c.after.result c.if-text-word.true c.after.ensures)
