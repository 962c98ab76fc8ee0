-- Reading the lines behind a setup line, and the setup line.
use Rattle.std.proofs.Common.{◌≡◌, ◌≢◌, ◌⊎◌, inl, inr, ℕ, suc, ◌+◌, ◌*◌, ◌≤◌, Bool, true, false, eqb, List, [], ◌∷◌, ◌++◌, length, codes, eq-eqb, refl, sym, ap, subst, ◌∙◌, append_assoc, append-nil, length-append, arith}
use Rattle.std.specs.Prelude.{Option, Some, IfSome}
use Rattle.std.specs.List.{AllByRecursion}
use Rattle.std.proofs.lemmas.Bool.{cases_eq, eqb-true, true≢false}
use Rattle.run_model.specs.Openings.{Setup}
use Rattle.run_model.specs.Reading.{Cuts, Lacks}
use Rattle.run_model.specs.Spaces.{Lacks-nil, Lacks-cons}
use Rattle.traces.specs.declared.line.Line.{Line}
use Rattle.run_model.specs.Gathering.{Histories}
use Rattle.traces.specs.declared.trace.TraceFault.{TraceFault}
use Rattle.traces.specs.declared.trace.TraceFault.TheVariants as fault
use Rattle.traces.specs.Faults.{IsFaultOf, IsStop}
use Rattle.traces.specs.Traces.{AreHistoriesOver, BeginsWithSetup, HasBadLine, IsLine, IsTrace, LacksSetup, line_text, lines_of, lines_text}
use Rattle.traces.specs.Reading.{AreReadTo, Reading, SpellsSetup, StopsAt, TakesLine}
use Rattle.traces.proofs.Kept.{all_push, lines_text-push}
use Rattle.traces.proofs.LineFeeds.{after}
use Rattle.traces.proofs.OneLine.{line_lacks_line_feed}

-- ---- the lines

pub none_read : (bytes : List ℕ) (lines : List Line) → lines ≡ [] → AreReadTo bytes bytes lines 2
none_read bytes lines none = subst (λ (ls : List Line). AreReadTo bytes bytes ls 2) (sym none) (record { text = refl; each = tt; in_order = tt; counted = refl })

length-push : (lines : List Line) (l : Line) → length (lines ++ l ∷ []) ≡ length lines + 1
length-push lines l = length-append lines (l ∷ [])

pub one_read : (bytes rest line others : List ℕ) (old new : Reading) (n : ℕ) (b : Bool) → AreReadTo bytes rest old.lines n → Cuts 10 rest line others → b ≡ true → TakesLine line old new b
    → AreReadTo bytes others new.lines (n + 1)
one_read bytes rest line others old new n b so_far cut is takes = go (subst (TakesLine line old new) is takes)
  where
    go : TakesLine line old new true → AreReadTo bytes others new.lines (n + 1)
    go t = subst (λ (r : Reading). AreReadTo bytes others r.lines (n + 1)) (sym t.4) (record {
      text = so_far.text
          ∙ ap (λ (x : List ℕ). lines_text old.lines ++ x) (cut.parts ∙ ap (λ (x : List ℕ). x ++ 10 ∷ others) t.2 ∙ sym (append_assoc (line_text t.0) (10 ∷ []) others))
          ∙ sym (append_assoc (lines_text old.lines) (line_text t.0 ++ 10 ∷ []) others)
          ∙ ap (λ (x : List ℕ). x ++ others) (sym (lines_text-push old.lines t.0));
      each = all_push old.lines t.0 so_far.each t.1;
      in_order = t.3;
      counted = omega (arith, so_far.counted, length-push old.lines t.0);
    })

pub same_setup : (line : List ℕ) (old new : Reading) (b : Bool) → b ≡ true → TakesLine line old new b → new.setup ≡ old.setup
same_setup line old new b is takes = ap (λ (r : Reading). r.setup) (subst (TakesLine line old new) is takes).4

pub all_read : (bytes rest : List ℕ) (lines : List Line) (n : ℕ) → AreReadTo bytes rest lines n → eqb (length rest) 0 ≡ true → bytes ≡ lines_text lines
all_read bytes rest lines n so_far none = so_far.text ∙ ap (λ (x : List ℕ). lines_text lines ++ x) (empty rest (eqb-true (length rest) 0 none)) ∙ append-nil (lines_text lines)
  where
    empty : (xs : List ℕ) → length xs ≡ 0 → xs ≡ []
    empty [] h = refl
    empty (x ∷ xs) h = absurd (omega arith)

more_left : (rest : List ℕ) → eqb (length rest) 0 ≡ false → rest ≢ []
more_left rest some none = true≢false (sym (eq-eqb (length rest) 0 (ap length none)) ∙ some)

-- a line without its line feed
pub stops_uncut : (bytes rest : List ℕ) (lines : List Line) (n : ℕ) → AreReadTo bytes rest lines n → eqb (length rest) 0 ≡ false → ((a b : List ℕ) → Lacks 10 a → rest ≢ a ++ 10 ∷ b) → StopsAt bytes n
stops_uncut bytes rest lines n so_far some none = record {
  lines = lines;
  rest = rest;
  are_read = so_far;
  goes_on = more_left rest some;
  no_line = λ l more fits order e. none (line_text l) more (line_lacks_line_feed l fits) e;
}

-- a line that must not follow
pub stops_there : (bytes rest line others : List ℕ) (old new : Reading) (n : ℕ) (b : Bool) → AreReadTo bytes rest old.lines n → eqb (length rest) 0 ≡ false → Cuts 10 rest line others
    → b ≡ false → TakesLine line old new b → StopsAt bytes n
stops_there bytes rest line others old new n b so_far some cut is takes = go (subst (TakesLine line old new) is takes)
  where
    go : TakesLine line old new false → StopsAt bytes n
    go t = record {
      lines = old.lines;
      rest = rest;
      are_read = so_far;
      goes_on = more_left rest some;
      no_line = λ l more fits order e. t.0 l fits order (cut.only (line_text l) more (line_lacks_line_feed l fits) e).0;
    }

-- there are fewer lines than bytes
two_each : (lines : List Line) → 2 * length lines ≤ length (lines_text lines) + length lines
two_each [] = omega arith
two_each (l ∷ lines) = omega (arith, two_each lines, length-append (line_text l) (10 ∷ lines_text lines))

pub few_lines : (bytes rest : List ℕ) (lines : List Line) (n : ℕ) → AreReadTo bytes rest lines n → n ≤ length bytes + 2
few_lines bytes rest lines n so_far = omega (arith, so_far.counted, two_each lines, ap length so_far.text, length-append (lines_text lines) rest)

-- ---- the setup line

line_lacks : (document : List ℕ) → Lacks 10 document → Lacks 10 (codes "setup " ++ document)
line_lacks document lacks = after (codes "setup ") document refl lacks

pub no_setup_cut : (bytes : List ℕ) → ((a b : List ℕ) → Lacks 10 a → bytes ≢ a ++ 10 ∷ b) → LacksSetup bytes
no_setup_cut bytes none = λ setup rest begins. none (codes "setup " ++ begins.document) rest (line_lacks begins.document begins.one_line) begins.text

pub no_setup : (bytes line rest : List ℕ) → Cuts 10 bytes line rest → ((setup : Setup) → SpellsSetup line setup → ⊥) → LacksSetup bytes
no_setup bytes line rest cut none = λ setup more begins.
    none setup (begins.document, (cut.only (codes "setup " ++ begins.document) more (line_lacks begins.document begins.one_line) begins.text).0, begins.spells)

-- a text lacks a mark, or has a first one
first_mark : (mark : ℕ) (xs : List ℕ) → Lacks mark xs ⊎ ((a : List ℕ) × (b : List ℕ) × Lacks mark a × (xs ≡ a ++ mark ∷ b))
first_mark mark [] = inl (Lacks-nil mark)
first_mark mark (x ∷ xs) = elim (cases_eq x mark) [
  | inl e ↦ inr ([], xs, Lacks-nil mark, ap (λ (d : ℕ). d ∷ xs) e)
  | inr other ↦ elim (first_mark mark xs) [
    | inl none ↦ inl (Lacks-cons mark x xs other none)
    | inr p ↦ inr (x ∷ p.0, p.1, Lacks-cons mark x p.0 other p.2, ap (λ (t : List ℕ). x ∷ t) p.3)
  ]
]

-- what stands before the first mark lacks it
cut_lacks : (mark : ℕ) (text front rest : List ℕ) → Cuts mark text front rest → Lacks mark front
cut_lacks mark text front rest cut = elim (first_mark mark front) [
  | inl none ↦ none
  | inr p ↦ absurd (
      let e : text ≡ p.0 ++ mark ∷ (p.1 ++ mark ∷ rest) = cut.parts ∙ ap (λ (t : List ℕ). t ++ mark ∷ rest) p.3 ∙ append_assoc p.0 (mark ∷ p.1) (mark ∷ rest) in
      omega (arith, ap length (cut.only p.0 (p.1 ++ mark ∷ rest) p.2 e).0, ap length p.3, length-append p.0 (mark ∷ p.1)))
]

Lacks-tail : (mark c : ℕ) (xs : List ℕ) → Lacks mark (c ∷ xs) → Lacks mark xs
Lacks-tail mark c xs h i lt e = h (suc i) (omega arith) e

Lacks-behind : (mark : ℕ) (a b : List ℕ) → Lacks mark (a ++ b) → Lacks mark b
Lacks-behind mark [] b h = h
Lacks-behind mark (c ∷ a) b h = Lacks-behind mark a b (Lacks-tail mark c (a ++ b) h)

pub begins_with : (bytes line rest : List ℕ) (setup : Setup) → Cuts 10 bytes line rest → SpellsSetup line setup → BeginsWithSetup bytes setup rest
begins_with bytes line rest setup cut spells = record {
  document = spells.0;
  spells = spells.2;
  one_line = Lacks-behind 10 (codes "setup ") spells.0 (subst (Lacks 10) spells.1 (cut_lacks 10 bytes line rest cut));
  text = cut.parts ∙ ap (λ (x : List ℕ). x ++ 10 ∷ rest) spells.1;
}

-- what was found of a first line
pub started : (line : List ℕ) (o : Option Reading) (r : Reading) → o ≡ Some r → IfSome o (λ x. SpellsSetup line x.setup × (x.lines ≡ [])) → SpellsSetup line r.setup × (r.lines ≡ [])
started line o r is found = subst (λ (p : Option Reading). IfSome p (λ x. SpellsSetup line x.setup × (x.lines ≡ []))) is found

-- ---- the whole

pub bad_line : (bytes rest : List ℕ) (setup : Setup) (n : ℕ) → BeginsWithSetup bytes setup rest → StopsAt rest n → HasBadLine bytes n
bad_line bytes rest setup n begins stops = record {
  setup = setup;
  lines = stops.lines;
  rest = stops.rest;
  begins = subst (BeginsWithSetup bytes setup) stops.are_read.text begins;
  each = stops.are_read.each;
  in_order = stops.are_read.in_order;
  counted = stops.are_read.counted;
  goes_on = stops.goes_on;
  no_line = stops.no_line;
}

pub fault_behind : (bytes rest : List ℕ) (setup : Setup) (f : TraceFault) → BeginsWithSetup bytes setup rest → IsStop rest f → IsFaultOf bytes f
fault_behind bytes rest setup fault.Setup begins stop = absurd stop
fault_behind bytes rest setup (fault.Line n) begins stop = bad_line bytes rest setup n begins stop
fault_behind bytes rest setup fault.Memory begins stop = tt

pub trace_read : (bytes rest : List ℕ) (setup s : Setup) (hs : Histories) (ls : List Line) → BeginsWithSetup bytes setup rest → s ≡ setup → rest ≡ lines_text ls
    → lines_of hs ≡ ls → AllByRecursion IsLine ls → AreHistoriesOver setup hs.guardians → IsTrace bytes s hs
trace_read bytes rest setup s hs ls begins same text lines each guardians = subst (λ (t : Setup). IsTrace bytes t hs) (sym same) (record {
  each = subst (AllByRecursion IsLine) (sym lines) each;
  guardians = guardians;
  text = subst (BeginsWithSetup bytes setup) (text ∙ ap lines_text (sym lines)) begins;
})
