-- Writing the lines of what is explained, or a beginning of them.
use Rattle.std.proofs.Common.{◌≡◌, ◌≢◌, ℕ, List, [], Option, take, drop, refl, sym, ap, ◌∙◌, take-append-drop}
use Rattle.std.proofs.KnownBytes.{Appends-nil}
use Rattle.action_names.specs.Names.{Name, IsName, name_text}
use Rattle.run_model.specs.declared.history.Event.{Event}
use Rattle.run_model.specs.Explaining.{IsExplained, explanation, explanation_lines, not_begun}
use Rattle.run_model.proofs.OneSpelling.{same_name}
use Rattle.argus_engine.specs.Serving.{Begins, Writes, TakesFront}

-- a beginning of the only lines that there are
pub front_written : (before after : Option (List ℕ)) (text : List ℕ) (Right : List ℕ → Type 0) → ((lines : List ℕ) → Right lines → lines ≡ text)
    → TakesFront before after text → Writes before after (λ written. (lines : List ℕ) → Right lines → Begins written lines)
front_written before after text Right only took =
    (take took.0 text, took.2, λ lines right. (drop took.0 text, only lines right ∙ sym (take-append-drop took.0 text)))

-- nothing, which begins all lines
pub nothing_written : (before : Option (List ℕ)) (Right : List ℕ → Type 0)
    → Writes before before (λ written. (lines : List ℕ) → Right lines → Begins written lines)
nothing_written before Right = ([], Appends-nil before, λ lines right. (lines, refl))

-- a word that is the name of an action: its lines, and no others
pub name_explained : (word : List ℕ) (past : List Event) (a : Name) (text : List ℕ) → IsName a → word ≡ name_text a
    → text ≡ explanation_lines (explanation a past) past → IsExplained word past text
name_explained word past a text is spelled written = record {
  of_name = λ b named same. written ∙ ap (λ c. explanation_lines (explanation c past) past) (same_name a b is named (sym spelled ∙ same));
  of_no_name = λ none. absurd (none a is spelled);
}

pub name_explained_once : (word : List ℕ) (past : List Event) (a : Name) (text lines : List ℕ) → IsName a → word ≡ name_text a
    → text ≡ explanation_lines (explanation a past) past → IsExplained word past lines → lines ≡ text
name_explained_once word past a text lines is spelled written right = right.of_name a is spelled ∙ sym written

-- and one that is no name
pub no_name_explained : (word : List ℕ) (past : List Event) (text : List ℕ) → ((a : Name) → IsName a → word ≢ name_text a)
    → text ≡ explanation_lines not_begun past → IsExplained word past text
no_name_explained word past text none written = record {
  of_name = λ a is spelled. absurd (none a is spelled);
  of_no_name = λ again. written;
}

pub no_name_explained_once : (word : List ℕ) (past : List Event) (text lines : List ℕ) → ((a : Name) → IsName a → word ≢ name_text a)
    → text ≡ explanation_lines not_begun past → IsExplained word past lines → lines ≡ text
no_name_explained_once word past text lines none written right = right.of_no_name none ∙ sym written
