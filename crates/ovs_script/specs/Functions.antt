-- Rules that are functions of the state: then the texts determine the output.
use Rattle.std.specs.Prelude.{◌≡◌, ℕ, ◌+◌, List, [], ◌∷◌, ◌++◌, Bool, if◌then◌else◌, Option, Some, None}
use Rattle.ovs_script.specs.Lines.{lines_of, kept}
use Rattle.ovs_script.specs.Rules.{Rules}
use Rattle.ovs_script.specs.Texts.{Texts}

pub record Functions (S : Type 0) : Type 0 where
  -- what is said to a line
  pub answer : S → ℕ → Option (List ℕ) → List ℕ
  -- the state after a line
  pub after : S → ℕ → Option (List ℕ) → S
  -- the state in which the lines of a second text find it
  pub at_second : S → S
  -- no further line of this text is heard
  pub is_over : S → Bool
  -- the last words
  pub closing : S → List ℕ
  -- it is content with what was heard
  pub is_content : S → Bool

-- the rules by which exactly this is said, and exactly these states follow
abbrev pub rules_of : {S : Type 0} → Functions S → Rules S
rules_of f = record {
  Answers = λ s n line said t. (said ≡ f.answer s n line) × (t ≡ f.after s n line);
  BeginsSecond = λ s t. t ≡ f.at_second s;
  is_over = f.is_over;
  Closes = λ s words is_content. (words ≡ f.closing s) × (is_content ≡ f.is_content s);
}

-- ---- the lines of one text

-- what is said to the lines from number n on
abbrev pub answers_from : {S : Type 0} → Functions S → S → ℕ → List (List ℕ) → List ℕ
answers_from f s n [] = []
answers_from f s n (line ∷ lines) = if f.is_over s then []
    else f.answer s n (kept line) ++ answers_from f (f.after s n (kept line)) (n + 1) lines

-- the state after the lines from number n on
abbrev pub state_from : {S : Type 0} → Functions S → S → ℕ → List (List ℕ) → S
state_from f s n [] = s
state_from f s n (line ∷ lines) = if f.is_over s then s
    else state_from f (f.after s n (kept line)) (n + 1) lines

-- what is said to the lines of a text, whose numbers count from 0
abbrev pub answers_to : {S : Type 0} → Functions S → S → List ℕ → List ℕ
answers_to f s text = answers_from f s 0 (lines_of text)

-- the state after the lines of a text
abbrev pub state_after : {S : Type 0} → Functions S → S → List ℕ → S
state_after f s text = state_from f s 0 (lines_of text)

-- ---- both texts

-- what a second text finds: the state behind all lines of the input, turned to it
abbrev pub second_state : {S : Type 0} → Functions S → S → List ℕ → S
second_state f s input = f.at_second (state_after f s input)

abbrev pub answers_beside : {S : Type 0} → Functions S → S → List ℕ → Option (List ℕ) → List ℕ
answers_beside f s input None = answers_to f s input
answers_beside f s input (Some text) = answers_to f s input ++ answers_to f (second_state f s input) text

abbrev pub state_beside : {S : Type 0} → Functions S → S → List ℕ → Option (List ℕ) → S
state_beside f s input None = state_after f s input
state_beside f s input (Some text) = state_after f (second_state f s input) text

-- what is said to the lines of the input, and then to those of the second text, if there is one
abbrev pub all_answers : {S : Type 0} → Functions S → S → Texts → List ℕ
all_answers f s t = answers_beside f s t.input t.second

-- the state after all these lines
abbrev pub last_state : {S : Type 0} → Functions S → S → Texts → S
last_state f s t = state_beside f s t.input t.second

-- all that is written: the answers, and then the last words
abbrev pub script_output : {S : Type 0} → Functions S → S → Texts → List ℕ
script_output f s t = all_answers f s t ++ f.closing (last_state f s t)

-- it is content with all it heard
abbrev pub is_content_with : {S : Type 0} → Functions S → S → Texts → Bool
is_content_with f s t = f.is_content (last_state f s t)
