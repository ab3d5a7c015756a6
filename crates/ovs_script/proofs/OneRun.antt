-- Rules that are functions have one run over the texts.
use Rattle.std.proofs.Common.{◌≡◌, ℕ, ◌+◌, Option, Some, None, List, [], ◌∷◌, ◌++◌, length, refl, sym, ap, subst, ◌∙◌, append_assoc, append-nil, true, false, cond, Bool, inl, inr}
use Rattle.ovs_script.specs.Lines.{lines_of, kept}
use Rattle.ovs_script.specs.Rules.{Says}
use Rattle.ovs_script.specs.Texts.{Texts, AreAnswersToFirst, AreFirstAnswers, SaysBeside, IsOutput, IsOutputSoFar, MayHearSecond}
use Rattle.ovs_script.specs.Functions.{Functions, rules_of, answers_from, state_from, answers_to, state_after, second_state, answers_beside, state_beside, all_answers, last_state, script_output, is_content_with}
use Rattle.ovs_script.proofs.Way.{Says-append}

module _ {S : Type 0} (f : Functions S) where
  -- ---- the lines of one text

  -- exactly the answers are said, and the state follows
  abbrev pub IsAnswered : S → ℕ → List (List ℕ) → List ℕ → S → Type 0
  IsAnswered s n lines said t = (said ≡ answers_from f s n lines) × (t ≡ state_from f s n lines)

  pub says_one : (s : S) (n : ℕ) (lines : List (List ℕ)) (said : List ℕ) (t : S) → Says (rules_of f) s n lines said t → IsAnswered s n lines said t
  says_one s n [] said t says = says
  says_one s n (line ∷ lines) said t (inl (over, (none, same))) = rw over (none, same)
  says_one s n (line ∷ lines) said t (inr (on, answer, next, more, (told, came), says, is)) =
      let later = says_one next (n + 1) lines more t says in
      let here = ap (λ z. answers_from f z (n + 1) lines) came in
      let there = ap (λ z. state_from f z (n + 1) lines) came in
      rw on (is ∙ ap (λ l. l ++ more) told ∙ ap (λ l. f.answer s n (kept line) ++ l) (later.0 ∙ here), later.1 ∙ there)

  answers_are_said : (s : S) (n : ℕ) (lines : List (List ℕ)) → Says (rules_of f) s n lines (answers_from f s n lines) (state_from f s n lines)
  answers_are_said s n [] = (refl, refl)
  answers_are_said s n (line ∷ lines) =
      elim (f.is_over s) as (λ v. f.is_over s ≡ v → Says (rules_of f) s n (line ∷ lines)
      (cond v [] (f.answer s n (kept line) ++ answers_from f (f.after s n (kept line)) (n + 1) lines)) (cond v s (state_from f (f.after s n (kept line)) (n + 1) lines))) [
        | true ↦ λ over. inl (over, (refl, refl))
        | false ↦ λ on. inr (
          on,
          f.answer s n (kept line),
          f.after s n (kept line),
          answers_from f (f.after s n (kept line)) (n + 1) lines,
          (refl, refl),
          answers_are_said (f.after s n (kept line)) (n + 1) lines,
          refl,
        )
      ] refl

  pub one_says : (s : S) (n : ℕ) (lines : List (List ℕ)) (said : List ℕ) (t : S) → IsAnswered s n lines said t → Says (rules_of f) s n lines said t
  one_says s n lines said t (is, same) =
      subst (λ (l : List ℕ). Says (rules_of f) s n lines l t) (sym is) (subst (Says (rules_of f) s n lines (answers_from f s n lines)) (sym same) (answers_are_said s n lines))

  -- the answers to some first lines are a beginning of all of them
  pub first_begin : (s : S) (text said : List ℕ) → AreAnswersToFirst (rules_of f) s text said → (others : List ℕ) × (answers_to f s text ≡ said ++ others)
  first_begin s text said (lines, (later, is), t, says) =
      let others = answers_from f t (0 + length lines) later in
      let all = Says-append (rules_of f) s 0 lines later said others t _ says (answers_are_said t (0 + length lines) later) in
      (others, ap (answers_from f s 0) is ∙ sym (says_one s 0 (lines ++ later) (said ++ others) _ all).0)

  -- ---- both texts

  pub beside_one : (s : S) (input : List ℕ) (second : Option (List ℕ)) (said : List ℕ) (last : S) → SaysBeside (rules_of f) s input second said last
      → (said ≡ answers_beside f s input second) × (last ≡ state_beside f s input second)
  beside_one s input None said last says = says_one s 0 (lines_of input) said last says
  beside_one s input (Some text) said last says =
      let first = says_one s 0 (lines_of input) says.first says.behind says.to_input in
      let later = says_one says.found 0 (lines_of text) says.more last says.to_second in
      let found : says.found ≡ second_state f s input = says.turned ∙ ap f.at_second first.1 in (
        says.all ∙ ap (λ l. l ++ says.more) first.0 ∙ ap (λ l. answers_to f s input ++ l) (later.0 ∙ ap (λ z. answers_to f z text) found),
        later.1 ∙ ap (λ z. state_after f z text) found,
      )

  one_beside : (s : S) (input : List ℕ) (second : Option (List ℕ)) → SaysBeside (rules_of f) s input second (answers_beside f s input second) (state_beside f s input second)
  one_beside s input None = answers_are_said s 0 (lines_of input)
  one_beside s input (Some text) = record {
    first = answers_to f s input;
    behind = state_after f s input;
    found = second_state f s input;
    more = answers_to f (second_state f s input) text;
    to_input = answers_are_said s 0 (lines_of input);
    turned = refl;
    to_second = answers_are_said (second_state f s input) 0 (lines_of text);
    all = refl;
  }

  -- the output is determined, and whether the script is content
  pub one_output : (s : S) (t : Texts) (output : List ℕ) (is_content : Bool) → IsOutput (rules_of f) s t output is_content
      → (output ≡ script_output f s t) × (is_content ≡ is_content_with f s t)
  one_output s t output is_content (said, last, words, says, (closing, content), is) =
      let all = beside_one s t.input t.second said last says in (
        is ∙ ap (λ l. l ++ words) all.0 ∙ ap (λ l. all_answers f s t ++ l) (closing ∙ ap f.closing all.1),
        content ∙ ap f.is_content all.1,
      )

  pub output_is_one : (s : S) (t : Texts) (output : List ℕ) (is_content : Bool) → (output ≡ script_output f s t) × (is_content ≡ is_content_with f s t)
      → IsOutput (rules_of f) s t output is_content
  output_is_one s t output is_content (is, content) =
      (all_answers f s t, last_state f s t, f.closing (last_state f s t), one_beside s t.input t.second, (refl, content), is)

  first_of_both : (s : S) (input : List ℕ) (second : Option (List ℕ)) (said : List ℕ) → AreFirstAnswers (rules_of f) s (record { input = input; second = second }) said
      → (others : List ℕ) × (answers_beside f s input second ≡ said ++ others)
  first_of_both s input None said (inl first) = first_begin s input said first
  first_of_both s input None said (inr behind) = absurd behind
  first_of_both s input (Some text) said (inl first) =
      let part = first_begin s input said first in
      let later = answers_to f (second_state f s input) text in
      (part.0 ++ later, ap (λ l. l ++ later) part.1 ∙ append_assoc said part.0 later)
  first_of_both s input (Some text) said (inr behind) =
      let first = says_one s 0 (lines_of input) behind.first behind.behind behind.to_input in
      let part = first_begin behind.found text behind.more behind.to_second in
      let found : behind.found ≡ second_state f s input = behind.turned ∙ ap f.at_second first.1 in (
        part.0,
        ap (λ l. l ++ answers_to f (second_state f s input) text) (sym first.0) ∙ ap (λ z. behind.first ++ answers_to f z text) (sym found)
            ∙ ap (λ l. behind.first ++ l) part.1 ∙ sym (append_assoc behind.first behind.more part.0) ∙ ap (λ l. l ++ part.0) (sym behind.all),
      )

  -- what is said so far is a beginning of the output
  pub so_far_begins : (s : S) (t : Texts) (output : List ℕ) → IsOutputSoFar (rules_of f) s t output → (others : List ℕ) × (script_output f s t ≡ output ++ others)
  so_far_begins s t output (inl first) =
      let part = first_of_both s t.input t.second output first in
      let words = f.closing (last_state f s t) in
      (part.0 ++ words, ap (λ l. l ++ words) part.1 ∙ append_assoc output part.0 words)
  so_far_begins s t output (inr (is_content, all)) = ([], sym (one_output s t output is_content all).0 ∙ sym (append-nil output))

  pub second_heard : (s : S) (input : List ℕ) → MayHearSecond (rules_of f) s input → f.is_over (second_state f s input) ≡ false
  second_heard s input (said, behind, found, says, turned, on) =
      let is : found ≡ second_state f s input = turned ∙ ap f.at_second (says_one s 0 (lines_of input) said behind says).1 in
      ap f.is_over (sym is) ∙ on

  pub heard_second : (s : S) (input : List ℕ) → f.is_over (second_state f s input) ≡ false → MayHearSecond (rules_of f) s input
  heard_second s input on = (answers_to f s input, state_after f s input, second_state f s input, answers_are_said s 0 (lines_of input), refl, on)
