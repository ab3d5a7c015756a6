-- A script over an input and perhaps a second text.
use Rattle.std.proofs.Common.{◌≡◌, ℕ, Option, Some, None, List, [], ◌++◌, refl, sym, ap, subst, ◌∙◌, append-nil, inl, inr, IfSome, Bool}
use Rattle.std.specs.Prelude.{option_and_then}
use Rattle.ovs_script.specs.declared.script_error.ScriptError.{ScriptError}
use Rattle.ovs_script.specs.declared.script_error.ScriptError.TheVariants.{ReadFault, WriteFault, TurnsSpent, NoMemory}
use Rattle.ovs_script.specs.Lines.{lines_of}
use Rattle.ovs_script.specs.Sending.{AppendsAllBut}
use Rattle.ovs_script.specs.Rules.{Rules, SaysTo, AreLastWordsSoFar}
use Rattle.ovs_script.specs.Texts.{Texts, AreAnswersToFirst, AreFirstAnswers, HearsRead, HearsAllRead, SaysBehind, SaysBeside, SaysToAll, IsOutput, IsOutputSoFar, texts_of, both_known, input_known}
use Rattle.ovs_script.specs.Said.{TellsSaid}
use Rattle.ovs_script.proofs.Sent.{sent_then}
use Rattle.ovs_script.proofs.Way.{Answered, Begun, all_but_none}

-- ---- claims of texts that may be unknown

pub of_input : {M : Type 0} (start : Option (List ℕ)) (remaining : M → Option (List ℕ)) (second : Option M) (A : List ℕ → Type 0) (P : Texts → Type 0)
    → ((input : List ℕ) (text : Option (List ℕ)) → option_and_then remaining second ≡ text → A input → P (record { input = input; second = text }))
    → IfSome start A → IfSome (texts_of start remaining second) P
of_input None remaining None A P f holds = tt
of_input (Some input) remaining None A P f holds = f input None refl holds
of_input start remaining (Some m) A P f holds = known start (remaining m) refl holds
  where
    known : (start text : Option (List ℕ)) → remaining m ≡ text → IfSome start A → IfSome (both_known start text) P
    known None text is holds = tt
    known (Some input) None is holds = tt
    known (Some input) (Some text) is holds = f input (Some text) is holds

pub of_each : (start second : Option (List ℕ)) (A B : List ℕ → Type 0) (P : Texts → Type 0)
    → ((input text : List ℕ) → A input → B text → P (record { input = input; second = Some text }))
    → IfSome start A → IfSome second B → IfSome (both_known start second) P
of_each None second A B P f holds other = tt
of_each (Some input) None A B P f holds other = tt
of_each (Some input) (Some text) A B P f holds other = f input text holds other

pub of_texts : (texts : Option Texts) (P Q : Texts → Type 0) → ((t : Texts) → P t → Q t) → IfSome texts P → IfSome texts Q
of_texts None P Q f holds = tt
of_texts (Some t) P Q f holds = f t holds

-- what is said to all lines is said to some first lines
all_to_first : {S : Type 0} (rules : Rules S) (s : S) (text said : List ℕ) (last : S) → SaysTo rules s text said last → AreAnswersToFirst rules s text said
all_to_first rules s text said last says = (lines_of text, ([], sym (append-nil (lines_of text))), last, says)

pub all_are_first : {S : Type 0} (rules : Rules S) (s : S) (t : Texts) (said : List ℕ) (last : S) → SaysToAll rules s t said last → AreFirstAnswers rules s t said
all_are_first {S} rules s t said last says = each t.input t.second says
  where
    each : (input : List ℕ) (second : Option (List ℕ)) → SaysBeside rules s input second said last → AreFirstAnswers rules s (record { input = input; second = second }) said
    each input None says = inl (all_to_first rules s input said last says)
    each input (Some text) says = inr (record {
      first = says.first;
      behind = says.behind;
      found = says.found;
      more = says.more;
      to_input = says.to_input;
      turned = says.turned;
      to_second = all_to_first rules says.found text says.more last says.to_second;
      all = says.all;
    })

-- ---- the last words

-- they are behind what is said to all lines
pub closed : {S : Type 0} (rules : Rules S) (s : S) (t : Texts) (said : List ℕ) (last : S) (words : List ℕ) (is_content : Bool) → SaysToAll rules s t said last
    → rules.Closes last words is_content → IsOutput rules s t (said ++ words) is_content
closed rules s t said last words is_content says closes = (said, last, words, says, closes, refl)

pub closed_so_far : {S : Type 0} (rules : Rules S) (s : S) (t : Texts) (said : List ℕ) (last : S) (words : List ℕ) → SaysToAll rules s t said last
    → AreLastWordsSoFar rules last words → IsOutputSoFar rules s t (said ++ words)
closed_so_far rules s t said last words says (inl none) =
    let same : said ++ words ≡ said = ap (λ l. said ++ l) none ∙ append-nil said in
    inl (subst (AreFirstAnswers rules s t) (sym same) (all_are_first rules s t said last says))
closed_so_far rules s t said last words says (inr (is_content, closes)) = inr (is_content, closed rules s t said last words is_content says closes)

module _ {S : Type 0} (rules : Rules S) (s : S) (start before now : Option (List ℕ)) (waited waiting : List ℕ) where
  -- ---- a fault before the second text, if there is one

  module _ {M : Type 0} (remaining : M → Option (List ℕ)) (second : Option M) where
    pub begun_input : Begun rules s start before now waited waiting
        → IfSome (texts_of start remaining second) (λ t. (said : List ℕ) × AreFirstAnswers rules s t said × (others : List ℕ) × AppendsAllBut before now (waited ++ said) (waiting ++ others))
    begun_input so_far = of_input start remaining second _ _ (λ input text is told. (told.0, inl told.1, told.2, told.3)) so_far

    pub said_input : (s' : S) (left : Option (List ℕ)) (fault : ScriptError)
        → IfSome start (λ text. TellsSaid fault (HearsRead rules s s' text left) (AreAnswersToFirst rules s text) before now waited waiting)
        → IfSome (texts_of start remaining second) (λ t. TellsSaid fault (HearsAllRead rules s s' t left (option_and_then remaining second)) (AreFirstAnswers rules s t) before now waited waiting)
    said_input s' left ReadFault said = of_input start remaining second _ _ (λ input text is told. (told.0, inl (told.1, is), told.2)) said
    said_input s' left NoMemory said = of_input start remaining second _ _ (λ input text is told. (told.0, inl told.1, told.2)) said
    said_input s' left WriteFault said = of_input start remaining second _ _ (λ input text is told. tt) said
    said_input s' left TurnsSpent said = of_input start remaining second _ _ (λ input text is told. tt) said

  module _ (second : Option (List ℕ)) where
    -- the input is answered, and memory runs out before the second text
    pub begun_between : (mid : S) → Answered rules s start before now waited waiting mid
        → IfSome (both_known start second) (λ t. (said : List ℕ) × AreFirstAnswers rules s t said × (others : List ℕ) × AppendsAllBut before now (waited ++ said) (waiting ++ others))
    begun_between mid answered = of_input start (λ (known : Option (List ℕ)). known) (Some second) _ _ (λ input text is told.
        (told.0, inl (all_to_first rules s input told.0 mid told.1), [], all_but_none before now (waited ++ told.0) waiting told.2)) answered

    -- ---- the second text

    module _ (new : Option (List ℕ)) (none : List ℕ) (mid m : S) (turned : rules.BeginsSecond mid m) (answered : Answered rules s start before now waited waiting mid) where
      behind : (input text first more : List ℕ) (IsMore : S → List ℕ → List ℕ → Type 0) → SaysTo rules s input first mid → IsMore m text more
          → SaysBehind rules s input text IsMore (first ++ more)
      behind input text first more IsMore to_input to_second =
          record { first = first; behind = mid; found = m; more = more; to_input = to_input; turned = turned; to_second = to_second; all = refl }

      pub both_answered : (last : S) → Answered rules m second now new waiting none last
          → IfSome (both_known start second) (λ t. (said : List ℕ) × SaysToAll rules s t said last × AppendsAllBut before new (waited ++ said) none)
      both_answered last more = of_each start second _ _ _ (λ input text a b. (
        a.0 ++ b.0,
        behind input text a.0 b.0 (λ m text more. SaysTo rules m text more last) a.1 b.1,
        sent_then before now new waited a.0 b.0 waiting none a.2 b.2,
      )) answered more

      pub both_begun : Begun rules m second now new waiting none
          → IfSome (both_known start second) (λ t. (said : List ℕ) × AreFirstAnswers rules s t said × (others : List ℕ) × AppendsAllBut before new (waited ++ said) (none ++ others))
      both_begun more = of_each start second _ _ _ (λ input text a b. (
        a.0 ++ b.0,
        inr (behind input text a.0 b.0 (AreAnswersToFirst rules) a.1 b.1),
        b.2,
        sent_then before now new waited a.0 b.0 waiting (none ++ b.2) a.2 b.3,
      )) answered more

      pub both_said : (last : S) (left second_left : Option (List ℕ)) (fault : ScriptError)
          → IfSome second (λ text. TellsSaid fault (HearsRead rules m last text second_left) (AreAnswersToFirst rules m text) now new waiting none)
          → IfSome (both_known start second) (λ t. TellsSaid fault (HearsAllRead rules s last t left second_left) (AreFirstAnswers rules s t) before new waited none)
      both_said last left second_left ReadFault more = of_each start second _ _ _ (λ input text a b. (
        a.0 ++ b.0,
        inr (behind input text a.0 b.0 (λ m text more. HearsRead rules m last text second_left more) a.1 b.1),
        sent_then before now new waited a.0 b.0 waiting none a.2 b.2,
      )) answered more
      both_said last left second_left NoMemory more = of_each start second _ _ _ (λ input text a b. (
        a.0 ++ b.0,
        inr (behind input text a.0 b.0 (AreAnswersToFirst rules) a.1 b.1),
        sent_then before now new waited a.0 b.0 waiting none a.2 b.2,
      )) answered more
      both_said last left second_left WriteFault more = of_each start second _ _ _ (λ input text a b. tt) answered more
      both_said last left second_left TurnsSpent more = of_each start second _ _ _ (λ input text a b. tt) answered more
