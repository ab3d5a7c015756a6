-- The texts of a run, an input and perhaps a second text, and what a script says to them.
use Rattle.std.specs.Prelude.{◌≡◌, ◌⊎◌, ℕ, List, ◌++◌, Bool, false, Option, Some, None, IsTrue, IfSome}
use Rattle.std.specs.Io.KnownBytes.{Consumes}
use Rattle.ovs_script.specs.Lines.{lines_of, ended_lines}
use Rattle.ovs_script.specs.Rules.{Rules, Says, SaysTo}

-- the texts of a run
pub record Texts : Type 0 where
  pub input : List ℕ
  pub second : Option (List ℕ)

-- an input and the bytes of a second reader, where they are known
abbrev pub both_known : Option (List ℕ) → Option (List ℕ) → Option Texts
both_known None second = None
both_known (Some input) None = None
both_known (Some input) (Some text) = Some (record { input = input; second = Some text })

abbrev pub input_known : Option (List ℕ) → Option Texts
input_known None = None
input_known (Some input) = Some (record { input = input; second = None })

-- the texts of a run over an input and perhaps a second reader, where all their bytes are known
abbrev pub texts_of : {M : Type 0} → Option (List ℕ) → (M → Option (List ℕ)) → Option M → Option Texts
texts_of input remaining None = input_known input
texts_of input remaining (Some m) = both_known input (remaining m)

-- ---- what is said to all lines

-- something is said to all lines of the input; then the script begins the second text, and says behind it what is so of that
pub record SaysBehind {S : Type 0} (rules : Rules S) (s : S) (input text : List ℕ) (IsMore : S → List ℕ → List ℕ → Type 0) (said : List ℕ) : Type 0 where
  pub first : List ℕ
  pub behind : S
  pub found : S
  pub more : List ℕ
  pub to_input : SaysTo rules s input first behind
  pub turned : rules.BeginsSecond behind found
  pub to_second : IsMore found text more
  pub all : said ≡ first ++ more

abbrev pub SaysBeside : {S : Type 0} → Rules S → S → List ℕ → Option (List ℕ) → List ℕ → S → Type 0
SaysBeside rules s input None said last = SaysTo rules s input said last
SaysBeside rules s input (Some text) said last = SaysBehind rules s input text (λ m text more. SaysTo rules m text more last) said

-- this is said to the lines of the input, and then to those of the second text, if there is one; and the state after all these lines
abbrev pub SaysToAll : {S : Type 0} → Rules S → S → Texts → List ℕ → S → Type 0
SaysToAll rules s t said last = SaysBeside rules s t.input t.second said last

-- all that is written: what is said to all lines, and then the last words; and whether the script is content with all it heard
abbrev pub IsOutput : {S : Type 0} → Rules S → S → Texts → List ℕ → Bool → Type 0
IsOutput {S} rules s t output is_content = (said : List ℕ) × (last : S) × (words : List ℕ)
    × SaysToAll rules s t said last × rules.Closes last words is_content × (output ≡ said ++ words)

-- ---- what is said to some first lines

-- the first lines of a text
abbrev pub AreFirstLines : List (List ℕ) → List ℕ → Type 0
AreFirstLines first text = (others : List (List ℕ)) × (lines_of text ≡ first ++ others)

-- what is said to some first lines of a text
abbrev pub AreAnswersToFirst : {S : Type 0} → Rules S → S → List ℕ → List ℕ → Type 0
AreAnswersToFirst {S} rules s text said = (lines : List (List ℕ)) × AreFirstLines lines text × (t : S) × Says rules s 0 lines said t

-- what is said to all lines of the input, and then something that is so of the second text
abbrev pub AreAnswersBehind : {S : Type 0} → Rules S → S → List ℕ → Option (List ℕ) → (S → List ℕ → List ℕ → Type 0) → List ℕ → Type 0
AreAnswersBehind rules s input None IsMore said = ⊥
AreAnswersBehind rules s input (Some text) IsMore said = SaysBehind rules s input text IsMore said

-- what is said to some first lines of the input, or to all of it and some first lines of the second text
abbrev pub AreFirstAnswers : {S : Type 0} → Rules S → S → Texts → List ℕ → Type 0
AreFirstAnswers rules s t said = AreAnswersToFirst rules s t.input said
    ⊎ AreAnswersBehind rules s t.input t.second (AreAnswersToFirst rules) said

-- what is said to some first lines of both texts, or all of the output
abbrev pub IsOutputSoFar : {S : Type 0} → Rules S → S → Texts → List ℕ → Type 0
IsOutputSoFar rules s t output = AreFirstAnswers rules s t output ⊎ ((is_content : Bool) × IsOutput rules s t output is_content)

-- ---- what is said to the lines that left a reader

-- among these lines of a text are all that an LF ended in what left the reader, which has this left of it
abbrev pub HaveAllEnded : List ℕ → Option (List ℕ) → List (List ℕ) → Type 0
HaveAllEnded text left lines = (gone : List ℕ) × Consumes (Some text) left gone × (others : List (List ℕ)) × (lines ≡ ended_lines gone ++ others)

-- some first lines of a text were heard, from state s to s': all that left the reader whole, which has this left; and this was said
pub record HearsRead {S : Type 0} (rules : Rules S) (s s' : S) (text : List ℕ) (left : Option (List ℕ)) (said : List ℕ) : Type 0 where
  pub lines : List (List ℕ)
  pub are_first : AreFirstLines lines text
  pub have_ended : HaveAllEnded text left lines
  pub answers : Says rules s 0 lines said s'

-- the same of both texts: of the input, before anything of the second text was read, or of the second text behind all of the input
abbrev pub HearsAllRead : {S : Type 0} → Rules S → S → S → Texts → Option (List ℕ) → Option (List ℕ) → List ℕ → Type 0
HearsAllRead rules s s' t left second_left said = (HearsRead rules s s' t.input left said × (second_left ≡ t.second))
    ⊎ AreAnswersBehind rules s t.input t.second (λ m text more. HearsRead rules m s' text second_left more) said

-- ---- what isn't read

-- behind all lines of the input the script may hear the lines of a second text
abbrev pub MayHearSecond : {S : Type 0} → Rules S → S → List ℕ → Type 0
MayHearSecond {S} rules s input = (said : List ℕ) × (behind : S) × (found : S)
    × SaysTo rules s input said behind × rules.BeginsSecond behind found × (rules.is_over found ≡ false)

-- a reader is called only where lines of its text may be heard
pub record LeavesUnread {S R M : Type 0} (rules : Rules S) (s : S) (input : Option (List ℕ)) (reader reader' : R) (second second' : M) : Type 0 where
  pub first : IsTrue (rules.is_over s) → reader' ≡ reader
  pub behind : IfSome input (λ text. (second' ≡ second) ⊎ MayHearSecond rules s text)
