-- A script on its way through the lines of a text.
use Rattle.std.proofs.Common.{◌≡◌, ℕ, ◌+◌, Option, Some, None, List, [], ◌∷◌, ◌++◌, length, ap, sym, ◌∙◌, refl, append_assoc, append-nil, subst, true, false, IfSome, arith, ◌⊎◌, inl, inr, IsTrue}
use Rattle.std.proofs.lemmas.Grind.{common_steps}
use Rattle.std.specs.Io.KnownBytes.{Appends, prepend_known}
use Rattle.std.proofs.KnownBytes.{Appends-nil, Appends-trans}
use Rattle.ovs_script.specs.Sending.{AppendsAllBut, AppendsBeginning}
use Rattle.ovs_script.specs.declared.script_error.ScriptError.{ScriptError}
use Rattle.ovs_script.specs.declared.script_error.ScriptError.TheVariants.{ReadFault, WriteFault, TurnsSpent, NoMemory}
use Rattle.ovs_script.specs.Lines.{lines_of, ended_lines, kept, IsUnbroken, IsCutAfter, TakesLine, TakesPart}
use Rattle.ovs_script.specs.Rules.{Rules, SaysNothing, Says, SaysTo}
use Rattle.ovs_script.specs.Texts.{AreAnswersToFirst, HaveAllEnded, HearsRead}
use Rattle.ovs_script.specs.Said.{TellsSaid}
use Rattle.ovs_script.proofs.Sent.{beginning_sent}
use Rattle.ovs_script.proofs.Breaks.{AreUnbroken, AreUnbroken-append, text_of, text_of-append, ended_lines-text_of, ended_first}

-- ---- the lines of two parts

never_both : {S : Type 0} (rules : Rules S) (s : S) → rules.is_over s ≡ true → rules.is_over s ≡ false → ⊥
never_both rules s over on = let both : true ≡ false = sym over ∙ on in cc

-- a script that is over says nothing
pub over_says : {S : Type 0} (rules : Rules S) (s : S) (n : ℕ) (lines : List (List ℕ)) → rules.is_over s ≡ true → Says rules s n lines [] s
over_says rules s n [] over = (refl, refl)
over_says rules s n (line ∷ lines) over = inl (over, (refl, refl))

pub over_said : {S : Type 0} (rules : Rules S) (s : S) (n : ℕ) (lines : List (List ℕ)) (said : List ℕ) (t : S) → rules.is_over s ≡ true
    → Says rules s n lines said t → SaysNothing s said t
over_said rules s n [] said t over says = says
over_said rules s n (line ∷ lines) said t over (inl (is, nothing)) = nothing
over_said rules s n (line ∷ lines) said t over (inr (on, answer, next, more, answers, says, is)) = absurd (never_both rules s over on)

next_number : (n : ℕ) (line : List ℕ) (lines : List (List ℕ)) → (n + 1) + length lines ≡ n + length (line ∷ lines)
next_number n line lines = omega arith

pub Says-append : {S : Type 0} (rules : Rules S) (s : S) (n : ℕ) (lines later : List (List ℕ)) (said more : List ℕ) (t u : S)
    → Says rules s n lines said t → Says rules t (n + length lines) later more u → Says rules s n (lines ++ later) (said ++ more) u
Says-append {S} rules s n [] later said more t u (none, same) further =
    let k : n + 0 ≡ n = omega arith in
    let here : Says rules t n later more u = subst (λ m. Says rules t m later more u) k further in
    subst (λ (l : List ℕ). Says rules s n later (l ++ more) u) (sym none) (subst (λ (z : S). Says rules z n later more u) same here)
Says-append {S} rules s n (line ∷ lines) later said more t u (inl (over, (none, same))) further =
    let still = ap rules.is_over same ∙ over in
    let nothing = over_said rules t (n + length (line ∷ lines)) later more u still further in
    inl (over, (ap (λ l. l ++ more) none ∙ nothing.0, nothing.1 ∙ same))
Says-append rules s n (line ∷ lines) later said more t u (inr (on, answer, next, rest, answers, says, is)) further =
    let k = sym (next_number n line lines) in
    inr (
      on,
      answer,
      next,
      rest ++ more,
      answers,
      Says-append rules next (n + 1) lines later rest more t u says (subst (λ m. Says rules t m later more u) k further),
      ap (λ l. l ++ more) is ∙ append_assoc answer rest more,
    )

one_says : {S : Type 0} (rules : Rules S) (s : S) (n : ℕ) (line said : List ℕ) (t : S) → rules.is_over s ≡ false → rules.Answers s n (kept line) said t
    → Says rules s n (line ∷ []) said t
one_says rules s n line said t on answers = inr (on, said, t, [], answers, (refl, refl), sym (append-nil said))

-- a script that is over from the beginning never goes on
pub still_on : {S : Type 0} (rules : Rules S) (first s : S) → IsTrue (rules.is_over first) → s ≡ first → rules.is_over s ≡ false → ⊥
still_on rules first s over same on = let both : false ≡ true = sym on ∙ ap rules.is_over same ∙ over in (let w : false ≡ true = both in cc)

-- ---- the way

-- the lines that were heard, each with its LF, and the rest make the text, or all its lines were heard
abbrev pub IsCutBehind : List (List ℕ) → List ℕ → List ℕ → Type 0
IsCutBehind heard text rest = (AreUnbroken heard × (text ≡ text_of heard ++ rest)) ⊎ ((rest ≡ []) × (lines_of text ≡ heard))

-- The script began in `first`, heard some lines of the text, told this, and is in s; lines n and on are left.
pub record IsOnWay {S : Type 0} (rules : Rules S) (first : S) (text : List ℕ) (told : List ℕ) (s : S) (n : ℕ) (rest : List ℕ) : Type 0 where
  pub heard : List (List ℕ)
  pub lines : lines_of text ≡ heard ++ lines_of rest
  pub says : Says rules first 0 heard told s
  pub number : n ≡ length heard
  pub cut : IsCutBehind heard text rest

-- the same where the text may be unknown
abbrev pub MayBeOnWay : {S : Type 0} → Rules S → S → Option (List ℕ) → List ℕ → S → ℕ → Option (List ℕ) → Type 0
MayBeOnWay rules first None told s n left = Unit {0}
MayBeOnWay rules first (Some text) told s n None = ⊥
MayBeOnWay rules first (Some text) told s n (Some rest) = IsOnWay rules first text told s n rest

-- how far a run has come with the lines of a text: what it told so far stands behind what waited before, written or waiting
pub record Progress {S : Type 0} (rules : Rules S) (first : S) (start before now : Option (List ℕ)) (waited waiting : List ℕ) (s : S) (n : ℕ) (left : Option (List ℕ)) : Type 0 where
  pub told : List ℕ
  pub sent : AppendsAllBut before now (waited ++ told) waiting
  pub way : MayBeOnWay rules first start told s n left

-- ---- the beginning

way_out : {S : Type 0} (rules : Rules S) (s : S) (start : Option (List ℕ)) (window : List ℕ) → window ≡ []
    → MayBeOnWay rules s start [] s 0 (prepend_known window start)
way_out rules s None window empty = tt
way_out rules s (Some text) window empty =
    subst (λ (w : List ℕ). IsOnWay rules s text [] s 0 (w ++ text)) (sym empty)
    (record { heard = []; lines = refl; says = (refl, refl); number = refl; cut = inl (tt, refl) })

pub setting_out : {S : Type 0} (rules : Rules S) (s : S) (start before : Option (List ℕ)) (waited window : List ℕ) → window ≡ []
    → Progress rules s start before before waited waited s 0 (prepend_known window start)
setting_out rules s start before waited window empty =
    record { told = []; sent = ([], Appends-nil before, append-nil waited); way = way_out rules s start window empty }

-- ---- a line is answered

-- what is said to lines behind those that were heard is said behind the answers to these
later_says : {S : Type 0} (rules : Rules S) (first : S) (told : List ℕ) (s : S) (n : ℕ) (heard later : List (List ℕ)) (more : List ℕ) (t : S)
    → Says rules first 0 heard told s → n ≡ length heard → Says rules s n later more t → Says rules first 0 (heard ++ later) (told ++ more) t
later_says rules first told s n heard later more t says number further =
    let k : n ≡ 0 + length heard = omega (arith, number) in
    Says-append rules first 0 heard later told more s t says (subst (λ m. Says rules s m later more t) k further)

length_more : (heard : List (List ℕ)) (line : List ℕ) → length heard + 1 ≡ length (heard ++ line ∷ [])
length_more heard line = grind (arith, common_steps)

-- a line more was heard
cut_on : (heard : List (List ℕ)) (text all rest whole : List ℕ) → lines_of text ≡ heard ++ lines_of all → lines_of all ≡ whole ∷ lines_of rest
    → IsUnbroken whole → IsCutAfter whole all rest → IsCutBehind heard text all → IsCutBehind (heard ++ whole ∷ []) text rest
cut_on heard text all rest whole lines took unbroken (inl cut) (inl (each, is)) = inl (
  AreUnbroken-append heard (whole ∷ []) each (unbroken, tt),
  is ∙ ap (λ l. text_of heard ++ l) cut ∙ ap (λ l. text_of heard ++ l) (sym (append_assoc whole (10 ∷ []) rest))
      ∙ sym (append_assoc (text_of heard) (text_of (whole ∷ [])) rest) ∙ ap (λ l. l ++ rest) (sym (text_of-append heard (whole ∷ []))),
)
cut_on heard text all rest whole lines took unbroken (inr (same, gone)) cut =
    inr (gone, lines ∙ ap (λ ls. heard ++ ls) (took ∙ ap (λ l. whole ∷ lines_of l) gone))
cut_on heard text all rest whole lines took unbroken (inl cut) (inr (gone, is)) =
    absurd (let none : [] ≡ whole ∷ lines_of rest = sym (ap lines_of gone) ∙ took in cc)

line_on_way : {S : Type 0} (rules : Rules S) (first : S) (text told : List ℕ) (s : S) (n : ℕ) (all rest : List ℕ) (line : Option (List ℕ)) (bytes : List ℕ) (s' : S)
    → IsOnWay rules first text told s n all → TakesLine (Some all) (Some rest) (Some line) → rules.is_over s ≡ false → rules.Answers s n line bytes s'
    → IsOnWay rules first text (told ++ bytes) s' (n + 1) rest
line_on_way rules first text told s n all rest line bytes s' way took on answers =
    let whole = took.0 in
    let same : line ≡ kept whole = took.2 in
    record {
      heard = way.heard ++ whole ∷ [];
      lines = way.lines ∙ ap (λ l. way.heard ++ l) took.1 ∙ sym (append_assoc way.heard (whole ∷ []) (lines_of rest));
      says = later_says rules first told s n way.heard (whole ∷ []) bytes s' way.says way.number
          (one_says rules s n whole bytes s' on (subst (λ (k : Option (List ℕ)). rules.Answers s n k bytes s') same answers));
      number = ap (λ m. m + 1) way.number ∙ length_more way.heard whole;
      cut = cut_on way.heard text all rest whole way.lines took.1 took.3 took.4 way.cut;
    }

line_may_be : {S : Type 0} (rules : Rules S) (first : S) (start : Option (List ℕ)) (told : List ℕ) (s : S) (n : ℕ) (left new line : Option (List ℕ)) (bytes : List ℕ) (s' : S)
    → MayBeOnWay rules first start told s n left → TakesLine left new (Some line) → rules.is_over s ≡ false → rules.Answers s n line bytes s'
    → MayBeOnWay rules first start (told ++ bytes) s' (n + 1) new
line_may_be rules first None told s n left new line bytes s' way took on answers = tt
line_may_be rules first (Some text) told s n None new line bytes s' way took on answers = absurd way
line_may_be rules first (Some text) told s n (Some all) None line bytes s' way took on answers = absurd took
line_may_be rules first (Some text) told s n (Some all) (Some rest) line bytes s' way took on answers =
    line_on_way rules first text told s n all rest line bytes s' way took on answers

pub answered : {S : Type 0} (rules : Rules S) (first : S) (start before now : Option (List ℕ)) (waited waiting : List ℕ) (s : S) (n : ℕ) (left new : Option (List ℕ))
    (line passed : Option (List ℕ)) (s' : S) (text bytes grown : List ℕ) → Progress rules first start before now waited waiting s n left
    → TakesLine left new (Some line) → rules.is_over s ≡ false → passed ≡ line → rules.Answers s n passed text s' → bytes ≡ text
    → grown ≡ waiting ++ bytes → Progress rules first start before now waited grown s' (n + 1) new
answered rules first start before now waited waiting s n left new line passed s' text bytes grown so_far took on same answers is grew =
    let to_line = subst (λ (k : Option (List ℕ)). rules.Answers s n k text s') same answers in
    let said = subst (λ (l : List ℕ). rules.Answers s n line l s') (sym is) to_line in
    record {
      told = so_far.told ++ bytes;
      sent = (
        so_far.sent.0,
        so_far.sent.1,
        sym (append_assoc waited so_far.told bytes) ∙ ap (λ l. l ++ bytes) so_far.sent.2 ∙ append_assoc so_far.sent.0 waiting bytes
            ∙ ap (λ l. so_far.sent.0 ++ l) (sym grew),
      );
      way = line_may_be rules first start so_far.told s n left new line bytes s' so_far.way took on said;
    }

-- ---- what waits is sent

pub wrote : {S : Type 0} (rules : Rules S) (first : S) (start before now new : Option (List ℕ)) (waited waiting none : List ℕ) (s : S) (n : ℕ) (left : Option (List ℕ))
    → Progress rules first start before now waited waiting s n left → Appends now new waiting → none ≡ []
    → Progress rules first start before new waited none s n left
wrote rules first start before now new waited waiting none s n left so_far sent empty = record {
  told = so_far.told;
  sent = (
    so_far.sent.0 ++ waiting,
    Appends-trans before now new so_far.sent.0 waiting so_far.sent.1 sent,
    so_far.sent.2 ∙ sym (append-nil (so_far.sent.0 ++ waiting)) ∙ ap (λ l. (so_far.sent.0 ++ waiting) ++ l) (sym empty),
  );
  way = so_far.way;
}

-- ---- the end

-- all lines are answered, and what was said is written but for what waits now
abbrev pub Answered : {S : Type 0} → Rules S → S → Option (List ℕ) → Option (List ℕ) → Option (List ℕ) → List ℕ → List ℕ → S → Type 0
Answered rules first start before now waited waiting s =
    IfSome start (λ text. (said : List ℕ) × SaysTo rules first text said s × AppendsAllBut before now (waited ++ said) waiting)

-- nothing is said to the lines that are left
silent_by : {S : Type 0} (rules : Rules S) (first : S) (text told : List ℕ) (s : S) (n : ℕ) (rest : List ℕ) → IsOnWay rules first text told s n rest
    → Says rules s n (lines_of rest) [] s → SaysTo rules first text told s
silent_by rules first text told s n rest way silent =
    let all = later_says rules first told s n way.heard (lines_of rest) [] s way.says way.number silent in
    subst (λ (ls : List (List ℕ)). Says rules first 0 ls told s) (sym way.lines)
    (subst (λ (l : List ℕ). Says rules first 0 (way.heard ++ lines_of rest) l s) (append-nil told) all)

over_way : {S : Type 0} (rules : Rules S) (first : S) (start before now : Option (List ℕ)) (waited told waiting : List ℕ) (s : S) (n : ℕ) (left : Option (List ℕ))
    → MayBeOnWay rules first start told s n left → AppendsAllBut before now (waited ++ told) waiting → rules.is_over s ≡ true
    → Answered rules first start before now waited waiting s
over_way rules first None before now waited told waiting s n left way sent over = tt
over_way rules first (Some text) before now waited told waiting s n None way sent over = absurd way
over_way rules first (Some text) before now waited told waiting s n (Some rest) way sent over =
    (told, silent_by rules first text told s n rest way (over_says rules s n (lines_of rest) over), sent)

pub all_where_over : {S : Type 0} (rules : Rules S) (first : S) (start before now : Option (List ℕ)) (waited waiting : List ℕ) (s : S) (n : ℕ) (left : Option (List ℕ))
    → Progress rules first start before now waited waiting s n left → rules.is_over s ≡ true → Answered rules first start before now waited waiting s
all_where_over rules first start before now waited waiting s n left so_far over =
    over_way rules first start before now waited so_far.told waiting s n left so_far.way so_far.sent over

end_way : {S : Type 0} (rules : Rules S) (first : S) (start before now : Option (List ℕ)) (waited told waiting : List ℕ) (s : S) (n : ℕ) (left new : Option (List ℕ))
    → MayBeOnWay rules first start told s n left → AppendsAllBut before now (waited ++ told) waiting → TakesLine left new None
    → Answered rules first start before now waited waiting s
end_way rules first None before now waited told waiting s n left new way sent took = tt
end_way rules first (Some text) before now waited told waiting s n None new way sent took = absurd way
end_way rules first (Some text) before now waited told waiting s n (Some rest) None way sent took = absurd took
end_way rules first (Some text) before now waited told waiting s n (Some rest) (Some more) way sent took =
    let silent : Says rules s n (lines_of rest) [] s = subst (λ (l : List ℕ). Says rules s n (lines_of l) [] s) (sym took.0) (refl, refl) in
    (told, silent_by rules first text told s n rest way silent, sent)

-- ---- a fault

-- what is written and what waits is a beginning of the answers to some first lines
abbrev pub Begun : {S : Type 0} → Rules S → S → Option (List ℕ) → Option (List ℕ) → Option (List ℕ) → List ℕ → List ℕ → Type 0
Begun rules first start before now waited waiting =
    IfSome start (λ text. (said : List ℕ) × AreAnswersToFirst rules first text said × (others : List ℕ) × AppendsAllBut before now (waited ++ said) (waiting ++ others))

pub all_but_none : (before now : Option (List ℕ)) (text waiting : List ℕ) → AppendsAllBut before now text waiting → AppendsAllBut before now text (waiting ++ [])
all_but_none before now text waiting sent = subst (AppendsAllBut before now text) (sym (append-nil waiting)) sent

begun_way : {S : Type 0} (rules : Rules S) (first : S) (start before now : Option (List ℕ)) (waited told waiting : List ℕ) (s : S) (n : ℕ) (left : Option (List ℕ))
    → MayBeOnWay rules first start told s n left → AppendsAllBut before now (waited ++ told) waiting → Begun rules first start before now waited waiting
begun_way rules first None before now waited told waiting s n left way sent = tt
begun_way rules first (Some text) before now waited told waiting s n None way sent = absurd way
begun_way rules first (Some text) before now waited told waiting s n (Some rest) way sent =
    (told, (way.heard, (lines_of rest, way.lines), s, way.says), [], all_but_none before now (waited ++ told) waiting sent)

pub begun : {S : Type 0} (rules : Rules S) (first : S) (start before now : Option (List ℕ)) (waited waiting : List ℕ) (s : S) (n : ℕ) (left : Option (List ℕ))
    → Progress rules first start before now waited waiting s n left → Begun rules first start before now waited waiting
begun rules first start before now waited waiting s n left so_far =
    begun_way rules first start before now waited so_far.told waiting s n left so_far.way so_far.sent

-- the same waits
pub begun_kept : {S : Type 0} (rules : Rules S) (first : S) (start before now : Option (List ℕ)) (waited waiting same : List ℕ) → same ≡ waiting
    → Begun rules first start before now waited waiting → Begun rules first start before now waited same
begun_kept rules first start before now waited waiting same is so_far = subst (Begun rules first start before now waited) (sym is) so_far

-- a beginning of what waited was sent, and the rest is lost
lost_by : {S : Type 0} (rules : Rules S) (first : S) (start before now new : Option (List ℕ)) (waited waiting none : List ℕ)
    → Begun rules first start before now waited waiting → AppendsBeginning now new waiting → none ≡ [] → Begun rules first start before new waited none
lost_by rules first None before now new waited waiting none so_far sent empty = tt
lost_by rules first (Some text) before now new waited waiting none (said, are_first, others, old) sent empty =
    let part = beginning_sent before now new (waited ++ said) waiting others old sent in
    (said, are_first, part.0, subst (λ (l : List ℕ). AppendsAllBut before new (waited ++ said) (l ++ part.0)) (sym empty) part.1)

pub begun_lost : {S : Type 0} (rules : Rules S) (first : S) (start before now new : Option (List ℕ)) (waited waiting none : List ℕ) (s : S) (n : ℕ) (left : Option (List ℕ))
    → Progress rules first start before now waited waiting s n left → AppendsBeginning now new waiting → none ≡ []
    → Begun rules first start before new waited none
begun_lost rules first start before now new waited waiting none s n left so_far sent empty =
    lost_by rules first start before now new waited waiting none (begun rules first start before now waited waiting s n left so_far) sent empty

-- ---- what was said where a run breaks off

-- at a read fault in the middle of a line
ended_heard : (text : List ℕ) (heard : List (List ℕ)) (rest : List ℕ) (left : Option (List ℕ)) → IsCutBehind heard text rest → TakesPart (Some rest) left
    → HaveAllEnded text left heard
ended_heard text heard rest None cut took = absurd took.2
ended_heard text heard rest (Some later) (inl (each, is)) (part, unbroken, taken) = (
  text_of heard ++ part,
  is ∙ ap (λ l. text_of heard ++ l) taken ∙ sym (append_assoc (text_of heard) part later),
  [],
  sym (ended_lines-text_of heard part each unbroken) ∙ sym (append-nil (ended_lines (text_of heard ++ part))),
)
ended_heard text heard rest (Some later) (inr (gone, is)) (part, unbroken, taken) =
    let none : part ++ later ≡ [] = sym taken ∙ gone in
    let all = ended_first text in
    (text, sym (append-nil text) ∙ ap (λ l. text ++ l) (sym (none_behind part later none)), all.0, sym is ∙ all.1)
  where
    none_behind : (a b : List ℕ) → a ++ b ≡ [] → b ≡ []
    none_behind [] b e = e
    none_behind (x ∷ a) b e = absurd (let w : x ∷ (a ++ b) ≡ [] = e in cc)

read_way : {S : Type 0} (rules : Rules S) (first : S) (start before now : Option (List ℕ)) (waited told waiting : List ℕ) (s : S) (n : ℕ) (left new : Option (List ℕ))
    → MayBeOnWay rules first start told s n left → TakesPart left new → AppendsAllBut before now (waited ++ told) waiting
    → IfSome start (λ text. (said : List ℕ) × HearsRead rules first s text new said × AppendsAllBut before now (waited ++ said) waiting)
read_way rules first None before now waited told waiting s n left new way took sent = tt
read_way rules first (Some text) before now waited told waiting s n None new way took sent = absurd way
read_way rules first (Some text) before now waited told waiting s n (Some rest) new way took sent = (
  told,
  record {
    lines = way.heard;
    are_first = (lines_of rest, way.lines);
    have_ended = ended_heard text way.heard rest new way.cut took;
    answers = way.says;
  },
  sent,
)

memory_way : {S : Type 0} (rules : Rules S) (first : S) (start before now : Option (List ℕ)) (waited told waiting : List ℕ) (s : S) (n : ℕ) (left : Option (List ℕ))
    → MayBeOnWay rules first start told s n left → AppendsAllBut before now (waited ++ told) waiting
    → IfSome start (λ text. (said : List ℕ) × AreAnswersToFirst rules first text said × AppendsAllBut before now (waited ++ said) waiting)
memory_way rules first None before now waited told waiting s n left way sent = tt
memory_way rules first (Some text) before now waited told waiting s n None way sent = absurd way
memory_way rules first (Some text) before now waited told waiting s n (Some rest) way sent =
    (told, (way.heard, (lines_of rest, way.lines), s, way.says), sent)

nothing_told : (start : Option (List ℕ)) → IfSome start (λ text. Unit {0})
nothing_told None = tt
nothing_told (Some text) = tt

-- by any fault of reading a line
pub stopped : {S : Type 0} (rules : Rules S) (first : S) (start before now : Option (List ℕ)) (waited waiting : List ℕ) (s : S) (n : ℕ) (left new : Option (List ℕ)) (fault : ScriptError)
    → Progress rules first start before now waited waiting s n left → (fault ≡ ReadFault → TakesPart left new)
    → IfSome start (λ text. TellsSaid fault (HearsRead rules first s text new) (AreAnswersToFirst rules first text) before now waited waiting)
stopped rules first start before now waited waiting s n left new ReadFault so_far took =
    read_way rules first start before now waited so_far.told waiting s n left new so_far.way (took refl) so_far.sent
stopped rules first start before now waited waiting s n left new NoMemory so_far took =
    memory_way rules first start before now waited so_far.told waiting s n left so_far.way so_far.sent
stopped rules first start before now waited waiting s n left new WriteFault so_far took = nothing_told start
stopped rules first start before now waited waiting s n left new TurnsSpent so_far took = nothing_told start
