-- What clap finds in words in the place of a task: at most one kind, or the two of a stray word. So a call for help or the version comes alone.
use Rattle.std.proofs.Common.{◌≡◌, ◌∙◌, ◌&&◌, ◌==◌, ℕ, nat_lt, zero, suc, Bool, true, false, not, cond, sym, ap, refl, true≢false, List, [], ◌∷◌, Option, Some, None, codes, length, find, inl, inr, is_some}
use Rattle.std.specs.List.{list_all}
use Rattle.std.specs.Option.{option_map_or}
use Rattle.std.proofs.lemmas.Bool.{and_parts}
use Rattle.std.specs.Str.{bytes_eq}
use Rattle.clap.specs.Lexer.{long_of, short_of}
use Rattle.clap.specs.ValueTests.{accepts}
use Rattle.clap.specs.Facts.{parser_of_value, unwrap_or_range}
use Rattle.clap.specs.Values.{refused_kind}
use Rattle.clap.specs.Walk.{Held, Names, Row, Rule, Step, Text, Walk, action_of, answers_to, arg_by_id, arg_by_index, arg_by_long, arg_by_short, attached_value, most_values, nothing_held, reacted, subcommand_met, values_or_missing, walk, walked, with_default, word_met}
use Rattle.clap.specs.Walk.{next, trailing, subcommand, value}
use Rattle.clap.specs.Simple.{App, Shape, argument_words, built, entered, label_of, names_of}
use Rattle.clap.specs.Kinds.{IsAmong, Kinds, check_kinds, or_else, range_kinds, request_kinds, value_kinds, values_kinds}
use Rattle.clap.specs.Faults.{action_fault, built_fault, bundle_step_fault, count_fault, default_fault, defaults_fault, entered_fault, fault_of, flag_word_fault, flags_fault, level_fault, long_fault, option_fault, other_fault, react_fault, set_fault, settle_fault, short_fault, step_fault, stray_fault, turn_fault, use_fault, values_fault, walk_fault}
use Rattle.clap.specs.declared.builder.action.ArgAction.{ArgAction}
use Rattle.clap.specs.declared.builder.action.ArgAction.TheVariants as action
use Rattle.clap.specs.declared.builder.value_parser.ValueParser.{ValueParser}
use Rattle.clap.specs.declared.error.kind.ErrorKind.{ErrorKind}
use Rattle.clap.specs.declared.error.kind.ErrorKind.TheVariants.{DisplayHelp, DisplayVersion, InvalidSubcommand, UnknownArgument}
use Rattle.clap.specs.declared.error.kind.ErrorKind.TheVariants as kind
use Rattle.ovs_command_line.specs.CommandLine.{program}

-- at most one kind, or the two of a stray word
data Few : Kinds → Type 0 where
  none : Few []
  one : (k : ErrorKind) → Few (k ∷ [])
  stray : Few (UnknownArgument ∷ InvalidSubcommand ∷ [])

few_else : (a b : Kinds) → Few a → Few b → Few (or_else a b)
few_else [] b first second = second
few_else (k ∷ ks) b first second = first

few_if : (c : Bool) (a b : Kinds) → Few a → Few b → Few (cond c a b)
few_if true a b first second = first
few_if false a b first second = second

few_option : {X : Type 0} (f : X → Kinds) (o : Option X) (d : Kinds) → ((x : X) → Few (f x)) → Few d → Few (option_map_or f o d)
few_option f None d each without = without
few_option f (Some x) d each without = each x

-- ---- one use of an argument

value_few : (ignore_case : Bool) (parser : ValueParser) (text : Text) → Few (value_kinds ignore_case parser text)
value_few ignore_case parser text = few_if (accepts ignore_case parser text) [] (refused_kind parser ∷ []) none (one (refused_kind parser))

values_few : (ignore_case : Bool) (parser : ValueParser) (values : List Text) → Few (values_kinds ignore_case parser values)
values_few ignore_case parser [] = none
values_few ignore_case parser (v ∷ vs) = few_else (value_kinds ignore_case parser v) (values_kinds ignore_case parser vs)
    (value_few ignore_case parser v) (values_few ignore_case parser vs)

range_few : (least most n : ℕ) → Few (range_kinds least most n)
range_few least most n =
    few_if (nat_lt 0 least && n == 0) _ _ (one kind.InvalidValue)
    (few_if (least == most) _ _ (few_if (least == n) _ _ none (one kind.WrongNumberOfValues))
    (few_if (nat_lt n least) _ _ (one kind.TooFewValues) (few_if (nat_lt most n) _ _ (one kind.TooManyValues) none)))

request_few : (x : ArgAction) → Few (request_kinds x)
request_few action.Set = none
request_few action.Append = none
request_few action.SetTrue = none
request_few action.SetFalse = none
request_few action.Count = none
request_few action.Help = one _
request_few action.HelpShort = one _
request_few action.HelpLong = one _
request_few action.Version = one _

values_fault_few : (a : Rule) (values : List Text) → Few (values_fault a values)
values_fault_few a values = values_few a.ignore_case (parser_of_value a.parser) values

count_few : (a : Rule) (values : List Text) (rows : List Row) → Few (count_fault a values rows)
count_few a [] rows = value_few a.ignore_case (parser_of_value a.parser) _
count_few a (v ∷ vs) rows = values_fault_few a (v ∷ vs)

set_few : (again : Bool) (a : Rule) (values : List Text) (rows : List Row) → Few (set_fault again a values rows)
set_few again a values rows = few_else _ _ (few_if _ _ _ (one _) none) (values_fault_few a values)

action_few : (x : ArgAction) (again : Bool) (a : Rule) (values : List Text) (rows : List Row) → Few (action_fault x again a values rows)
action_few action.Set again a values rows = set_few again a values rows
action_few action.SetTrue again a values rows = set_few again a values rows
action_few action.SetFalse again a values rows = set_few again a values rows
action_few action.Append again a values rows = values_fault_few a values
action_few action.Count again a values rows = count_few a values rows
action_few action.Help again a values rows = one _
action_few action.HelpShort again a values rows = one _
action_few action.HelpLong again a values rows = one _
action_few action.Version again a values rows = one _

use_few : (again : Bool) (a : Rule) (values : List Text) (rows : List Row) → Few (use_fault again a values rows)
use_few again a values rows = few_else _ _ (range_few (unwrap_or_range a.range).start_inclusive (most_values a) (length values))
    (action_few (action_of a) again a (values_or_missing a values) rows)

-- ---- the walk

settle_few : (c : List Rule) (again : Bool) (h : Held) → Few (settle_fault c again h)
settle_few c again h = few_option _ h.pending _ (λ p. few_option _ (arg_by_id c p.0) _ (λ a. use_few again a p.1 h.rows) none) none

react_few : (c : List Rule) (again : Bool) (a : Rule) (values : List Text) (h : Held) → Few (react_fault c again a values h)
react_few c again a values h = few_else _ _ (settle_few c again h) (use_few again a values _)

option_few : (c : List Rule) (again : Bool) (a : Rule) (v : Option Text) (h : Held) → Few (option_fault c again a v h)
option_few c again a (Some v) h = react_few c again a (v ∷ []) h
option_few c again a None h = settle_few c again h

long_few : (c : List Rule) (again : Bool) (found : Option Rule) (v : Option Text) (h : Held) → Few (long_fault c again found v h)
long_few c again None v h = one _
long_few c again (Some a) v h = few_if _ _ _ (option_few c again a v h) (few_if _ _ _ (one _) (react_few c again a [] h))

short_few : (c : List Rule) (again : Bool) (found : Option Rule) (rest : Text) (h : Held) (after : Held → Kinds) → ((i : Held) → Few (after i))
    → Few (short_fault c again found rest h after)
short_few c again None rest h after each = one _
short_few c again (Some a) rest h after each =
    few_if _ _ _ (option_few c again a (attached_value rest) h) (few_else _ _ (react_few c again a [] h) (each (reacted c a [] h)))

bundle_step_few : (c : List Rule) (again : Bool) (o : Option ℕ) (flags : Text) (skip : ℕ) (h : Held) (after : Text → ℕ → Held → Kinds)
    → ((t : Text) (n : ℕ) (i : Held) → Few (after t n i)) → Few (bundle_step_fault c again o flags skip h after)
bundle_step_few c again None flags skip h after each = none
bundle_step_few c again (Some x) flags zero h after each = short_few c again (arg_by_short c x) _ h _ (each _ 0)
bundle_step_few c again (Some x) flags (suc skip) h after each = each _ skip h

flags_few : (c : List Rule) (again : Bool) (k : ℕ) (flags : Text) (skip : ℕ) (h : Held) → Few (flags_fault c again k flags skip h)
unfolding flags_fault
flags_few c again zero flags skip h = none
flags_few c again (suc k) flags skip h = bundle_step_few c again _ flags skip h (flags_fault c again k) (flags_few c again k)

flag_word_few : (c : List Rule) (again : Bool) (o : Option (Text × Option Text)) (word : Text) (h : Held) → Few (flag_word_fault c again o word h)
flag_word_few c again (Some p) word h = long_few c again (arg_by_long c p.0) p.1 h
flag_word_few c again None word h = few_option _ (short_of word) _ (λ flags. flags_few c again (length flags) flags h.skip (record h { skip = 0 })) none

-- help as a word of its own is off
no_help_word : (named disabled : Bool) → disabled ≡ true → Few (cond (named && not disabled) (DisplayHelp ∷ InvalidSubcommand ∷ []) [])
no_help_word true true off = none
no_help_word false true off = none
no_help_word named false off = absurd (true≢false (sym off))

other_few : (s : Shape) → s.disable_help_subcommand ≡ true → (o : Option Text) (word : Text) (h : Held) → Few (other_fault s o word h)
other_few s off (Some name) word h = no_help_word (bytes_eq name (codes "help")) s.disable_help_subcommand off
other_few s off None word h = few_if _ _ _ none (flag_word_few s.rules s.args_override_self (long_of word) word h)

stray_few : (s : Shape) → Few (stray_fault s)
stray_few s = few_if _ _ _ (one _) stray

step_few : (s : Shape) (position : ℕ) (h : Held) (x : Step) → Few (step_fault s position h x)
step_few s position h value =
    few_option _ (arg_by_index s.rules position) _ (λ a. few_if _ _ _ none (settle_few s.rules s.args_override_self h)) (stray_few s)
step_few s position h (next waiting) = none
step_few s position h (trailing p) = none
step_few s position h (subcommand name) = none

turn_few : (s : Shape) → s.disable_help_subcommand ≡ true → (names : Names) (w : Walk) (word : Text) → Few (turn_fault s names w word)
turn_few s off names w word = few_if _ _ _ none (few_else _ _
    (few_if _ _ _ none (other_few s off (subcommand_met names w.waiting word) word w.held)) (step_few s w.position (word_met s.rules names w.is_trailing w.waiting w.position word w.held).0
    (word_met s.rules names w.is_trailing w.waiting w.position word w.held).1))

walk_few : (s : Shape) → s.disable_help_subcommand ≡ true → (names : Names) (w : Walk) (words : List Text) → Few (walk_fault s names w words)
unfolding walk_fault
walk_few s off names w [] = none
walk_few s off names w (word ∷ rest) = few_else _ _ (turn_few s off names w word) (walk_few s off names (walked s.rules names w word) rest)

-- ---- after the walk

default_few : (rows : List Row) (a : Rule) → Few (default_fault rows a)
default_few rows a = few_if _ _ _ none (few_else _ _ (request_few (action_of a)) (values_fault_few a a.defaults))

defaults_few : (rows : List Row) (rules : List Rule) → Few (defaults_fault rows rules)
unfolding defaults_fault
defaults_few rows [] = none
defaults_few rows (a ∷ rest) = few_else _ _ (default_few rows a) (defaults_few (with_default rows a) rest)

check_few : (help command argument : Bool) → Few (check_kinds help command argument)
check_few help command argument = few_if help _ _ (one kind.DisplayHelpOnMissingArgumentOrSubcommand)
    (few_if command _ _ (one kind.MissingSubcommand) (few_if argument _ _ (one kind.MissingRequiredArgument) none))

level_few : (s : Shape) → s.disable_help_subcommand ≡ true → (names : Names) (h : Held) (words : List Text) (entered : Bool) (below : Kinds) → Few below
    → Few (level_fault s names h words entered below)
level_few s off names h words entered below few = few_else _ _ (walk_few s off names _ words) (few_else _ _ few
    (few_else _ _ (settle_few s.rules s.args_override_self (walk s.rules names h words).held) (few_else _ _ (defaults_few _ s.rules) (check_few _ _ _))))

-- below one of the program's commands
below_few : (test : Bool) (s : Shape) (others : Option Shape) (words : List Text) → s.disable_help_subcommand ≡ true
    → Few (option_map_or (λ (t : Shape). level_fault t [] nothing_held words false []) others [])
    → Few (option_map_or (λ (t : Shape). level_fault t [] nothing_held words false []) (cond test (Some s) others) [])
below_few true s others words off few = level_few s off [] nothing_held words false [] none
below_few false s others words off few = few

subs_few : (subs : List Shape) → list_all (λ s. s.disable_help_subcommand) subs ≡ true → (name : Text) (words : List Text)
    → Few (option_map_or (λ (t : Shape). level_fault t [] nothing_held words false []) (find (λ t. answers_to name (label_of t)) subs) [])
subs_few [] off name words = none
subs_few (s ∷ subs) off name words =
    let both = and_parts s.disable_help_subcommand _ off in
    below_few (answers_to name (label_of s)) s _ words both.0 (subs_few subs both.1 name words)

entered_few : (a : App) → list_all (λ s. s.disable_help_subcommand) a.subs ≡ true → (stop : Option (Text × List Text)) → Few (entered_fault a stop)
entered_few a off stop = few_option _ stop _ (λ p. subs_few a.subs off p.0 p.1) none

built_few : (a : App) → a.top.disable_help_subcommand ≡ true → list_all (λ s. s.disable_help_subcommand) a.subs ≡ true → (h : Held) (words : List Text)
    → Few (built_fault a h words)
built_few a off below_off h words =
    let stop = (walk a.top.rules (names_of a) h words).stopped in
    level_few a.top off (names_of a) h words (is_some (entered a stop)) (entered_fault a stop) (entered_few a below_off stop)

few_faults : (words : List Text) → Few (fault_of program words)
few_faults words = built_few (built program) refl refl nothing_held (argument_words program words)

-- ---- help and the version

-- a stray word isn't a call for a text
abbrev is_called : ErrorKind → Bool
is_called DisplayHelp = true
is_called DisplayVersion = true
is_called k = false

called_alone : (k : ErrorKind) (kinds : Kinds) → is_called k ≡ true → Few kinds → IsAmong k kinds → kinds ≡ k ∷ []
called_alone k [] called none among = absurd among
called_alone k (l ∷ []) called (one _) (inl is) = ap (λ x. x ∷ []) (sym is)
called_alone k (l ∷ []) called (one _) (inr among) = absurd among
called_alone k (l ∷ m ∷ []) called stray (inl is) = absurd (true≢false (sym called ∙ ap is_called is))
called_alone k (l ∷ m ∷ []) called stray (inr (inl is)) = absurd (true≢false (sym called ∙ ap is_called is))
called_alone k (l ∷ m ∷ []) called stray (inr (inr among)) = absurd among
called_alone k (l ∷ m ∷ n ∷ ks) called many among = elim many [ ]

-- where a call for a text is among what clap finds, it is all of it
pub call_is_all : (k : ErrorKind) (words : List Text) → is_called k ≡ true → IsAmong k (fault_of program words) → fault_of program words ≡ k ∷ []
call_is_all k words called among = called_alone k (fault_of program words) called (few_faults words) among

pub help_is_all : (words : List Text) → IsAmong DisplayHelp (fault_of program words) → fault_of program words ≡ DisplayHelp ∷ []
help_is_all words among = call_is_all DisplayHelp words refl among

pub version_is_all : (words : List Text) → IsAmong DisplayVersion (fault_of program words) → fault_of program words ≡ DisplayVersion ∷ []
version_is_all words among = call_is_all DisplayVersion words refl among
