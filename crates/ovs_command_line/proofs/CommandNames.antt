-- Which command words name: one of the program's four, where `clap` finds nothing else in them.
use Rattle.std.proofs.Common.{◌≡◌, ◌≢◌, ◌⊎◌, ◌&&◌, Bool, true, false, cond, not, sym, ap, ap₂, subst, refl, true≢false, List, [], ◌∷◌, Option, Some, None, option_map, is_some, codes, inl, inr}
use Rattle.std.specs.Prelude.{Box}
use Rattle.std.specs.Box.{box_value}
use Rattle.std.specs.List.{list_any}
use Rattle.clap.specs.Words.{Row, Text, fault_of, subcommand_of, subcommand_rows, subcommand_rows_of, subcommand_name_of}
use Rattle.clap.specs.Facts.{explicit_source}
use Rattle.clap.specs.Walk.{Held, Names, finished, nothing_held, settled, stop_after, walk, walk_from}
use Rattle.clap.specs.Simple.{Shape, argument_words, built, entered, names_of, rows_at}
use Rattle.clap.specs.Takes.{is_given}
use Rattle.clap.specs.Kinds.{Kinds, check_kinds, or_else}
use Rattle.clap.specs.Faults.{check_fault, defaults_fault, level_fault, settle_fault, walk_fault}
use Rattle.clap.specs.declared.error.kind.ErrorKind.TheVariants as kind
use Rattle.clap.specs.declared.parser.matches.ArgMatches.{ArgMatches}
use Rattle.clap.specs.declared.parser.matches.ArgMatches.TheViews.{out-ArgMatches, out-SubCommand}
use Rattle.clap.specs.declared.parser.matches.SubCommand.{SubCommand}
use Rattle.ovs_command_line.specs.CommandLine.{Found, IsNamed, name_in, merge_of, merge_in, program}

-- a name is that of one of four commands
abbrev IsOneOf : Shape → Shape → Shape → Shape → Option Text → Type 0
IsOneOf first second third fourth name = ((name ≡ Some first.name) ⊎ (name ≡ Some second.name)) ⊎ ((name ≡ Some third.name) ⊎ (name ≡ Some fourth.name))

-- where nothing is found, nothing is found in the second place
second_empty : (first second : Kinds) → or_else first second ≡ [] → second ≡ []
second_empty [] second nothing = nothing
second_empty (k ∷ ks) second nothing = absurd (let no : k ∷ ks ≡ [] = nothing in cc)

-- where the last checks find nothing and a command has to be named, one is
met_by_checks : (help met argument : Bool) → check_kinds help (not met && true) argument ≡ [] → met ≡ true
met_by_checks help true argument nothing = refl
met_by_checks true false argument nothing = absurd (let no : kind.DisplayHelpOnMissingArgumentOrSubcommand ∷ [] ≡ [] = nothing in cc)
met_by_checks false false argument nothing = absurd (let no : kind.MissingSubcommand ∷ [] ≡ [] = nothing in cc)

-- a level of the parse that finds nothing has met a command, where one has to be named
met_at : (s : Shape) (names : Names) (h : Held) (words : List Text) (met : Bool) (below : Kinds) → s.subcommand_required ≡ true
    → level_fault s names h words met below ≡ [] → met ≡ true
met_at s names h words met below required nothing =
    let end = (walk s.rules names h words).held in
    let settling = settle_fault s.rules s.args_override_self end in
    let defaults = defaults_fault (settled s.rules end).rows s.rules in
    let checks = check_fault s (finished s.rules end) met in
    met_by_checks _ met _ (subst (λ (r : Bool). check_kinds (not met && (s.arg_required_else_help && not (list_any (λ row. explicit_source row.source) (finished s.rules end))))
    (not met && r) (not (s.subcommand_negates_reqs && met) && list_any (λ a. a.required && not (is_given a.id (finished s.rules end))) s.rules) ≡ []) required
    (second_empty defaults checks (second_empty settling (or_else defaults checks) (second_empty below (or_else settling (or_else defaults checks))
    (second_empty (walk_fault s names (walk_from h) words) (or_else below (or_else settling (or_else defaults checks))) nothing)))))

abbrev stop_at : List Text → Option (Text × List Text)
stop_at words = stop_after (built program).top.rules (names_of (built program)) (argument_words program words)

met : (words : List Text) → fault_of program words ≡ [] → is_some (entered (built program) (stop_at words)) ≡ true
met words nothing = met_at (built program).top (names_of (built program)) nothing_held (argument_words program words) _ _ refl nothing

-- what is entered has the name of one of four commands
entered_one : (in_first in_second in_third in_fourth : Bool) (first second third fourth : Shape) (words : List Text)
    → is_some (option_map (λ (u : Shape). rows_at u words)
    (cond in_first (Some first) (cond in_second (Some second) (cond in_third (Some third) (cond in_fourth (Some fourth) None))))) ≡ true
    → IsOneOf first second third fourth (name_in (option_map (λ (u : Shape). rows_at u words)
    (cond in_first (Some first) (cond in_second (Some second) (cond in_third (Some third) (cond in_fourth (Some fourth) None))))))
entered_one true b c d first second third fourth words met = inl (inl refl)
entered_one false true c d first second third fourth words met = inl (inr refl)
entered_one false false true d first second third fourth words met = inr (inl refl)
entered_one false false false true first second third fourth words met = inr (inr refl)
entered_one false false false false first second third fourth words met = absurd (true≢false (sym met))

named_by : (stop : Option (Text × List Text)) → is_some (entered (built program) stop) ≡ true → IsNamed (entered (built program) stop)
named_by None met = absurd (true≢false (sym met))
named_by (Some p) met = entered_one _ _ _ _ _ _ _ _ p.1 met

-- words in which nothing is found name a command
pub are_named : (words : List Text) → fault_of program words ≡ [] → IsNamed (subcommand_of program words)
are_named words nothing = named_by (stop_at words) (met words nothing)

-- ---- what a parse gives

name_of_box : {Z : Type 0} (o : Option (Box SubCommand Z))
    → option_map (λ b. (out-SubCommand (box_value b)).name.now) o ≡ option_map (λ (p : Text × List Row). p.0) (subcommand_rows o)
name_of_box None = refl
name_of_box (Some b) = refl

-- the name of the command that was entered is that of what was found of it
pub name_met : (m : ArgMatches) → subcommand_name_of m ≡ name_in (subcommand_rows_of m)
name_met m = name_of_box (out-ArgMatches m).subcommand

-- a command's name with what is found of it
pub with_rows : (found : Found) (name : Text) (rows : List Row) → name_in found ≡ Some name → option_map (λ (p : Text × List Row). p.1) found ≡ Some rows
    → found ≡ Some (name, rows)
with_rows None name rows named is = absurd (let no : None ≡ Some rows = is in cc)
with_rows (Some (n, r)) name rows named is =
    let same_name : n ≡ name = (let some : Some n ≡ Some name = named in cc) in
    let same_rows : r ≡ rows = (let some : Some r ≡ Some rows = is in cc) in
    ap₂ (λ (x : Text) (y : List Row). Some (x, y)) same_name same_rows

-- what is found of `--merge`
pub merge_met : (found : Found) (rows : List Row) → option_map (λ (p : Text × List Row). p.1) found ≡ Some rows → merge_of rows ≡ merge_in found
merge_met None rows is = absurd (let no : None ≡ Some rows = is in cc)
merge_met (Some p) rows is = let same : rows ≡ p.1 = (let some : Some p.1 ≡ Some rows = is in cc) in ap merge_of same

-- what is named and is none of the others is `world`
pub world_left : (found : Found) → IsNamed found → name_in found ≢ Some (codes "fold") → name_in found ≢ Some (codes "source")
    → name_in found ≢ Some (codes "relay") → name_in found ≡ Some (codes "world")
world_left found (inl (inl fold)) no_fold no_source no_relay = absurd (no_fold fold)
world_left found (inl (inr world)) no_fold no_source no_relay = world
world_left found (inr (inl source)) no_fold no_source no_relay = absurd (no_source source)
world_left found (inr (inr relay)) no_fold no_source no_relay = absurd (no_relay relay)
