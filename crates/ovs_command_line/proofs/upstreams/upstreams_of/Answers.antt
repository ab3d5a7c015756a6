use Rattle.std.proofs.Common.{◌≡◌, ◌∙◌, ◌<◌, ◌≤◌, ap, sym, subst, refl, arith, length, codes, List, [], Some, Bool}
use Rattle.std.specs.Prelude.{slice_get, option_map}
use Rattle.std.proofs.lemmas.Bool.{ltb-true, ltb-false, eqb-true, eqb-false}
use Rattle.std.proofs.lemmas.List.{length-map}
use Rattle.std.proofs.lemmas.Option.{slice_get_read, slice_get-map}
use Rattle.std.proofs.lemmas.Result.{IfOk-weaker, IfErr-weaker}
use Rattle.std.specs.List.{AllZip}
use Rattle.clap.proofs.WalkLemmas.{raw_values-rows}
use Rattle.clap.specs.Words.{Text, found_of, rows_of}
use Rattle.ovs_command_line.specs.declared.command_option.CommandOption.TheVariants.{Upstream}
use Rattle.ovs_command_line.specs.Options.{words_of}
use Rattle.ovs_command_line.specs.Values.{SpellsAddresses}
use Rattle.ovs_command_line.specs.Faults.{IsFaultInside}
use Rattle.ovs_command_line.proofs.Addresses.{address_fault, all_addresses, fifth_fault, no_words, none_left, one_at_least, texts_of, words_met}
use Rattle.ovs_command_line.proofs.upstreams.upstreams_of.Goals as goal

pub returns-then-is_empty-clause-fault : goal.returns-then-is_empty-clause-fault
returns-then-is_empty-clause-fault c =
    let found = found_of c.args.found.now in
    let met = words_met (rows_of found) c.get_strs.result _ c.unwrap_or-words.result c.unwrap_or-words.ensures refl
    (c.get_strs.ensures ∙ raw_values-rows found (codes "upstream")) in
    let words = c.unwrap_or-words.result.now in
    let none : words ≡ [] = none_left words (eqb-true (length words) 0 (sym c.is_empty.ensures ∙ c.if-is_empty.true)) in
    (refl, refl, no_words (rows_of found) (sym met ∙ ap texts_of none))

pub returns-in-Some-clause-fault : goal.returns-in-Some-clause-fault
returns-in-Some-clause-fault c =
    let found = found_of c.args.found.now in
    let words = c.unwrap_or-words.result.now in
    let met = words_met (rows_of found) c.get_strs.result _ c.unwrap_or-words.result c.unwrap_or-words.ensures refl
    (c.get_strs.ensures ∙ raw_values-rows found (codes "upstream")) in
    let within : 4 < length words = ltb-true 4 (length words) (sym c.in-Some.ensures.lookup.0) in
    let here : slice_get words 4 ≡ Some c.in-Some.word.now = slice_get_read words (length words) 4 c.in-Some.word.now refl within c.in-Some.ensures.lookup.1 in
    let at = slice_get-map (λ w. w.now) words 4 ∙ ap (option_map (λ w. w.now)) here in
    fifth_fault (rows_of found) c.in-Some.word.now.now (ap (λ (ts : List Text). slice_get ts 4) (sym met) ∙ at) c.one_too_many.result c.one_too_many.ensures.value

pub returns-clause-value : goal.returns-clause-value
returns-clause-value c =
    let found = found_of c.args.found.now in
    let words = c.unwrap_or-words.result.now in
    let met = words_met (rows_of found) c.get_strs.result _ c.unwrap_or-words.result c.unwrap_or-words.ensures refl
    (c.get_strs.ensures ∙ raw_values-rows found (codes "upstream")) in
    let long : length (words_of Upstream (rows_of found)) ≡ length words = ap length (sym met) ∙ length-map words (λ w. w.now) in
    let least : 1 ≤ length words = one_at_least (length words) (eqb-false (length words) 0 (sym c.is_empty.ensures ∙ c.if-is_empty.false)) in
    let most : length words ≤ 4 = ltb-false 4 (length words) (sym c.in_default.ensures.lookup.0) in
    IfOk-weaker c.each_upstream_of.result _ _ (λ upstreams each. all_addresses (rows_of found) upstreams.items (omega (arith, long, least)) (omega (arith, long, most))
    (subst (λ (beyond : Bool). AllZip (λ word addresses. SpellsAddresses beyond word addresses.items) (words_of Upstream (rows_of found)) upstreams.items) c.goes_beyond.ensures.value
    (subst (λ (ts : List Text). AllZip (λ word addresses. SpellsAddresses c.goes_beyond.result word addresses.items) ts upstreams.items) met each))) c.each_upstream_of.ensures.value

pub returns-clause-fault : goal.returns-clause-fault
returns-clause-fault c =
    let found = found_of c.args.found.now in
    let met = words_met (rows_of found) c.get_strs.result _ c.unwrap_or-words.result c.unwrap_or-words.ensures refl
    (c.get_strs.ensures ∙ raw_values-rows found (codes "upstream")) in
    IfErr-weaker c.each_upstream_of.result _ _ (λ fault made. address_fault (rows_of found) fault
    (subst (λ (beyond : Bool). IsFaultInside beyond (words_of Upstream (rows_of found)) fault) c.goes_beyond.ensures.value
    (subst (λ (ts : List Text). IsFaultInside c.goes_beyond.result ts fault) met made)))
    c.each_upstream_of.ensures.fault
