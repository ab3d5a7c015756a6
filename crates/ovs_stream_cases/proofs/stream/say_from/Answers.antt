use Rattle.std.proofs.Common.{◌≡◌, ◌-◌, ◌++◌, ◌∷◌, ℕ, List, Some, map, take, drop, length, sym, subst}
use Rattle.std.proofs.lemmas.List.Elements.{All-drop}
use Rattle.std.specs.Prelude.{Option, OnOk, false}
use Rattle.std.specs.List.{All, AllByRecursion}
use Rattle.ovs_types.specs.Id.{id_text, read_id}
use Rattle.ovs_links.specs.Sets.{IsOfTables}
use Rattle.ovs_upstream.specs.Lawful.{LawfulAsked}
use Rattle.ovs_upstream.specs.Talk.{talk_of}
use Rattle.ovs_wire.specs.declared.message.Message.{Message}
use Rattle.ovs_stream_cases.specs.Said.{place_reply, update_notice, told_from, AreSaid, IsPlaceOf, IsTold}
use Rattle.ovs_stream_cases.proofs.LawfulSaid.{lawful_known, lawful_unknown, on_ok}
use Rattle.ovs_stream_cases.proofs.Places.{rest_of}
use Rattle.ovs_stream_cases.proofs.stream.say_from.Goals as goal

pub say_all-requires : goal.say_all-requires
say_all-requires c =
    let tables = c.args.schema.now.description.tables in
    let ls = c.args.links.now in
    record { tables = subst (All (IsOfTables tables)) (sym (rest_of ls c.in-Some.place)) (All-drop (IsOfTables tables) c.in-Some.place ls c.requires.tables) }

pub returns-in-Some-clause-lawful : goal.returns-in-Some-clause-lawful
returns-in-Some-clause-lawful c =
    let tables = c.args.schema.now.description.tables in
    let ls = c.args.links.now in
    let k = c.in-Some.place in
    let at : IsPlaceOf ls c.args.asked (Some k) = subst (IsPlaceOf ls c.args.asked) c.in-Some.is c.requires.place in
    subst (λ (p : Option ℕ). OnOk c.say_all.result (LawfulAsked tables ls c.args.asked (map talk_of (told_from c.args.schema.now ls c.args.asked p)))) (sym c.in-Some.is)
    (on_ok c.say_all.result (λ (told : (read_id (id_text c.args.asked) ≡ Some c.args.asked) × AllByRecursion (IsTold tables) (take (length ls - k) (drop k ls))).
    lawful_known c.args.schema.now ls c.args.asked k at told.0 (subst (AllByRecursion (IsTold tables)) (rest_of ls k) told.1)) c.say_all.ensures.told)

pub returns-in-None-clause-more : goal.returns-in-None-clause-more
returns-in-None-clause-more c =
    let tables = c.args.schema.now.description.tables in
    let ls = c.args.links.now in
    let new = c.say_all-in-None.new.bytes.items in
    subst (λ (p : Option ℕ). OnOk c.say_all-in-None.result ((said : List Message) → AreSaid said c.args.bytes.now.items → AreSaid (said ++ told_from c.args.schema.now ls c.args.asked p) new))
    (sym c.in-None.is)
    (subst (λ (id : ℕ). OnOk c.say_all-in-None.result ((said : List Message) → AreSaid said c.args.bytes.now.items → AreSaid (said ++ place_reply false id ∷ map (update_notice tables) ls) new))
    c.zero.ensures.zero c.say_all-in-None.ensures.more)

pub returns-in-None-clause-lawful : goal.returns-in-None-clause-lawful
returns-in-None-clause-lawful c =
    let tables = c.args.schema.now.description.tables in
    let ls = c.args.links.now in
    subst (λ (p : Option ℕ). OnOk c.say_all-in-None.result (LawfulAsked tables ls c.args.asked (map talk_of (told_from c.args.schema.now ls c.args.asked p)))) (sym c.in-None.is)
    (on_ok c.say_all-in-None.result (λ (told : (read_id (id_text c.zero.result) ≡ Some c.zero.result) × AllByRecursion (IsTold tables) ls).
    lawful_unknown c.args.schema.now ls c.args.asked c.requires.start (subst (λ (id : ℕ). read_id (id_text id) ≡ Some id) c.zero.ensures.zero told.0) told.1) c.say_all-in-None.ensures.told)
