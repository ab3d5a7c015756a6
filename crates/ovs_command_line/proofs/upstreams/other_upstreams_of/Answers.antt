use Rattle.std.proofs.Common.{◌≡◌, ◌∙◌, sym, subst, refl, All, take, List, take_all}
use Rattle.std.proofs.lemmas.List.Elements.{All-more}
use Rattle.std.specs.Prelude.{Contains}
use Rattle.std.specs.List.{AllZip}
use Rattle.ovs_address.specs.declared.address.Address.{Address}
use Rattle.ovs_address.specs.Address.{AreSame}
use Rattle.clap.specs.Words.{found_of, rows_of}
use Rattle.ovs_command_line.specs.declared.command_option.CommandOption.TheVariants.{Upstream}
use Rattle.ovs_command_line.specs.Values.{parts_of}
use Rattle.ovs_command_line.specs.Options.{Addresses, words_of, SpellsAllowed, SpellsUpstream}
use Rattle.ovs_command_line.proofs.Addresses.{spelled_at, spelled_in}
use Rattle.ovs_command_line.proofs.upstreams.other_upstreams_of.Goals as goal

pub returns-then-is_among-clause-fault : goal.returns-then-is_among-clause-fault
returns-then-is_among-clause-fault c =
    let items = c.deref-upstream-items.result.now in
    let rows = rows_of (found_of c.args.found.now) in
    let words = words_of Upstream rows in
    let each : AllZip (SpellsUpstream rows) words items =
    subst (λ (xs : List Addresses). AllZip (SpellsUpstream rows) words xs) (sym c.deref-upstream-items.ensures.value) c.in_ok-upstreams.ensures.value.0 in
    let word = spelled_at (SpellsUpstream rows) words items each c.loop-upstream.upstream-index c.upstream-item.result c.loop-upstream-test.true in
    let found = c.is_among.ensures.among c.if-is_among.true in
    let among = subst (λ (xs : List Address). Contains xs found.0) c.as_slice.ensures.value found.1 in
    let part = spelled_in (SpellsAllowed rows) (parts_of word.0) _ word.2 found.0
    (subst (λ (u : Addresses). Contains u.items found.0) c.upstream-item.is among) in
    (refl, (c.requires.listens, (part.0, found.0, (word.0, word.1, part.1), part.2, found.2)))

pub loop-upstream-preserved : goal.loop-upstream-preserved
loop-upstream-preserved c = record {
  others = All-more (λ (upstream : Addresses). All (λ (address : Address). ¬ (AreSame address c.args.listen.now)) upstream.items) c.deref-upstream-items.result.now c.loop-upstream.upstream-index c.upstream-item.result c.loop-upstream-test.true
      c.loop-upstream.invariant.others
      (subst (λ (u : Addresses). All (λ (address : Address). ¬ (AreSame address c.args.listen.now)) u.items) c.upstream-item.is
      (subst (λ (xs : List Address). All (λ (address : Address). ¬ (AreSame address c.args.listen.now)) xs) c.as_slice.ensures.value (c.is_among.ensures.none c.if-is_among.false)));
}

pub returns-clause-others : goal.returns-clause-others
returns-clause-others c =
    let items = c.deref-upstream-items.result.now in
    let whole : take c.loop-upstream.upstream-index items ≡ items = take_all c.loop-upstream.upstream-index items c.loop-upstream-test.false in
    subst (λ (xs : List Addresses). All (λ (upstream : Addresses). All (λ (address : Address). ¬ (AreSame address c.args.listen.now)) upstream.items) xs) (whole ∙ c.deref-upstream-items.ensures.value)
    c.loop-upstream.invariant.others
