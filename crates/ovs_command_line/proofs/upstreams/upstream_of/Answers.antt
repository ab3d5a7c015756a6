use Rattle.std.proofs.Common.{◌∙◌, ap, subst, List}
use Rattle.std.proofs.lemmas.Result.{IfOk-weaker, IfErr-weaker}
use Rattle.std.specs.List.{AllZip}
use Rattle.clap.specs.Words.{Text}
use Rattle.ovs_address.specs.Address.{SpellsAddress}
use Rattle.ovs_command_line.specs.Faults.{IsFaultAmong}
use Rattle.ovs_command_line.proofs.Addresses.{texts_of}
use Rattle.ovs_command_line.proofs.upstreams.upstream_of.Goals as goal

pub returns-clause-value : goal.returns-clause-value
returns-clause-value c =
    let met = ap texts_of c.as_slice.ensures.value ∙ c.in_ok-parts.ensures.value in
    IfOk-weaker c.addresses_of.result _ _
    (λ addresses each. subst (λ (ts : List Text). AllZip (SpellsAddress c.args.beyond_loopback) ts addresses.items) met each) c.addresses_of.ensures.value

pub returns-clause-fault : goal.returns-clause-fault
returns-clause-fault c =
    let met = ap texts_of c.as_slice.ensures.value ∙ c.in_ok-parts.ensures.value in
    IfErr-weaker c.addresses_of.result _ _
    (λ fault made. subst (λ (ts : List Text). IsFaultAmong c.args.beyond_loopback ts fault) met made) c.addresses_of.ensures.fault
