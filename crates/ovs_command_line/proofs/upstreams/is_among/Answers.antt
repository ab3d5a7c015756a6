use Rattle.std.proofs.Common.{All, subst, take_all, List}
use Rattle.std.proofs.lemmas.List.Elements.{All-more}
use Rattle.ovs_address.specs.declared.address.Address.{Address}
use Rattle.ovs_address.specs.Address.{AreSame}
use Rattle.ovs_command_line.proofs.upstreams.is_among.Goals as goal

pub loop-other-preserved : goal.loop-other-preserved
loop-other-preserved c = record {
  none = All-more (λ (other : Address). ¬ (AreSame other c.args.address.now)) c.args.others.now c.loop-other.other-index c.other-item.result c.loop-other-test.true
      c.loop-other.invariant.none
      (subst (λ (other : Address). ¬ (AreSame other c.args.address.now)) c.other-item.is (c.is_same.ensures.another c.if-is_same.false));
}

pub returns-clause-none : goal.returns-clause-none
returns-clause-none c = λ _. subst (λ (xs : List Address). All (λ (other : Address). ¬ (AreSame other c.args.address.now)) xs)
    (take_all c.loop-other.other-index c.args.others.now c.loop-other-test.false) c.loop-other.invariant.none
