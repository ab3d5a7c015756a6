use Rattle.std.proofs.Common.{ap, subst}
use Rattle.ovs_links.specs.StepChains.{IsFoldedChain}
use Rattle.ovs_links.specs.Steps.{folded_of}
use Rattle.ovs_node.specs.InStep.{IsOneChain}
use Rattle.ovs_node.specs.Ledger.{steps_in}
use Rattle.ovs_node.proofs.Begins.{store_chain}
use Rattle.ovs_node.proofs.intake.Intake.folded.Goals as goal

pub returns-clause-chain : goal.returns-clause-chain
returns-clause-chain g c =
    let s = c.self.inside.store in
    let is : IsFoldedChain (folded_of s.schema s.folded) = subst (λ f. IsFoldedChain f) c.folded.ensures.value c.folded.ensures.chain in
    rw (ap (λ f. f.steps) c.folded.ensures.value) (subst (λ schema. IsOneChain schema (steps_in s)) c.self.invariant.0 (store_chain s c.head.ensures.store is))
