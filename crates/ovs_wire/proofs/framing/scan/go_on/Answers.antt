use Rattle.std.proofs.Common.{◌≡◌, ◌∙◌, ⊎_elim, rules, ap, sym, arith}
use Rattle.ovs_wire.specs.declared.framing.scan_position.ScanPosition.{ScanPosition}
use Rattle.ovs_wire.proofs.NextByte.{deeper}
use Rattle.ovs_wire.proofs.framing.scan.go_on.Goals as goal

pub returns-then-next-gt-MAX_NESTING-clause-fault : goal.returns-then-next-gt-MAX_NESTING-clause-fault
returns-then-next-gt-MAX_NESTING-clause-fault c = λ before is same at. deeper before c.args.byte is
    (omega (
      arith,
      c.if-next-gt-MAX_NESTING.true,
      ap (λ (p : ScanPosition). p.depth) (c.past-next.ensures.value before at),
    ))

pub returns-then-len-most-clause-fault : goal.returns-then-len-most-clause-fault
returns-then-len-most-clause-fault c = λ before is same at. (
  omega (arith, is.limits.fits, same, c.if-len-most.true),
  omega (arith, c.if-next-gt-MAX_NESTING.false, ap (λ (p : ScanPosition). p.depth) (c.past-next.ensures.value before at)),
  λ none. ⊎_elim
      (λ (both : (c.args.len ≡ 0) × (c.args.byte ≡ 123)). both.1)
      (λ (some : c.args.len ≡ 0 → ⊥). absurd (some (sym same ∙ none)))
      c.else-len-eq0.either,
)

pub returns-clause-nests : goal.returns-clause-nests
returns-clause-nests c = search rules

pub returns-then-byte-ne123-clause-place : goal.returns-then-byte-ne123-clause-place
returns-then-byte-ne123-clause-place c = search rules

pub returns-then-byte-ne123-clause-opens : goal.returns-then-byte-ne123-clause-opens
returns-then-byte-ne123-clause-opens c = search rules
