use Rattle.std.proofs.Common.{sym, ◌∙◌, ap, true≢false}
use Rattle.std.specs.Prelude.{option_map}
use Rattle.std.specs.Int.{w128, from_be_bytes}
use Rattle.ovs_data.proofs.Ids.{none_if_absent, parsed-at_36}
use Rattle.ovs_data.proofs.hyphenated.read_number.Goals as goal

pub returns-in-Err : goal.returns-in-Err
returns-in-Err c = record {
  value = ap (option_map (from_be_bytes w128)) (none_if_absent _ (λ p. true≢false (sym (c.in-Err.ensures.ok.1 (p.0, parsed-at_36 _ c.if-text-ne36.false ∙ p.1)))));
}
