use Rattle.std.proofs.Common.{rules, ◌∙◌}
use Rattle.ovs_wire.proofs.Depths.{past_is}
use Rattle.ovs_wire.proofs.framing.scan_position.ScanPosition.past.Goals as goal

pub returns-then-not-escaped : goal.returns-then-not-escaped
returns-then-not-escaped c = record { value = λ before is. (search rules) ∙ past_is c.args.self c.args.byte before is }

pub returns-else-not-escaped : goal.returns-else-not-escaped
returns-else-not-escaped c = record { value = λ before is. (search rules) ∙ past_is c.args.self c.args.byte before is }

pub returns : goal.returns
returns c = record { value = λ before is. (search rules) ∙ past_is c.args.self c.args.byte before is }
