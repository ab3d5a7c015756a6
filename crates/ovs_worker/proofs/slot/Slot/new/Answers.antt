use Rattle.std.proofs.Common.{rules, ap, sym, ◌∙◌}
use Rattle.ovs_session.specs.Serving.{fresh}
use Rattle.ovs_session.proofs.Moved.{moved_from}
use Rattle.ovs_worker.proofs.slot.Slot.new.Goals as goal

pub invariant_of-result : goal.invariant_of-result
invariant_of-result g c = record {
  lawful = ∣ record {
    begun = search rules;
    moved = moved_from g.V.Service.answers g.V.Service.tells _ _ _ _ _ _ _
        (ap g.R.Read.remaining (c.of.ensures ∙ sym c.new.ensures.device))
        (ap g.W.Write.contents (c.of-2.ensures ∙ sym c.new-2.ensures.device))
        (ap fresh c.of-began.ensures ∙ sym c.new-session.ensures.fresh ∙ sym c.read_when_told.ensures.same);
    end = record {
      closed = search rules;
      bad = search rules;
      read_faults = record { once = search rules; never = search rules };
      write_faults = record { once = search rules; never = search rules };
    };
  } ∣₁;
}
