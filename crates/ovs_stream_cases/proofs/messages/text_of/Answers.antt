use Rattle.ovs_stream_cases.proofs.SaidBytes.{object_says, taken_object}
use Rattle.ovs_stream_cases.proofs.messages.text_of.Goals as goal

pub returns-in-Ok-clause-frame : goal.returns-in-Ok-clause-frame
returns-in-Ok-clause-frame c =
    taken_object c.in_ok-text.text.items c.as_slice.result.now c.new-framer.result c.feed.new.self c.in-Ok.field-0 c.as_slice.ensures.value c.in_ok-text.ensures.written.balanced
    c.new-framer.ensures.is_new (c.in-Ok.ensures.fed (λ e. cc)) (c.in-Ok.ensures.answer (λ e. cc))

pub returns-in-Ok-clause-says : goal.returns-in-Ok-clause-says
returns-in-Ok-clause-says c =
    object_says c.args.message.now c.in_ok-text.text.items c.in_ok-text.ensures.written
    (taken_object c.in_ok-text.text.items c.as_slice.result.now c.new-framer.result c.feed.new.self c.in-Ok.field-0 c.as_slice.ensures.value c.in_ok-text.ensures.written.balanced
    c.new-framer.ensures.is_new (c.in-Ok.ensures.fed (λ e. cc)) (c.in-Ok.ensures.answer (λ e. cc)))
