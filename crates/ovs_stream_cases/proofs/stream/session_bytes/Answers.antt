use Rattle.std.proofs.Common.{[], ◌∷◌}
use Rattle.ovs_stream_cases.specs.Said.{schema_reply, said}
use Rattle.ovs_stream_cases.proofs.LawfulSaid.{lawful_said}
use Rattle.ovs_stream_cases.proofs.SaidBytes.{none_said, said_stream}
use Rattle.ovs_stream_cases.proofs.stream.session_bytes.Goals as goal

pub returns : goal.returns
returns c =
    let schema = c.args.schema.now in
    let ls = c.args.links.now in
    let place = c.place_of-place.result in
    record {
      session = record {
        place = place;
        is_place = c.place_of-place.ensures.place;
        stream = said_stream (said schema ls c.args.asked place) c.say_from.new.bytes.items
            (c.in_ok-say_from.ensures.more (schema_reply schema ∷ []) (c.in_ok-say_schema.ensures.more [] (none_said c.new-bytes.result.items c.new-bytes.ensures.items)));
        lawful = lawful_said schema ls c.args.asked place c.in_ok-say_schema.ensures.told c.in_ok-say_from.ensures.lawful;
      };
    }
