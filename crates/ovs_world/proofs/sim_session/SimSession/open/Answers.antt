use Rattle.std.proofs.Common.{rules, ◌≡◌, ◌∙◌, ap, sym, subst}
use Rattle.ovs_reader.specs.Session.{SessionValue, MayBeShown, is_over}
use Rattle.ovs_reader.proofs.Showing.{first_shown}
use Rattle.ovs_links.specs.StepChains.{start_at}
use Rattle.ovs_upstream.specs.Hearing.{opening}
use Rattle.ovs_upstream.specs.Requests.{schema_request}
use Rattle.ovs_world.specs.Nodes.{folded_in}
use Rattle.ovs_world.specs.declared.sim_session.SimSession.{SimSession}
use Rattle.ovs_world.proofs.Asked.{begins_here, opens_by}
use Rattle.ovs_world.proofs.sim_session.SimSession.open.Goals as goal

pub ask-requires-clause-shown : goal.ask-requires-clause-shown
ask-requires-clause-shown c = subst (λ (s : SessionValue). MayBeShown s (folded_in c.args.node.now)) (sym c.new.ensures.value) (first_shown c.args.node.now c.requires.store)

pub ask-requires-clause-begun : goal.ask-requires-clause-begun
ask-requires-clause-begun c =
    let f = folded_in c.args.node.now in
    ap (λ (s : SessionValue). is_over s.start f) c.new.ensures.value
    ∙ sym (begins_here f c.start.result (c.start.ensures.value ∙ ap start_at c.folded.ensures.value))

pub returns-clause-opened : goal.returns-clause-opened
returns-clause-opened c =
    let f = folded_in c.args.node.now in
    let begun : SimSession = record {
      relay = c.args.relay;
      upstream = c.args.upstream;
      begun = c.start.result;
      up = c.in_ok-up.up;
      reader = c.new.result;
      upward = c.new-2.result;
      downward = c.new-3.result;
    } in
    let up : c.in_ok-up.up ≡ opening c.args.node.now.schema c.args.asked = search rules in
    let request : c.remove-request.result ≡ schema_request c.args.node.now.schema = search rules in
    opens_by f c.args.asked c.remove-request.result begun c.ask.new.self c.in_ok-ask.ensures.asks (c.start.ensures.value ∙ ap start_at c.folded.ensures.value) up c.new.ensures.value
    c.new-2.ensures.idle c.new-3.ensures.idle request
