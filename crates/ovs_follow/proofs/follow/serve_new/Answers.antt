use Rattle.std.proofs.Common.{◌∙◌, subst, ap}
use Rattle.ovs_session.specs.Serving.{SessionValue, fresh_within}
use Rattle.ovs_session.specs.Moving.{Moved}
use Rattle.ovs_follow.specs.UpstreamState.{UpstreamStateValue, Hears, Asks}
use Rattle.ovs_follow.proofs.follow.serve_new.Goals as goal

pub returns-clause-followed : goal.returns-clause-followed
returns-clause-followed g c =
    let began = c.with_limit-session.ensures.fresh ∙ ap (fresh_within c.args.most_bytes) c.new-state.ensures.begun in
    let serve = c.serve-ended.ensures in
    record {
      now = c.serve-ended.new.session;
      moved = subst (λ (s : SessionValue UpstreamStateValue). Moved Hears Asks c.args.limits.most_unsent (g.R.Read.remaining c.args.reader.now.device) (g.R.Read.remaining c.serve-ended.new.reader.device)
          (g.W.Write.contents c.args.writer.now.device) (g.W.Write.contents c.serve-ended.new.writer.device) s c.serve-ended.new.session) began serve.moved;
      counted = c.counts-counts.ensures.value;
      sends = c.into_parts-sink.ensures.sent ∙ ap (λ f. f.sent) c.into_state.ensures.value;
      makes = c.into_parts-sink.ensures.made ∙ ap (λ f. f.made) c.into_state.ensures.value;
      closed = λ is. let done = serve.closed (ap (λ s. s.ended) began) (ap (λ s. s.is_at_end) began) is in (done.0, done.1);
      bad = λ is. serve.bad (ap (λ s. s.ended) began) is;
      fault_is = c.fault_of-fault.ensures.fault;
    }
