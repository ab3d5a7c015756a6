use Rattle.std.proofs.Common.{ap, subst}
use Rattle.ovs_session.specs.Serving.{SessionValue}
use Rattle.ovs_session.specs.Moving.{Moved}
use Rattle.ovs_follow.specs.declared.schema_query.asker.SchemaQuery.{SchemaQuery}
use Rattle.ovs_follow.specs.SchemaQuery.{Hears, Asks}
use Rattle.ovs_follow.proofs.schema_query.query.query_schema.Goals as goal

pub returns : goal.returns
returns g c = record {
  asked = record {
    now = c.serve-ended.new.session;
    moved = subst (λ (s : SessionValue SchemaQuery). Moved Hears Asks c.args.limits.most_unsent (g.R.Read.remaining c.args.reader.now.device)
        (g.R.Read.remaining c.serve-ended.new.reader.device) (g.W.Write.contents c.args.writer.now.device) (g.W.Write.contents c.serve-ended.new.writer.device) s
        c.serve-ended.new.session) c.with_limit-session.ensures.fresh c.serve-ended.ensures.moved;
    replied = ap (λ (q : SchemaQuery). q.reply) c.into_state-reply.ensures.value;
  };
}
