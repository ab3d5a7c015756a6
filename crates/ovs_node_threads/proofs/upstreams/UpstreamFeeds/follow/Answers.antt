use Rattle.std.proofs.Common.{sym, subst}
use Rattle.std.proofs.Math.Logic.{∥∥₁_map}
use Rattle.ovs_types.specs.Schema.{SchemaValue}
use Rattle.ovs_links.specs.Sets.{AllOf, IsOfTables}
use Rattle.ovs_node_threads.specs.Lines.{AdmitsIn}
use Rattle.ovs_node_threads.proofs.Admitted.{admitted_more}
use Rattle.ovs_node_threads.proofs.upstreams.UpstreamFeeds.follow.Goals as goal

pub follow_upstream-followed-requires : goal.follow_upstream-followed-requires
follow_upstream-followed-requires g c =
    record { takes = λ l of. subst (λ (s : SchemaValue). IsOfTables s.description.tables l) c.requires.schema of }

pub again-requires : goal.again-requires
again-requires g c =
    let admits = g.C.Connector.admits in
    let lawful = subst (λ (r : _). AdmitsIn admits c.args.up (g.C.In.Read.remaining r)) (sym c.new-reader.ensures.device) c.requires.lawful in
    let was = ∥∥₁_map c.into_end.ensures.admitted (λ a.
    subst (λ (s : _). AllOf (admits c.args.up.schema) s.end.1) (sym c.new-sink.ensures.feed)
    (subst (λ (e : _). AllOf (admits c.args.up.schema) e.1) (sym c.new-feed.ensures.end) (subst (λ (s : SchemaValue). AllOf (admits s) c.into_end.result.1) (sym c.requires.schema) a))) in
    let now = ∥∥₁_map was (λ a. admitted_more c.most_bytes.result admits c.args.up _ _ _ lawful c.follow_upstream-followed.ensures.sent a) in
    record {
      admitted = ∥∥₁_map now (λ a.
          subst (λ (s : SchemaValue). AllOf (admits s) c.into_end-2.result.1) c.requires.schema
          (subst (λ (e : _). AllOf (admits c.args.up.schema) e.1) (sym c.into_end-2.ensures.end) a));
    }
