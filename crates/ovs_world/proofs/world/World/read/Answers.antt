use Rattle.std.proofs.Common.{map, sym, ◌∙◌, subst}
use Rattle.serde_json.specs.View.{view}
use Rattle.ovs_query.specs.Answer.{only_reads, AreResults}
use Rattle.ovs_links.specs.Store.{Stored, tables_of, rows_of}
use Rattle.ovs_rows.specs.Database.{DatabaseValue}
use Rattle.ovs_world.specs.Steps.{RefusesRead}
use Rattle.ovs_world.specs.declared.error.WorldError.TheVariants.{NoMemory}
use Rattle.ovs_world.proofs.Broken.{err_by}
use Rattle.ovs_world.proofs.Refused.{all_seen}
use Rattle.ovs_world.proofs.world.World.read.Goals as goal

pub returns-then-not-read_only-clause-refused : goal.returns-then-not-read_only-clause-refused
returns-then-not-read_only-clause-refused c = (c.in-Some.ensures.some.0, all_seen only_reads c.args.operations.now ∙ sym c.read_only.ensures.value ∙ c.if-not-read_only.true)

pub returns-in_err-transact_read-clause-refused : goal.returns-in_err-transact_read-clause-refused
returns-in_err-transact_read-clause-refused c =
    err_by c.from_residual.result NoMemory (RefusesRead c.args.self.now c.args.node (map view c.args.operations.now)) c.from_residual.ensures.1
    (c.in-Some.ensures.some.0, all_seen only_reads c.args.operations.now ∙ sym c.read_only.ensures.value ∙ c.if-not-read_only.false)

pub returns-clause-reads : goal.returns-clause-reads
returns-clause-reads c =
    let each = c.in_ok-transact_read.ensures.each in
    let node = c.in-Some.ensures.some in
    let operations = map view c.args.operations.now in
    record {
      node_is = node.0;
      reads = all_seen only_reads c.args.operations.now ∙ sym c.read_only.ensures.value ∙ c.if-not-read_only.false;
      answers = each.0;
      all = c.new.ensures.value ∙ each.1;
      each = subst (λ (s : Stored). AreResults (tables_of s) (rows_of s) operations each.0) node.1
          (subst (λ (d : DatabaseValue). AreResults d.schema.description.tables d.rows operations each.0) c.database.ensures.value each.2);
    }
