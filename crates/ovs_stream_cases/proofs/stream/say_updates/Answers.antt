use Rattle.std.proofs.Common.{◌++◌, map, take, sym, subst}
use Rattle.std.specs.List.{AllByRecursion}
use Rattle.ovs_links.specs.Sets.{IsOfTables}
use Rattle.ovs_stream_cases.specs.Said.{update_notice, IsTold}
use Rattle.ovs_stream_cases.proofs.Places.{all_next}
use Rattle.ovs_stream_cases.proofs.SaidBytes.{said_update}
use Rattle.ovs_stream_cases.proofs.stream.say_updates.Goals as goal

pub say_update-requires : goal.say_update-requires
say_update-requires c = record {
  tables = subst (IsOfTables c.args.schema.now.description.tables) (sym c.link-item.is) (c.requires.tables c.loop-link.link-index c.link-item.result c.loop-link-test.true);
}

pub loop-link-preserved : goal.loop-link-preserved
loop-link-preserved c =
    let tables = c.args.schema.now.description.tables in
    let ls = c.args.links.now in
    let k = c.loop-link.link-index in
    let l = c.link-item.result in
    record {
      more = λ said before.
          said_update tables said ls k l c.say_update.new.bytes.items c.loop-link-test.true c.link-item.is
          (c.in_ok-say_update.ensures.more (said ++ map (update_notice tables) (take k ls)) (c.loop-link.invariant.more said before));
      told = all_next (IsTold tables) ls k l (AllByRecursion (IsTold tables) ls) c.loop-link-test.true c.link-item.is c.in_ok-say_update.ensures.told c.loop-link.invariant.told;
    }
