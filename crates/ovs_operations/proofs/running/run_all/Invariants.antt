use Rattle.std.proofs.Common.{◌≡◌, length, map}
use Rattle.serde_json.specs.View.{view}
use Rattle.ovs_operations.specs.Effect.{effect}
use Rattle.ovs_operations.specs.Given.{context_of, MayCommit}
use Rattle.ovs_operations.proofs.Fronts.{with_front}
use Rattle.ovs_operations.proofs.running.run_all.Given as goal

-- the answers so far, and what is left on the rows so far
abbrev pub invariant-loop-left : goal.invariant-loop-left
invariant-loop-left l = record {
  rest : with_front (map view l.answers.items) (effect (context_of l.context) (map view l.left) l.ids l.work.rows)
      ≡ with_front (map view l.fn.answers.items) (effect (context_of l.context) (map view l.fn.operations) l.fn.row_ids l.fn.work.rows);
  before : l.work.before ≡ l.fn.work.before;
  commit : MayCommit l.context l.fn.work.rows → MayCommit l.context l.work.rows;
}

abbrev pub decreases-loop-left : goal.decreases-loop-left
decreases-loop-left l = length l.left
