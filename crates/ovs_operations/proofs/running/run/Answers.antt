use Rattle.std.proofs.Common.{◌≡◌, ◌∙◌, ap}
use Rattle.ovs_rows.specs.Draft.{DraftValue}
use Rattle.ovs_operations.proofs.Fronts.{may_stay, comes_to}
use Rattle.ovs_operations.proofs.running.run.Goals as goal

pub returns-clause-change : goal.returns-clause-change
returns-clause-change c =
    let s = c.args.context.now in
    let may = may_stay s.before.now.schema.description.tables s.before.now.rows s.commit c.schema-schema.ensures.rows in
    let before : c.run_all.new.work.before ≡ s.before.now = c.run_all.ensures.before ∙ ap (λ (d : DraftValue). d.before) c.new-work.ensures.value in
    comes_to s _ c.in_ok-fine.fine c.run_all.new.work.before c.run_all.new.work.rows c.in_ok-change.change before
    (rw c.new-work.ensures.value at c.in_ok-fine.ensures.rows) ((rw c.new-work.ensures.value at c.in_ok-fine.ensures.commit) may) c.in_ok-change.ensures.value
