use Rattle.std.proofs.Common.{◌≡◌, [], ◌∷◌, sym, ◌∙◌, ap, subst, arith}
use Rattle.std.specs.Prelude.{Ok, OnOk}
use Rattle.ovs_rows.specs.Change.{IsChangeOf}
use Rattle.ovs_rows.specs.Row.{no_rows}
use Rattle.ovs_rows.specs.After.{fits}
use Rattle.ovs_rows.proofs.Laws.{difference_fits, no_rows_of}
use Rattle.ovs_links.specs.Link.{IsStart}
use Rattle.ovs_links.specs.Sets.{Holds, Among}
use Rattle.ovs_links.specs.Store.{Stored, tables_of, rows_of, start_in}
use Rattle.ovs_links.specs.Restarting.{after_restart}
use Rattle.ovs_links.specs.Answers.{AreOfOneSource}
use Rattle.ovs_links.specs.declared.link.Link.{Link}
use Rattle.ovs_source.specs.Commits.{IsSource}
use Rattle.ovs_source.specs.Trimming.{BeginsEpoch}
use Rattle.ovs_source.proofs.Histories.{source_done, rows_of_its_tables}
use Rattle.ovs_source.proofs.Begun.{source_restarted, begins_epoch, never_forks}
use Rattle.ovs_source.proofs.source.Source.restart.Goals as goal
use Rattle.ovs_source.proofs.source.Source.restart.Goals.{in-Ok, in-Err-NoMemory}

pub restart-requires-clause-of_tables : goal.restart-requires-clause-of_tables
restart-requires-clause-of_tables c = subst (λ (v : Stored). IsChangeOf (tables_of v) c.args.link.change) (sym c.self.view_is) c.requires.tables

pub restart-requires-clause-done : goal.restart-requires-clause-done
restart-requires-clause-done c = source_done c.self.inside.store c.self.invariant.history c.self.invariant.is

pub restart-requires-clause-start : goal.restart-requires-clause-start
restart-requires-clause-start c = subst IsStart (sym (ap (λ (l : Link). l.prev) c.requires.renewing)) c.requires.start

pub restart-requires-clause-above : goal.restart-requires-clause-above
restart-requires-clause-above c =
    let prev = ap (λ (l : Link). l.prev) c.requires.renewing in
    let same = ap start_in c.self.view_is in
    omega (arith, prev, same)

pub restart-requires-clause-fits : goal.restart-requires-clause-fits
restart-requires-clause-fits c =
    let s = c.args.self.now in
    let source = subst IsSource c.self.view_is c.self.invariant in
    ap (λ (l : Link). fits no_rows l.change) c.requires.renewing
    ∙ difference_fits (tables_of s) no_rows (rows_of s) (no_rows_of (tables_of s)) (rows_of_its_tables s source.history source.is)

pub invariant_of-self : goal.invariant_of-self
invariant_of-self c =
    let s = c.args.self.now in
    let left = c.restart.ensures.after ∙ ap (λ (v : Stored). after_restart v c.args.link c.restart.result) c.self.view_is in
    source_restarted s c.restart.new.self c.args.link c.requires.renewing c.requires.not_taken c.requires.start c.restart.result (subst IsSource c.self.view_is c.self.invariant) left

pub returns-clause-restarted : goal.returns-clause-restarted
returns-clause-restarted c =
    let s = c.args.self.now in
    elim c.match-restart.branch [
      | in-Ok w ↦
          let left = c.restart.ensures.after ∙ ap (λ (v : Stored). after_restart v c.args.link c.restart.result) c.self.view_is ∙ ap (λ r. after_restart s c.args.link r) w.in-Ok.is in
          subst (λ r. OnOk r ((c.restart.new.self ≡ after_restart s c.args.link (Ok tt)) × BeginsEpoch s c.args.link c.restart.new.self)) (sym w.result-is)
          (left, begins_epoch s c.restart.new.self c.args.link c.requires.renewing c.requires.not_taken c.requires.start left)
      | in-Err-NoMemory w ↦
          subst (λ r. OnOk r ((c.restart.new.self ≡ after_restart s c.args.link (Ok tt)) × BeginsEpoch s c.args.link c.restart.new.self)) (sym w.result-is) tt
    ]

pub unreachable-requires-in-Err-Fork : goal.unreachable-requires-in-Err-Fork
unreachable-requires-in-Err-Fork c =
    let s = c.args.self.now in
    let source = subst IsSource c.self.view_is c.self.invariant in
    let none = rw c.in-Err-Fork.field-0-is at c.in-Err-Fork.ensures.source in
    none (subst (λ (v : Stored). AreOfOneSource (tables_of v) (Holds v.links) (Among (c.args.link ∷ []))) (sym c.self.view_is)
    (never_forks s c.restart.new.self c.args.link c.requires.renewing c.requires.not_taken c.requires.start source)) tt
