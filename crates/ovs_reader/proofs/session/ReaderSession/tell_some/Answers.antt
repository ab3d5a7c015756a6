use Rattle.std.proofs.Common.{sym, ap, subst, ◌∙◌}
use Rattle.ovs_links.specs.Steps.{tables_in}
use Rattle.ovs_reader.specs.Session.{AreMonitorsOf, AreStepsOf, MayBeShown}
use Rattle.std.specs.Prelude.{length}
use Rattle.ovs_reader.specs.Telling.{AllTold}
use Rattle.ovs_reader.proofs.Memory.{on_err}
use Rattle.ovs_reader.proofs.Fitting.{shown_past}
use Rattle.ovs_reader.proofs.session.ReaderSession.tell_some.Goals as goal

pub told_some-requires : goal.told_some-requires
told_some-requires c = record {
  same_tables = (
    tables_in c.args.folded.now,
    subst (AreMonitorsOf (tables_in c.args.folded.now)) (sym (c.deref.ensures.value ∙ ap (λ s. s.monitors) c.self.view_is)) c.requires.shown.monitors,
    subst (AreStepsOf (tables_in c.args.folded.now)) (sym c.steps.ensures.value) c.requires.shown.steps,
  );
  some = c.requires.some;
}

pub returns-clause-shown : goal.returns-clause-shown
returns-clause-shown c =
    subst (λ s. MayBeShown s c.args.folded.now) (sym c.move_past.ensures.value) (shown_past c.args.self.now c.args.folded.now _ c.requires.shown)

pub returns-in_err-messages-clause-memory : goal.returns-in_err-messages-clause-memory
returns-in_err-messages-clause-memory c =
    let monitors = sym (c.deref.ensures.value ∙ ap (λ s. s.monitors) c.self.view_is) in
    on_err (¬ (AllTold (length c.args.folded.now.steps) c.args.self.now.monitors)) c.from_residual.result
    (λ all. c.in_err-messages.ensures.memory
    (subst (λ ss. AllTold (length ss) c.deref.result.now) (sym c.steps.ensures.value) (subst (AllTold (length c.args.folded.now.steps)) monitors all)))
