use Rattle.std.proofs.Common.{ap, sym, subst}
use Rattle.ovs_types.specs.Schema.{SchemaValue}
use Rattle.ovs_rows.specs.After.{Fits, Tells}
use Rattle.ovs_rows.specs.Change.{IsChangeOf}
use Rattle.ovs_rows.specs.Database.{DatabaseValue}
use Rattle.ovs_rows.specs.Row.{no_rows}
use Rattle.ovs_upstream.proofs.Copies.{fits_test, unfit_test}
use Rattle.ovs_upstream.proofs.up_session.whole_copy.Goals as goal

pub apply-requires : goal.apply-requires
apply-requires c = subst (λ (s : SchemaValue). IsChangeOf s.description.tables c.args.rows.now) (sym (ap (λ d. d.schema) c.in_ok-copy.ensures.value)) c.requires.tables

pub returns-in-Err-clause-unfit : goal.returns-in-Err-clause-unfit
returns-in-Err-clause-unfit c =
    λ other. unfit_test no_rows c.args.rows.now c.in-Err.refusal
    (subst (λ (d : DatabaseValue). Tells c.in-Err.refusal d.rows c.args.rows.now) c.in_ok-copy.ensures.value c.in-Err.ensures.refused) other

pub returns-in-Ok-clause-fit : goal.returns-in-Ok-clause-fit
returns-in-Ok-clause-fit c =
    fits_test no_rows c.args.rows.now (subst (λ (d : DatabaseValue). Fits d.rows c.args.rows.now) c.in_ok-copy.ensures.value c.in-Ok.ensures.done.fit)
