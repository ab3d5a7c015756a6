use Rattle.std.proofs.Common.{sym, ap, ◌∙◌}
use Rattle.std.specs.Prelude.{is_some}
use Rattle.ovs_data.specs.Datum.{contains}
use Rattle.ovs_data.proofs.Differences.{contains-at}
use Rattle.ovs_data.proofs.Searches.{is_some-copied}
use Rattle.ovs_data.proofs.datum.atoms.Atoms.contains.Goals as goal

pub returns : goal.returns
returns c = record {
  value = c.is_some.ensures ∙ is_some-copied c.find.result ∙ ap is_some c.find.ensures.value ∙ sym (contains-at c.args.atom.now c.deref.result.now)
      ∙ ap (contains c.args.atom.now) (c.deref.ensures.value ∙ c.self.view_is);
}
