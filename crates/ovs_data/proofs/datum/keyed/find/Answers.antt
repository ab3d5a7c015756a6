use Rattle.std.proofs.Common.{Some, sym, ap, ◌∙◌, rules}
use Rattle.std.proofs.lemmas.Fn.{always_returns_same}
use Rattle.std.specs.Option.{option_copied}
use Rattle.ovs_data.specs.Atom.{atom_cmp, atom_total}
use Rattle.ovs_data.proofs.Searches.{by_key, search_found, search_absent}
use Rattle.ovs_data.proofs.datum.keyed.find.Goals as goal

-- the closure compares an entry's key with the wanted one
pub returns-in_err-number : goal.returns-in_err-number
returns-in_err-number g c =
    let key = g.E.Keyed.key in
    let searched = c.binary_search_by.ensures in
    record {
      value = ap option_copied c.from_residual.ensures
          ∙ sym (search_absent atom_cmp atom_total key c.args.entries.now c.requires.ascending c.args.key.now c.binary_search_by.result
          (searched.position (by_key atom_cmp atom_total key c.args.key.now) (always_returns_same _ _ _ (λ a r f called. search rules)))
          (sym c.ok.ensures.value ∙ c.in_err-number.was));
    }

pub returns : goal.returns
returns g c =
    let key = g.E.Keyed.key in
    let searched = c.binary_search_by.ensures in
    record {
      value = ap Some c.index-entries-number.is
          ∙ sym (search_found atom_cmp atom_total key c.args.entries.now c.requires.ascending c.args.key.now c.binary_search_by.result searched.bound
          (searched.position (by_key atom_cmp atom_total key c.args.key.now) (always_returns_same _ _ _ (λ a r f called. search rules)))
          c.in_ok-number.number (sym c.ok.ensures.value ∙ c.in_ok-number.was) c.index-entries-number.result);
    }
