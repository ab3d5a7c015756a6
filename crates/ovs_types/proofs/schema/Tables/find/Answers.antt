use Rattle.std.proofs.Common.{Some, sym, ap, option_map, ◌∙◌, rules}
use Rattle.std.proofs.lemmas.Fn.{always_returns_same}
use Rattle.ovs_types.specs.declared.schema.Table.{Table}
use Rattle.ovs_types.proofs.Finders.{by_name, search_found, search_absent, table_at, table_absent, table_reserved}
use Rattle.ovs_types.proofs.schema.Tables.find.Goals as goal

-- the closure compares a table's name with the wanted one
pub returns-in_err-number-clause-found : goal.returns-in_err-number-clause-found
returns-in_err-number-clause-found c =
    let self = c.as_slice-tables.ensures in
    let searched = c.binary_search_by.ensures in
    let name = c.args.name.now in
    let none = search_absent (λ (x : Table). x.name) (λ x. x) c.as_slice-tables.result.now (rw self.all self.ascending) name c.binary_search_by.result
    (searched.position (by_name (λ (x : Table). x.name) name) (always_returns_same _ _ _ (λ a r f called. search rules)))
    (sym c.ok.ensures.value ∙ c.in_err-number.was) in
    ap (option_map (λ p. (p.0, p.1.now))) c.from_residual.ensures ∙ sym (rw (← self.all) none)

pub returns-in_err-number-clause-absent : goal.returns-in_err-number-clause-absent
returns-in_err-number-clause-absent c = table_absent c.args.self.now c.args.name.now c.from_residual.result (returns-in_err-number-clause-found c)

pub returns-clause-found : goal.returns-clause-found
returns-clause-found c =
    let self = c.as_slice-tables.ensures in
    let searched = c.binary_search_by.ensures in
    let name = c.args.name.now in
    let found = search_found (λ (x : Table). x.name) (λ x. x) c.as_slice-tables.result.now (rw self.all self.ascending) name c.binary_search_by.result searched.bound
    (searched.position (by_name (λ (x : Table). x.name) name) (always_returns_same _ _ _ (λ a r f called. search rules)))
    c.in_ok-number.number (sym c.ok.ensures.value ∙ c.in_ok-number.was) c.index-tables-number.result in
    ap (λ t. Some (c.in_ok-number.number, t)) c.index-tables-number.is ∙ sym (rw (← self.all) found)

pub returns-clause-there : goal.returns-clause-there
returns-clause-there c = table_at c.args.self.now c.args.name.now c.in_ok-number.number _ (sym (returns-clause-found c))

pub returns-clause-reserved : goal.returns-clause-reserved
returns-clause-reserved c = λ reserved.
    let self = c.as_slice-tables.ensures in
    absurd (table_reserved c.args.self.now self.names c.args.name.now c.in_ok-number.number _ (sym (returns-clause-found c)) reserved)
