-- What is read is an operation on the tables.
use Rattle.std.proofs.Common.{◌≡◌, ℕ, List, [], ◌∷◌, ◌++◌, Bool, true, false, cond, ◌&&◌, Option, Some, None, Result, Ok, Err, refl, sym, ap, subst}
use Rattle.std.specs.Prelude.{IfOk, ◌<◌, is_none, codes, option_and_then, length, slice_get}
use Rattle.std.specs.List.{AllByRecursion}
use Rattle.std.specs.Option.{ok_or}
use Rattle.std.proofs.lemmas.Option.{slice_get_within}
use Rattle.serde_json.specs.Data.{Data, Items, no_items, item, Members, no_members, member}
use Rattle.serde_json.specs.Find.{get, as_str, as_array, as_object, as_bool}
use Rattle.ovs_json.specs.FirstFault.{both, with_one}
use Rattle.ovs_json.specs.Parts.{three_items}
use Rattle.ovs_json.specs.Results.{◌>>=◌, result_map}
use Rattle.ovs_json.proofs.FaultOrder.{both_found}
use Rattle.ovs_json.proofs.Steps.{bind_found, map_found, ok_or_found}
use Rattle.ovs_data.specs.declared.atom.AtomKind.{AtomKind}
use Rattle.ovs_data.specs.declared.atom.AtomKind.TheVariants as kinds
use Rattle.ovs_data.specs.declared.column.Column.{Column}
use Rattle.ovs_data.specs.declared.datum.Datum.{Datum}
use Rattle.ovs_data.specs.NamedReading.{NamedIds, read_named, read_named_atom, SpellsNamedAtom}
use Rattle.ovs_data.proofs.Spellings.{column_found, column_kept, named_atoms}
use Rattle.ovs_types.specs.declared.schema.NamedColumn.{NamedColumn}
use Rattle.ovs_types.specs.declared.schema.Table.{Table}
use Rattle.ovs_types.specs.Column.{loose}
use Rattle.ovs_types.specs.Datum.{IsDatumOf}
use Rattle.ovs_types.specs.Finding.{column_named, table_named}
use Rattle.ovs_types.proofs.Finders.{column_at, table_at}
use Rattle.ovs_rows.specs.Row.{columns_at, columns_in}
use Rattle.ovs_query.specs.ConditionReading.{named, is_integer}
use Rattle.ovs_query.specs.SelectReading.{read_select}
use Rattle.ovs_operations.specs.declared.operation_error.OperationError.{OperationError}
use Rattle.ovs_operations.specs.declared.operation_error.OperationError.TheVariants.{UnknownTable, UnknownColumn, NotSupported, Aborted, NotOwner, BadOperation}
use Rattle.ovs_operations.specs.declared.operation.Mutator.{Mutator}
use Rattle.ovs_operations.specs.declared.operation.Mutator.TheVariants.{Set, Add, Subtract, Insert, Delete}
use Rattle.ovs_operations.specs.declared.operation.Mutation.{Mutation}
use Rattle.ovs_operations.specs.declared.operation.Alteration.{Alteration}
use Rattle.ovs_operations.specs.declared.operation.Alteration.TheVariants as alters
use Rattle.ovs_operations.specs.declared.operation.Operation.{Operation}
use Rattle.ovs_operations.specs.declared.operation.Operation.TheVariants as does
use Rattle.ovs_operations.specs.OperationError.{Read, rank, in_value, in_query}
use Rattle.ovs_operations.specs.Operation.{IsValueOf, IsMutationOf, AreMutationsOf, IsOperationOf}
use Rattle.ovs_operations.specs.Reading.{is, is_scalar, summed_column, value_column, read_column, read_mutator, read_items, read_members, read_mutation_of, read_mutation, read_mutations, read_cell, read_row, read_conditions, read_own_name, read_table, read_updated, read_mutated, read_deleted, read_inserted, read_insert, read_alteration, read_comment, read_commit, read_assert, read_named_operation, read_operation}

read_so : {X : Type 0} (P : X → Type 0) (x y : X) → ◌≡◌ {A = Read X} (Ok x) (Ok y) → P x → P y
read_so P x y e h = subst P (let same : x ≡ y = cc in same) h

-- ---- lists

all_and : {X : Type 0} (P : X → Type 0) (xs : List X) (x : X) → AllByRecursion P xs → P x → AllByRecursion P (xs ++ x ∷ [])
all_and P [] x all one = (one, tt)
all_and P (y ∷ ys) x all one = (all.0, all_and P ys x all.1 one)

module _ {X : Type 0} (P : X → Type 0) where
  -- all so far are so
  abbrev AreGood : Read (List X) → Type 0
  AreGood r = (xs : List X) → r ≡ Ok xs → AllByRecursion P xs

  one_more : (so_far : Read (List X)) (one : Read X) → AreGood so_far → ((x : X) → one ≡ Ok x → P x) → AreGood (with_one rank so_far one)
  one_more so_far one all good xs e =
      let p = map_found (λ (p : List X × X). p.0 ++ p.1 ∷ []) (both rank so_far one) xs e in
      let q = both_found rank so_far one p.0 p.1 in
      subst (AllByRecursion P) (sym p.2) (all_and P p.0.0 p.0.1 (all p.0.0 q.0) (good p.0.1 q.1))

  items_good : (read : Data → Read X) → ((d : Data) (x : X) → read d ≡ Ok x → P x) → (so_far : Read (List X)) (ds : Items) → AreGood so_far → AreGood (read_items read so_far ds)
  items_good read each so_far no_items all = all
  items_good read each so_far (item d ds) all = items_good read each (with_one rank so_far (read d)) ds (one_more so_far (read d) all (each d))

  members_good : (read : List ℕ → Data → Read X) → ((name : List ℕ) (d : Data) (x : X) → read name d ≡ Ok x → P x) → (so_far : Read (List X)) (ms : Members) → AreGood so_far → AreGood (read_members read so_far ms)
  members_good read each so_far no_members all = all
  members_good read each so_far (member name d ms) all = members_good read each (with_one rank so_far (read name d)) ms (one_more so_far (read name d) all (each name d))

  none_good : AreGood (Ok [])
  none_good xs e = read_so (AllByRecursion P) [] xs e tt

-- ---- values

value_of : (names : NamedIds) (c : Column) (d : Data) (v : Datum) → in_value (read_named names c d) ≡ Ok v → IsDatumOf c v
value_of names c d v e =
    let laws = named_atoms names in
    column_kept (read_named_atom names) (SpellsNamedAtom names) laws c d v (column_found (read_named_atom names) (SpellsNamedAtom names) laws c d v (by (read_named names c d) e))
  where
    by : (r : _) → in_value r ≡ Ok v → r ≡ Ok v
    by (Ok x) f = cc
    by (Err x) f = absurd cc

integer_is : (kind : AtomKind) → is_integer kind ≡ true → kind ≡ kinds.Integer
integer_is kinds.Integer e = refl
integer_is kinds.Boolean e = absurd cc
integer_is kinds.String e = absurd cc
integer_is kinds.Uuid e = absurd cc

first_so : (a b : Bool) → (a && b) ≡ true → a ≡ true
first_so true b e = refl
first_so false b e = absurd cc

-- a test that lets a column pass
passed : {X : Type 0} (test : Bool) (r : Read X) (fault : OperationError) (x : X) → cond test r (Err fault) ≡ Ok x → (test ≡ true) × (r ≡ Ok x)
passed true r fault x e = (refl, e)
passed false r fault x e = absurd cc

kept : {X : Type 0} (test : Bool) (r : Read X) (fault : OperationError) (x : X) → cond test (Err fault) r ≡ Ok x → r ≡ Ok x
kept true r fault x e = absurd cc
kept false r fault x e = e

summed : (names : NamedIds) (c wanted : Column) (v : Datum) → summed_column c ≡ Ok wanted → IsDatumOf wanted v → (is_scalar c ≡ true) × (c.key ≡ kinds.Integer) × IsDatumOf c v
summed names c wanted v e of =
    let p = passed (is_integer c.key && is_none c.value) (cond (is_scalar c) (Ok c) (Err NotSupported)) BadOperation wanted e in
    let q = passed (is_scalar c) (Ok c) NotSupported wanted p.1 in
    (q.0, integer_is c.key (first_so (is_integer c.key) (is_none c.value) p.0), read_so (λ w. IsDatumOf w v) wanted c (sym q.1) of)

value_is : (names : NamedIds) (m : Mutator) (c wanted : Column) (d : Data) (v : Datum) → value_column m c d ≡ Ok wanted → IsDatumOf wanted v → IsValueOf c m v
value_is names Set c wanted d v e of = read_so (λ w. IsDatumOf w v) wanted c (sym e) of
value_is names Add c wanted d v e of = summed names c wanted v e of
value_is names Subtract c wanted d v e of = summed names c wanted v e of
value_is names Insert c wanted d v e of = read_so (λ w. IsDatumOf w v) wanted (loose c) (sym (kept (is_scalar c) (Ok (loose c)) BadOperation wanted e)) of
value_is names Delete c wanted d v e of = tt

-- ---- mutations

-- a column with its number
abbrev Stands : List NamedColumn → ℕ × Column → Type 0
Stands columns p = (n : NamedColumn) × (slice_get columns p.0 ≡ Some n) × (n.column ≡ p.1)

stands_named : (columns : List NamedColumn) (name : List ℕ) (p : ℕ × Column) → ok_or (column_named columns name) UnknownColumn ≡ Ok p → Stands columns p
stands_named columns name p e =
    (record { name = name; column = p.1 }, column_at columns name p.0 p.1 (ok_or_found (column_named columns name) UnknownColumn p e), refl)

module _ (names : NamedIds) (columns : List NamedColumn) where
  mutation_of : (column : ℕ × Column) (m : Mutator) (d : Data) (x : Mutation) → Stands columns column → read_mutation_of names column m d ≡ Ok x → IsMutationOf columns x
  mutation_of column m d x stands e =
      let p = bind_found (value_column m column.1 d) _ x e in
      let q = bind_found (in_value (read_named names p.0 d)) _ x p.2 in
      let is : IsValueOf column.1 m q.0 = value_is names m column.1 p.0 d q.0 p.1 (value_of names p.0 d q.0 q.1) in
      read_so (IsMutationOf columns) (record { column = column.0; mutator = m; value = q.0 }) x q.2 (stands.0, stands.1, subst (λ c. IsValueOf c m q.0) (sym stands.2) is)

  mutation_good : (d : Data) (x : Mutation) → read_mutation names columns d ≡ Ok x → IsMutationOf columns x
  mutation_good d x e =
      let parts = bind_found (ok_or (three_items d) BadOperation) _ x e in
      let p = bind_found (both rank (read_column columns parts.0.0) (read_mutator (as_str parts.0.1))) _ x parts.2 in
      let q = both_found rank (read_column columns parts.0.0) (read_mutator (as_str parts.0.1)) p.0 p.1 in
      let name = bind_found (ok_or (as_str parts.0.0) BadOperation) (λ name. ok_or (column_named columns name) UnknownColumn) p.0.0 q.0 in
      mutation_of p.0.0 p.0.1 parts.0.2 x (stands_named columns name.0 p.0.0 name.2) p.2

  cell_good : (name : List ℕ) (d : Data) (x : Mutation) → read_cell names columns name d ≡ Ok x → IsMutationOf columns x
  cell_good name d x e =
      let p = bind_found (ok_or (column_named columns name) UnknownColumn) (λ column. read_mutation_of names column Set d) x e in
      mutation_of p.0 Set d x (stands_named columns name p.0 p.1) p.2

  mutations_good : (o : Option Data) (xs : List Mutation) → read_mutations names columns o ≡ Ok xs → AreMutationsOf columns xs
  mutations_good None xs e = absurd cc
  mutations_good (Some d) xs e =
      let p = bind_found (ok_or (as_array d) BadOperation) (read_items (read_mutation names columns) (Ok [])) xs e in
      items_good (IsMutationOf columns) (read_mutation names columns) mutation_good (Ok []) p.0 (none_good (IsMutationOf columns)) xs p.2

  row_good : (o : Option Data) (xs : List Mutation) → read_row names columns o ≡ Ok xs → AreMutationsOf columns xs
  row_good None xs e = absurd cc
  row_good (Some d) xs e =
      let p = bind_found (ok_or (as_object d) BadOperation) (read_members (read_cell names columns) (Ok [])) xs e in
      members_good (IsMutationOf columns) (read_cell names columns) cell_good (Ok []) p.0 (none_good (IsMutationOf columns)) xs p.2

  -- what becomes of rows of these columns
  abbrev IsAlterationOf : Alteration → Type 0
  IsAlterationOf (alters.Write ms) = AreMutationsOf columns ms
  IsAlterationOf alters.Delete = Unit {0}

  written : (r : Read (List Mutation)) → ((xs : List Mutation) → r ≡ Ok xs → AreMutationsOf columns xs) → (a : Alteration) → result_map alters.Write r ≡ Ok a → IsAlterationOf a
  written r good a e =
      let p = map_found alters.Write r a e in
      subst IsAlterationOf (sym p.2) (good p.0 p.1)

-- ---- operations

module _ (names : NamedIds) (tables : List Table) where
  -- a table with its number
  abbrev IsTable : ℕ × Table → Type 0
  IsTable t = (t.0 < length tables) × (columns_at tables t.0 ≡ t.1.columns)

  table_good : (d : Data) (t : ℕ × Table) → read_table tables d ≡ Ok t → IsTable t
  table_good d t e =
      let name = bind_found (ok_or (option_and_then as_str (get (codes "table") d)) BadOperation) (λ name. ok_or (table_named tables name) UnknownTable) t e in
      let at = table_at tables name.0 t.0 t.1 (ok_or_found (table_named tables name.0) UnknownTable t name.2) in
      (slice_get_within tables t.0 t.1 at.0, ap columns_in at.0)

  alteration_good : (read : List NamedColumn → Data → Read Alteration) → ((columns : List NamedColumn) (d : Data) (a : Alteration) → read columns d ≡ Ok a → IsAlterationOf names columns a)
      → (d : Data) (op : Operation) → read_alteration names tables read d ≡ Ok op → IsOperationOf tables op
  alteration_good read good d op e =
      let t = bind_found (read_table tables d) _ op e in
      let p = map_found (λ p. does.Alter t.0.0 p.0 p.1) (both rank (read_conditions names t.0.1.columns (get (codes "where") d)) (read t.0.1.columns d)) op t.2 in
      let q = both_found rank (read_conditions names t.0.1.columns (get (codes "where") d)) (read t.0.1.columns d) p.0 p.1 in
      subst (IsOperationOf tables) (sym p.2) (of t.0 p.0.0 p.0.1 (table_good d t.0 t.1) (good t.0.1.columns d p.0.1 q.1))
    where
      of : (t : ℕ × Table) (conditions : _) (a : Alteration) → IsTable t → IsAlterationOf names t.1.columns a → IsOperationOf tables (does.Alter t.0 conditions a)
      of t conditions (alters.Write ms) is all = (is.0, subst (λ columns. AreMutationsOf columns ms) (sym is.1) all)
      of t conditions alters.Delete is all = tt

  inserted_good : (id : ℕ) (d : Data) (op : Operation) → read_inserted names tables id d ≡ Ok op → IsOperationOf tables op
  inserted_good id d op e =
      let t = bind_found (read_table tables d) _ op e in
      let ms = bind_found (read_row names t.0.1.columns (get (codes "row") d)) _ op t.2 in
      let is = table_good d t.0 t.1 in
      read_so (IsOperationOf tables) (does.Insert (record { table = t.0.0; id = id }) ms.0) op ms.2
      (is.0, subst (λ columns. AreMutationsOf columns ms.0) (sym is.1) (row_good names t.0.1.columns (get (codes "row") d) ms.0 ms.1))

  insert_good : (id : ℕ) (d : Data) (op : Operation) → read_insert names tables id d ≡ Ok op → IsOperationOf tables op
  insert_good id d op e =
      let p = map_found (λ (p : Operation × Unit {0}). p.0) (both rank (read_inserted names tables id d) (read_own_name names id (get (codes "uuid-name") d))) op e in
      let q = both_found rank (read_inserted names tables id d) (read_own_name names id (get (codes "uuid-name") d)) p.0 p.1 in
      subst (IsOperationOf tables) (sym p.2) (inserted_good id d p.0.0 q.0)

  abbrev IsGood : Read Operation → Type 0
  IsGood r = (op : Operation) → r ≡ Ok op → IsOperationOf tables op

  branch : (b : Bool) (r s : Read Operation) → IsGood r → IsGood s → IsGood (cond b r s)
  branch true r s good other = good
  branch false r s good other = other

  refused : (fault : OperationError) → IsGood (Err fault)
  refused fault op e = absurd cc

  nothing : (op : Operation) → ◌≡◌ {A = Read Operation} (Ok does.Nothing) (Ok op) → IsOperationOf tables op
  nothing op e = read_so (IsOperationOf tables) does.Nothing op e tt

  select_good : (r : _) → IsGood (result_map does.Select r)
  select_good r op e = let p = map_found does.Select r op e in subst (IsOperationOf tables) (sym p.2) tt

  comment_good : (d : Data) → IsGood (read_comment d)
  comment_good d op e = let p = bind_found (ok_or (option_and_then as_str (get (codes "comment") d)) BadOperation) (λ text. Ok does.Nothing) op e in nothing op p.2

  commit_good : (d : Data) → IsGood (read_commit d)
  commit_good d op e =
      let p = bind_found (ok_or (option_and_then as_bool (get (codes "durable") d)) BadOperation) (λ durable. cond durable (Err NotSupported) (Ok does.Nothing)) op e in
      branch p.0 (Err NotSupported) (Ok does.Nothing) (refused NotSupported) nothing op p.2

  assert_good : (owns : List ℕ → Bool) (d : Data) → IsGood (read_assert owns d)
  assert_good owns d op e =
      let p = bind_found (ok_or (option_and_then as_str (get (codes "lock") d)) BadOperation) (λ name. cond (owns name) (Ok does.Nothing) (Err NotOwner)) op e in
      branch (owns p.0) (Ok does.Nothing) (Err NotOwner) nothing (refused NotOwner) op p.2

  insert_with : (id : Option ℕ) (d : Data) → IsGood (ok_or id BadOperation >>= λ own. read_insert names tables own d)
  insert_with id d op e =
      let p = bind_found (ok_or id BadOperation) (λ own. read_insert names tables own d) op e in
      insert_good p.0 d op p.2

  updated_good : (columns : List NamedColumn) (d : Data) (a : Alteration) → read_updated names columns d ≡ Ok a → IsAlterationOf names columns a
  updated_good columns d = written names columns (read_row names columns (get (codes "row") d)) (row_good names columns (get (codes "row") d))

  mutated_good : (columns : List NamedColumn) (d : Data) (a : Alteration) → read_mutated names columns d ≡ Ok a → IsAlterationOf names columns a
  mutated_good columns d = written names columns (read_mutations names columns (get (codes "mutations") d)) (mutations_good names columns (get (codes "mutations") d))

  deleted_good : (columns : List NamedColumn) (d : Data) (a : Alteration) → read_deleted columns d ≡ Ok a → IsAlterationOf names columns a
  deleted_good columns d a e = read_so (IsAlterationOf names columns) alters.Delete a e tt

  named_good : (owns : List ℕ → Bool) (id : Option ℕ) (op : List ℕ) (d : Data) → IsGood (read_named_operation names tables owns id op d)
  named_good owns id op d =
      branch (is op (codes "insert")) _ _ (insert_with id d) (
      branch (is op (codes "update")) _ _ (alteration_good (read_updated names) updated_good d) (
      branch (is op (codes "mutate")) _ _ (alteration_good (read_mutated names) mutated_good d) (
      branch (is op (codes "delete")) _ _ (alteration_good read_deleted deleted_good d) (
      branch (is op (codes "select")) _ _ (select_good (in_query (read_select (named names) tables d))) (
      branch (is op (codes "comment")) _ _ (comment_good d) (
      branch (is op (codes "commit")) _ _ (commit_good d) (
      branch (is op (codes "abort")) _ _ (refused Aborted) (
      branch (is op (codes "wait")) _ _ (refused NotSupported) (
      branch (is op (codes "assert")) _ _ (assert_good owns d) (refused BadOperation))))))))))

  -- what is read is an operation on the tables
  pub operation_good : (owns : List ℕ → Bool) (id : Option ℕ) (d : Data) (op : Operation) → read_operation names tables owns id d ≡ Ok op → IsOperationOf tables op
  operation_good owns id d op e =
      let p = bind_found (ok_or (option_and_then as_str (get (codes "op") d)) BadOperation) (λ name. read_named_operation names tables owns id name d) op e in
      named_good owns id p.0 d op p.2

  -- also of what a call gave
  pub operation_kept : {F : Type 0} (owns : List ℕ → Bool) (id : Option ℕ) (d : Data) (r : Result (Read Operation) F) → IfOk r (λ x. x ≡ read_operation names tables owns id d)
      → IfOk r (λ x. IfOk x (IsOperationOf tables))
  operation_kept owns id d (Err f) exact = tt
  operation_kept owns id d (Ok (Err f)) exact = tt
  operation_kept owns id d (Ok (Ok op)) exact = operation_good owns id d op (sym exact)
