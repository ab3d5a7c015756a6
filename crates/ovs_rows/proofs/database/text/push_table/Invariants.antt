use Rattle.std.proofs.Common.{◌≡◌, ◌∷◌, ◌++◌, map, false, string_bytes}
use Rattle.ovs_rows.specs.ObjectText.{listed_text}
use Rattle.ovs_rows.specs.Writing.{row_member, rows_in}
use Rattle.ovs_rows.proofs.ObjectTexts.{HaveIds}
use Rattle.ovs_rows.proofs.database.text.push_table.Given as goal

-- the text, and behind it the rows that are left, is the whole; and if those have ids of 128 bits, all have
abbrev pub invariant-loop-place : goal.invariant-loop-place
invariant-loop-place l = record {
  whole : string_bytes l.text ++ listed_text l.later (map (row_member l.table.columns) l.place-iterator) ≡ string_bytes l.fn.text ++ 123 ∷ listed_text false (map (row_member l.table.columns) (rows_in l.number l.rows));
  ids : HaveIds l.place-iterator → HaveIds (rows_in l.number l.rows);
}
