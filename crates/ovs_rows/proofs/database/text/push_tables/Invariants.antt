use Rattle.std.proofs.Common.{◌≡◌, ◌∷◌, ◌++◌, map, drop, false, string_bytes}
use Rattle.std.specs.List.{enumerate_from}
use Rattle.ovs_rows.specs.ObjectText.{listed_text}
use Rattle.ovs_rows.specs.Writing.{table_member}
use Rattle.ovs_rows.proofs.database.text.push_tables.Given as goal

-- the text, and behind it the tables that are left, is the whole
abbrev pub invariant-loop-number : goal.invariant-loop-number
invariant-loop-number l =
    string_bytes l.text ++ listed_text l.later (map (table_member l.rows) (enumerate_from l.number (drop l.number l.tables))) ≡ string_bytes l.fn.text ++ 123 ∷ listed_text false (map (table_member l.rows) (enumerate_from 0 l.tables))
