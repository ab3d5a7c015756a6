-- The last lines of the script `world`.
use Rattle.std.specs.Prelude.{ℕ, ◌+◌, List, [], ◌∷◌, ◌++◌, length, take, codes}
use Rattle.std.specs.FinMap.{len}
use Rattle.std.specs.Fmt.{decimal}
use Rattle.ovs_types.specs.Id.{id_text}
use Rattle.ovs_links.specs.Store.{Stored, head_of}
use Rattle.ovs_world.specs.Worlds.{WorldValue}

-- of node n: its head, how many links it holds, and how many of them its chain has
abbrev pub node_line : ℕ → Stored → List ℕ
node_line n s = codes "node " ++ (decimal n ++ (codes " head " ++ (id_text (head_of s) ++ (codes " links " ++ (decimal (len s.links) ++ (codes " chain " ++ (decimal (length s.folded) ++ codes "\n")))))))

-- of nodes that are counted from n
abbrev pub node_lines : ℕ → List Stored → List ℕ
node_lines n [] = []
node_lines n (s ∷ ss) = node_line n s ++ node_lines (n + 1) ss

-- a world's nodes: the source, and after it the relays, nine at most
abbrev pub nodes_of : WorldValue → List Stored
nodes_of w = take 10 (w.source ∷ w.relays)

abbrev pub last_lines : WorldValue → List ℕ
last_lines w = node_lines 0 (nodes_of w)
