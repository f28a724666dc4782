-- The bytes of a made script.
use Rattle.std.specs.Prelude.{ℕ, List, ◌++◌, codes}
use Rattle.std.specs.List.{flat_map, range_with_len}
use Rattle.hex.specs.Hex.{encode_lower}
use Rattle.sr_lsp.specs.Text.{lsp_text}
use Rattle.sr_make.specs.declared.pairs.MadePair.{MadePair}
use Rattle.sr_make.specs.Nodes.{made_lsp}
use Rattle.sr_make.specs.Pairs.{made_pairs}

-- the line of node i hands in the octets of its PDU in hexadecimal digits
abbrev pub lsp_line : List MadePair → ℕ → List ℕ
lsp_line pairs i = codes "lsp " ++ encode_lower (lsp_text (made_lsp pairs i)) ++ codes "\n"

-- the lines of the nodes stand in order
abbrev pub lsp_lines : List MadePair → ℕ → List ℕ
lsp_lines pairs nodes = flat_map (lsp_line pairs) (range_with_len 1 nodes)

-- the net is committed and audited, then again with another metric from node 1 to node 2, and again with that pair down
abbrev pub audit_lines : List ℕ
audit_lines =
    codes "commit\naudit\n"
    ++ codes "cost 0000.0000.0001 0000.0000.0002 1 21\ncommit\naudit\n"
    ++ codes "down 0000.0000.0001 0000.0000.0002 1\ncommit\naudit\nshow\n"

-- a made script hands in each node of its net, and then audits the net
abbrev pub made_script : ℕ → ℕ → List ℕ
made_script nodes start = lsp_lines (made_pairs nodes start) nodes ++ audit_lines
