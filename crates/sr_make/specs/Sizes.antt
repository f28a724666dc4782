-- That made scripts fit what reads them.
use Rattle.std.specs.Prelude.{ℕ, ◌≤◌, ◌<◌, ◌+◌, ◌^◌, List, All, length}
use Rattle.sr_lsp.specs.InRange.{FitsLsp}
use Rattle.sr_lsp.specs.Text.{HasSpelling}
use Rattle.sr_engine.specs.Lines.{longest_line, most_bytes}
use Rattle.sr_make.specs.declared.making.TheConstants.{MOST_MADE_NODES}
use Rattle.sr_make.specs.declared.pairs.MadePair.{MadePair}
use Rattle.sr_make.specs.Nodes.{made_lsp}
use Rattle.sr_make.specs.Pairs.{made_pairs}
use Rattle.sr_make.specs.Script.{lsp_line, made_script}

-- the pair's number and metric are small enough for the fields in which a PDU announces them
pub record IsMadePair (pair : MadePair) : Type 0 where
  pub number : pair.number < 2 ^ 16
  pub metric : pair.metric < 2 ^ 24

-- the numbers of each pair fit, and there are few pairs
pub record AreMadePairs (pairs : List MadePair) : Type 0 where
  pub each : All IsMadePair pairs
  pub few : length pairs ≤ 512

-- the PDU of node i is in range and has a spelling, and its line with its line feed is short enough to be read
pub record FitsScript (pairs : List MadePair) (i : ℕ) : Type 0 where
  pub range : FitsLsp (made_lsp pairs i)
  pub spelling : HasSpelling (made_lsp pairs i)
  pub line : length (lsp_line pairs i) ≤ longest_line + 1

-- each node of each made net fits, and the script is short enough to be read
abbrev pub EachMadePduFits : Type 0
EachMadePduFits = (nodes start : ℕ) → nodes ≤ MOST_MADE_NODES
    → ((i : ℕ) → i ≤ nodes → FitsScript (made_pairs nodes start) i)
    × (length (made_script nodes start) ≤ most_bytes)
