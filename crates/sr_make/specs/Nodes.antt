-- The link-state PDU of each node of a made net.
use Rattle.std.specs.Prelude.{ℕ, ◌+◌, ◌%◌, ◌==◌, ◌||◌, Bool, false, if◌then◌else◌, List, [], ◌∷◌, ◌++◌, Some, None, filter, map}
use Rattle.sr_wire.specs.declared.registry.TheConstants.{ADDRESS_BITS, ADJ_SID_FORM}
use Rattle.sr_wire.specs.Numbers.{bit_if}
use Rattle.sr_subtlv.specs.declared.sid.Sid.TheVariants.{Index, Label}
use Rattle.sr_lsp.specs.declared.lsp.Lsp.{Lsp}
use Rattle.sr_lsp.specs.declared.table.Part.{Part}
use Rattle.sr_lsp.specs.declared.table.Part.TheVariants.{Reach as ReachPart, Prefix as PrefixPart, Risk as RiskPart, Capability as CapabilityPart}
use Rattle.sr_make.specs.declared.pairs.MadePair.{MadePair}

-- the pair joins node i to another
abbrev pub touches : ℕ → MadePair → Bool
touches i pair = (pair.span.first == i) || (pair.span.second == i)

-- the other end of the pair is the one that isn't node i
abbrev pub across : ℕ → MadePair → ℕ
across i pair = if pair.span.first == i then pair.span.second else pair.span.first

-- the address of node i is its router id too: node 1 has 10.0.0.1
abbrev pub address_of : ℕ → ℕ
address_of i = 0x0a000000 + i

-- the SRGB of node i is the 8000 labels from 16000 on
abbrev pub made_capability : ℕ → Part
made_capability i = CapabilityPart (record {
  router = address_of i;
  flags = 0;
  srgb = Some (record { flags = 0x80; ranges = record { first = 16000; size = 8000 } ∷ [] });
  msd = [];
})

-- the Prefix-SID of node i has the flag N, at each third node P too, and at each sixth E too (RFC 8667, 2.1)
abbrev pub made_sid_flags : ℕ → ℕ
made_sid_flags i = 0x40 + bit_if (i % 3 == 0) 0x20 + bit_if (i % 6 == 0) 0x10

-- node i announces its own address as a prefix of 32 bits, with index i
abbrev pub made_prefix : ℕ → Part
made_prefix i = PrefixPart (record {
  metric = 0;
  down = false;
  length = ADDRESS_BITS;
  prefix = address_of i;
  sids = record { flags = made_sid_flags i; algorithm = 0; sid = Index i } ∷ [];
})

-- node i announces its link of the pair: the pair's number is the link's identifier at both ends, and comes on top of
-- 24000 in the adjacency SID
abbrev pub made_reach : ℕ → MadePair → Part
made_reach i pair = ReachPart (record {
  neighbour = across i pair;
  pseudonode = 0;
  metric = pair.metric;
  ids = Some (record { local = pair.number; remote = pair.number });
  local = None;
  remote = None;
  adj = record { flags = ADJ_SID_FORM; weight = 0; sid = Label (24000 + pair.number) } ∷ [];
})

-- node i announces that its link of the pair belongs to the pair's shared-risk link group
abbrev pub made_risk : ℕ → MadePair → Part
made_risk i pair = RiskPart (record {
  neighbour = across i pair;
  pseudonode = 0;
  numbered = false;
  local = pair.number;
  remote = pair.number;
  groups = pair.group ∷ [];
})

-- node i announces its links in order of their pairs, and then their groups in the same order
abbrev pub made_links : List MadePair → ℕ → List Part
made_links pairs i = map (made_reach i) (filter (touches i) pairs) ++ map (made_risk i) (filter (touches i) pairs)

-- the link-state PDU of node i says its SRGB, its prefix, and its links
abbrev pub made_lsp : List MadePair → ℕ → Lsp
made_lsp pairs i = record {
  lifetime = 1200;
  id = record { system = i; pseudonode = 0; fragment = 0 };
  sequence = 1;
  checksum = 0;
  flags = 0x03;
  parts = made_capability i ∷ made_prefix i ∷ made_links pairs i;
}
