-- The rows of the table say what the layouts say, written out field by field.
use Rattle.std.proofs.Common.{◌≡◌, Bool, true, false, MatchBool, nat_le, ℕ, List, [], ◌∷◌, ◌++◌, map, refl, sym, ap, ◌∙◌}
use Rattle.std.proofs.lemmas.List.{map-append}
use Rattle.sr_wire.specs.Format.{EachSays, SaysRun}
use Rattle.sr_lsp.specs.declared.capability.Capability.{Capability}
use Rattle.sr_lsp.specs.declared.prefix.Prefix.{Prefix}
use Rattle.sr_lsp.specs.declared.reach.Reach.{Reach}
use Rattle.sr_lsp.specs.declared.table.Part.{Part}
use Rattle.sr_lsp.specs.declared.table.Part.TheVariants.{Reach as ReachPart, Prefix as PrefixPart}
use Rattle.sr_lsp.specs.Capability.{SaysCapability}
use Rattle.sr_lsp.specs.Layouts.{SayNeighbours, SaysAddress, SaysAllPrefixes, SaysAllReaches, SaysNeighbour, SaysPrefixes, SaysRouter}
use Rattle.sr_lsp.specs.Prefix.{PrefixEntry, SaysOwn, SaysPrefix, bits_of, prefix_layout}
use Rattle.sr_lsp.specs.Reach.{Entry, SaysOne, SaysReach, entry_layout}

-- of an entry of TLV 22
neighbour_from : (entry : Entry) (reach : Reach) → SaysReach entry reach → SaysNeighbour entry reach
neighbour_from entry reach says = record {
  neighbour = says.neighbour;
  pseudonode = says.pseudonode;
  metric = says.metric;
  link = record { subs = says.subs; text = says.are; first_ids = says.say.0; first_local = says.say.1.0; first_remote = says.say.1.1.0; all_adj = says.say.1.1.1.0 };
}

neighbour_to : (entry : Entry) (reach : Reach) → SaysNeighbour entry reach → SaysReach entry reach
neighbour_to entry reach says = record {
  neighbour = says.neighbour;
  pseudonode = says.pseudonode;
  metric = says.metric;
  subs = says.link.subs;
  are = says.link.text;
  say = (says.link.first_ids, (says.link.first_local, (says.link.first_remote, (says.link.all_adj, tt))));
}

neighbours_from : (entries : List Entry) (parts : List Part) → EachSays SaysOne entries parts → (reaches : List Reach) × SayNeighbours entries reaches × (parts ≡ map ReachPart reaches)
neighbours_from [] parts say = ([], refl, say)
neighbours_from (e ∷ es) parts say =
    let more = neighbours_from es say.1 say.3 in (
      say.2.0 ∷ more.0,
      (neighbour_from e say.2.0 say.2.1, more.1),
      say.4 ∙ ap (λ (own : List Part). own ++ say.1) say.2.2 ∙ ap (λ (ps : List Part). ReachPart say.2.0 ∷ ps) more.2,
    )

neighbours_to : (entries : List Entry) (reaches : List Reach) (parts : List Part) → SayNeighbours entries reaches → parts ≡ map ReachPart reaches → EachSays SaysOne entries parts
neighbours_to [] [] parts say same = same
neighbours_to [] (r ∷ rs) parts say same = absurd {0} (cc)
neighbours_to (e ∷ es) [] parts say same = absurd say
neighbours_to (e ∷ es) (r ∷ rs) parts say same =
    (ReachPart r ∷ [], map ReachPart rs, (r, neighbour_to e r say.0, refl), neighbours_to es rs (map ReachPart rs) say.1 refl, same)

pub reaches_from : (value : List ℕ) (parts : List Part) → SaysRun entry_layout SaysOne value parts → SaysAllReaches value parts
reaches_from value parts says =
    let told = neighbours_from says.pieces parts says.say in
    record { entries = says.pieces; reaches = told.0; run = says.run; say = told.1; parts = told.2 }

pub reaches_to : (value : List ℕ) (parts : List Part) → SaysAllReaches value parts → SaysRun entry_layout SaysOne value parts
reaches_to value parts says = record { pieces = says.entries; run = says.run; say = neighbours_to says.entries says.reaches parts says.say says.parts }

-- of an entry of TLV 135
address_from : (entry : PrefixEntry) (prefix : Prefix) → SaysPrefix entry prefix → SaysAddress entry prefix
address_from entry prefix says = record {
  metric = says.metric;
  down = says.down;
  length = says.length;
  address = says.number;
  sids = record { subs = says.subs; text = says.are; all_sids = says.say.0 };
}

address_to : (entry : PrefixEntry) (prefix : Prefix) → SaysAddress entry prefix → SaysPrefix entry prefix
address_to entry prefix says = record {
  metric = says.metric;
  down = says.down;
  length = says.length;
  number = says.address;
  subs = says.sids.subs;
  are = says.sids.text;
  say = (says.sids.all_sids, tt);
}

-- what an entry says, as a part and as a value, by whether its prefix has at most 32 bits
abbrev PartsIf : Bool → PrefixEntry → List Part → Type 0
PartsIf few entry own = MatchBool few ((prefix : Prefix) × SaysPrefix entry prefix × (own ≡ PrefixPart prefix ∷ [])) (own ≡ [])

-- the same as values
abbrev ValuesIf : Bool → PrefixEntry → List Prefix → Type 0
ValuesIf few entry own = MatchBool few ((prefix : Prefix) × SaysAddress entry prefix × (own ≡ prefix ∷ [])) (own ≡ [])

own_from : (few : Bool) (entry : PrefixEntry) (own : List Part) → PartsIf few entry own → (values : List Prefix) × ValuesIf few entry values × (own ≡ map PrefixPart values)
own_from true entry own says = (says.0 ∷ [], (says.0, address_from entry says.0 says.1, refl), says.2)
own_from false entry own says = ([], refl, says)

own_to : (few : Bool) (entry : PrefixEntry) (values : List Prefix) → ValuesIf few entry values → PartsIf few entry (map PrefixPart values)
own_to true entry values says = (says.0, address_to entry says.0 says.1, ap (map PrefixPart) says.2)
own_to false entry values says = ap (map PrefixPart) says

addresses_from : (entries : List PrefixEntry) (parts : List Part) → EachSays SaysOwn entries parts → (prefixes : List Prefix) × SaysPrefixes entries prefixes × (parts ≡ map PrefixPart prefixes)
addresses_from [] parts say = ([], refl, say)
addresses_from (e ∷ es) parts say =
    let own = own_from (nat_le (bits_of e) 32) e say.0 say.2 in
    let more = addresses_from es say.1 say.3 in (
      own.0 ++ more.0,
      (own.0, more.0, own.1, more.1, refl),
      say.4 ∙ ap (λ (ps : List Part). ps ++ say.1) own.2 ∙ ap (λ (ps : List Part). map PrefixPart own.0 ++ ps) more.2 ∙ sym (map-append PrefixPart own.0 more.0),
    )

addresses_to : (entries : List PrefixEntry) (prefixes : List Prefix) (parts : List Part) → SaysPrefixes entries prefixes → parts ≡ map PrefixPart prefixes → EachSays SaysOwn entries parts
addresses_to [] prefixes parts say same = same ∙ ap (map PrefixPart) say
addresses_to (e ∷ es) prefixes parts say same = (
  map PrefixPart say.0,
  map PrefixPart say.1,
  own_to (nat_le (bits_of e) 32) e say.0 say.2,
  addresses_to es say.1 (map PrefixPart say.1) say.3 refl,
  same ∙ ap (map PrefixPart) say.4 ∙ map-append PrefixPart say.0 say.1,
)

pub prefixes_from : (value : List ℕ) (parts : List Part) → SaysRun prefix_layout SaysOwn value parts → SaysAllPrefixes value parts
prefixes_from value parts says =
    let told = addresses_from says.pieces parts says.say in
    record { entries = says.pieces; prefixes = told.0; run = says.run; say = told.1; parts = told.2 }

pub prefixes_to : (value : List ℕ) (parts : List Part) → SaysAllPrefixes value parts → SaysRun prefix_layout SaysOwn value parts
prefixes_to value parts says = record { pieces = says.entries; run = says.run; say = addresses_to says.entries says.prefixes parts says.say says.parts }

-- of TLV 242
pub router_from : (value : List ℕ) (capability : Capability) → SaysCapability value capability → SaysRouter value capability
router_from value capability says = record {
  whole = says.whole;
  depths = says.depths;
  router = says.router;
  flags = says.flags;
  node = record { subs = says.subs; text = says.are; first_srgb = says.say.0; first_msd = says.say.1.0 };
  msd = says.msd;
}

pub router_to : (value : List ℕ) (capability : Capability) → SaysRouter value capability → SaysCapability value capability
router_to value capability says = record {
  whole = says.whole;
  depths = says.depths;
  router = says.router;
  flags = says.flags;
  msd = says.msd;
  subs = says.node.subs;
  are = says.node.text;
  say = (says.node.first_srgb, (says.node.first_msd, tt));
}
