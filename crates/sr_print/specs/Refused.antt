-- Why a line is refused, as text.
use Rattle.std.specs.Prelude.{ℕ, List, [], ◌++◌, length, codes, decimal}
use Rattle.std.specs.List.{flat_map}
use Rattle.sr_print.specs.declared.refusal.Refusal.{Refusal}
use Rattle.sr_print.specs.declared.refusal.Refusal.TheVariants.{UnknownWord, BadForm, BadHex, Malformed, Stale, StagedFull, Rule, Overload, NoNode, NoLink, NoDestination, NotAffected, NoVersion, WatchRunning, LineTooLong, VersionsFull, NoProof, ProofFull, NoSuchVersion}
use Rattle.sr_model.specs.declared.rule.DomainRule.{DomainRule}
use Rattle.sr_model.specs.declared.rule.DomainRule.TheVariants.{NoSrgb, SrgbBad, DuplicateIndex, IndexOutside, AdjLabelClash, ZeroMetric, DuplicateLink, TooManyNodes, TooManyLinks}
use Rattle.sr_print.specs.Printed.{ended, node_word, numbered, word}

-- the number and the name of a broken rule
abbrev pub rule_name : DomainRule → List ℕ
rule_name (NoSrgb node) = codes "11 NoSrgb"
rule_name (SrgbBad node) = codes "12 SrgbBad"
rule_name (DuplicateIndex index low high) = codes "13 DuplicateIndex"
rule_name (IndexOutside index node) = codes "14 IndexOutside"
rule_name (AdjLabelClash label node) = codes "15 AdjLabelClash"
rule_name (ZeroMetric from to) = codes "16 ZeroMetric"
rule_name (DuplicateLink from to) = codes "17 DuplicateLink"
rule_name (TooManyNodes count) = codes "18 TooManyNodes"
rule_name (TooManyLinks count) = codes "19 TooManyLinks"

-- the number and the name of a refusal
abbrev pub refusal_name : Refusal → List ℕ
refusal_name UnknownWord = codes "1 UnknownWord"
refusal_name BadForm = codes "2 BadForm"
refusal_name BadHex = codes "3 BadHex"
refusal_name (Malformed offset what) = codes "4 Malformed"
refusal_name (Stale stored given) = codes "5 Stale"
refusal_name StagedFull = codes "6 StagedFull"
refusal_name (Rule rule) = rule_name rule
refusal_name (Overload node) = codes "20 Overload"
refusal_name (NoNode node) = codes "21 NoNode"
refusal_name (NoLink from to n) = codes "22 NoLink"
refusal_name (NoDestination node) = codes "23 NoDestination"
refusal_name (NotAffected node) = codes "24 NotAffected"
refusal_name NoVersion = codes "25 NoVersion"
refusal_name WatchRunning = codes "26 WatchRunning"
refusal_name LineTooLong = codes "27 LineTooLong"
refusal_name VersionsFull = codes "28 VersionsFull"
refusal_name NoProof = codes "30 NoProof"
refusal_name ProofFull = codes "31 ProofFull"
refusal_name (NoSuchVersion version) = codes "32 NoSuchVersion"

-- what a broken rule names: numbers in decimal digits, and nodes by their system ids
abbrev pub rule_details : DomainRule → List ℕ
rule_details (NoSrgb node) = node_word node
rule_details (SrgbBad node) = node_word node
rule_details (DuplicateIndex index low high) = word (decimal index) ++ node_word low ++ node_word high
rule_details (IndexOutside index node) = word (decimal index) ++ node_word node
rule_details (AdjLabelClash label node) = word (decimal label) ++ node_word node
rule_details (ZeroMetric from to) = node_word from ++ node_word to
rule_details (DuplicateLink from to) = node_word from ++ node_word to
rule_details (TooManyNodes count) = word (decimal count)
rule_details (TooManyLinks count) = word (decimal count)

-- what a refusal names: numbers in decimal digits, and nodes by their system ids
abbrev pub details : Refusal → List ℕ
details UnknownWord = []
details BadForm = []
details BadHex = []
details (Malformed offset what) = word (decimal offset) ++ word (decimal what)
details (Stale stored given) = word (decimal stored) ++ word (decimal given)
details StagedFull = []
details (Rule rule) = rule_details rule
details (Overload node) = node_word node
details (NoNode node) = node_word node
details (NoLink from to n) = node_word from ++ node_word to ++ word (decimal n)
details (NoDestination node) = node_word node
details (NotAffected node) = node_word node
details NoVersion = []
details WatchRunning = []
details LineTooLong = []
details VersionsFull = []
details NoProof = []
details ProofFull = []
details (NoSuchVersion version) = word (decimal version)

-- a broken rule, as a commit would be refused for it
unfoldable pub broken_line : DomainRule → List ℕ
broken_line rule = ended (codes "broken " ++ rule_name rule ++ rule_details rule)

-- broken rules in their order, and how many they are
abbrev pub check_lines : List DomainRule → List ℕ
check_lines rules = flat_map broken_line rules ++ ended (numbered (codes "check broken ") (length rules))

-- the line of this number is refused
abbrev pub refused_line : ℕ → Refusal → List ℕ
refused_line number refusal =
    ended (codes "refused " ++ decimal number ++ word (refusal_name refusal) ++ details refusal)
